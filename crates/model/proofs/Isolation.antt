-- A stream's answers and its record do not depend on the other streams.
use mathlib.Core.Path.{◌≡◌, refl, sym, ap, ap₂, ◌∙◌, subst}
use mathlib.Core.Bool.{true, false, ◌&&◌}
use Rattle.std.specs.Prelude.{Option, None, Some}
use mathlib.Core.List.{List, [], ◌∷◌}
use Prim.Native.Nat.{ℕ}
use lib.Dec.{eqb}
use borrow.Author.Tests.{eqb-true}
use Rattle.laws.specs.Lists.{any_of}
use Rattle.laws.proofs.Tests.{never}
use Rattle.laws.proofs.Lists.{decide, any_head, any_tail}
use Rattle.model.specs.Device.{Stream, Device, fresh, record_of, no_place, put_back}
use Rattle.model.specs.Answers.{bytes_of, answers_in}
use Rattle.model.specs.Replies.{Reply}
use Rattle.model.specs.Commands.{Surroundings}
use Rattle.model.specs.Steps.{Act, command, finish, drained, Step, stream_of, serve, DeviceReply, around, perform_of, step_on, Event, event_of, events_of, final, is_owner, owner_of, belongs, is_creation, says_full, out_of_memory_at}
use Rattle.model.specs.Condition3.{own_events, steps_of}
use Rattle.model.proofs.Seen.{not_full, serve_alone, room_refusal, step_runs, step_refused, Seen, seen, seen_after, Sized, sized_fresh, sized_step, own_seen, other_seen, solo_of, solo_fresh, solo_record, solo_around, solo_put}

-- what is left of a device where only the stream n is on it
abbrev solo : ℕ → Device → Device
solo n d = solo_of n (seen n d)

-- a step of n there, by what it gives where no place is taken
module _ (n : ℕ) (d : Device) (a : Act) where
  abbrev unhindered : Reply
  unhindered = serve (not_full (around d n)) n (record_of n d.places) a

  solo_perform : perform_of (solo n d) a (Some n) ≡ record { refusal = unhindered.refusal; answers = unhindered.answers; device = solo_of n (seen_after unhindered.next (seen n d)) }
  solo_perform =
      (λ i. record { refusal = (there i).refusal; answers = (there i).answers; device = put_back n (there i).next (solo n d) })
      ∙ ap (λ (x : Device). record { refusal = unhindered.refusal; answers = unhindered.answers; device = x }) (solo_put n unhindered.next (seen n d))
    where
      there : serve (around (solo n d) n) n (record_of n (solo n d).places) a ≡ unhindered
      there = ap₂ (λ (x : Surroundings) (r : Option Stream). serve x n r a) (solo_around n d) (solo_record n (seen n d))

-- the same step on the whole device and alone
module _ (n : ℕ) (d : Device) (s : Step) (o : stream_of s.act ≡ Some n) (z : Sized d) (h : out_of_memory_at (event_of s (step_on d s)) ≡ false) where
  abbrev self : Option Stream
  self = record_of n d.places

  abbrev served : Reply
  served = serve (around d n) n self s.act

  abbrev Same : DeviceReply → DeviceReply → Type 0
  Same x y = y ≡ record { refusal = x.refusal; answers = x.answers; device = solo n x.device }

  performed : step_on d s ≡ perform_of d s.act (Some n) → Same (perform_of d s.act (Some n)) (perform_of (solo n d) s.act (Some n))
  unfolding out_of_memory_at
  performed e =
      let sv : served ≡ serve (not_full (around d n)) n self s.act =
      serve_alone (no_place d.places) (around d n) n self s.act (subst (λ (x : DeviceReply). (is_creation s.act && any_of says_full (answers_in (bytes_of x.answers))) ≡ false) e h) in
      solo_perform n d s.act
      ∙ (λ i. record { refusal = (sym sv i).refusal; answers = (sym sv i).answers; device = solo_of n (seen_after (sym sv i).next (seen n d)) })
      ∙ ap (λ (v : Seen). record { refusal = served.refusal; answers = served.answers; device = solo_of n v }) (sym (own_seen n d s.act z))

  same_step : Same (step_on d s) (step_on (solo n d) s)
  same_step =
      decide (eqb (room_refusal s) 0)
      (λ e.
      let runs : step_on d s ≡ perform_of d s.act (Some n) = step_runs d s e ∙ ap (perform_of d s.act) o in
      let there : step_on (solo n d) s ≡ perform_of (solo n d) s.act (Some n) = step_runs (solo n d) s e ∙ ap (perform_of (solo n d) s.act) o in
      subst (λ (x : DeviceReply). Same x (step_on (solo n d) s)) (sym runs) (there ∙ performed runs))
      (λ e. subst (λ (x : DeviceReply). Same x (step_on (solo n d) s)) (sym (step_refused d s e)) (step_refused (solo n d) s e))

-- a step of another stream, or of none, leaves what the stream n alone has
other_step : (n : ℕ) (d : Device) (s : Step) → is_owner n (stream_of s.act) ≡ false → solo n (step_on d s).device ≡ solo n d
other_step n d s b =
    decide (eqb (room_refusal s) 0)
    (λ e. ap (λ (x : DeviceReply). solo n x.device) (step_runs d s e) ∙ of (stream_of s.act) b)
    (λ e. ap (λ (x : DeviceReply). solo n x.device) (step_refused d s e))
  where
    of : (o : Option ℕ) → is_owner n o ≡ false → solo n (perform_of d s.act o).device ≡ solo n d
    of None q = refl
    of (Some m) q = ap (solo_of n) (other_seen n m d s.act q)

-- the device serves the stream that the step belongs to
pub serves_owner : (a : Act) → stream_of a ≡ owner_of a
unfolding stream_of owner_of
serves_owner (command t f) = refl
serves_owner (finish n qt r flags ts) = refl
serves_owner (drained n) = refl

pub owner_is : (n : ℕ) (o : Option ℕ) → is_owner n o ≡ true → o ≡ Some n
owner_is n None e = never (sym e)
owner_is n (Some m) e = ap Some (eqb-true m n e)

-- The whole list

abbrev Isolated : ℕ → Device → List Step → Type 0
Isolated n d ss =
    any_of out_of_memory_at (own_events n (events_of d ss)) ≡ false
    → (own_events n (events_of d ss) ≡ events_of (solo n d) (steps_of (own_events n (events_of d ss))))
    × (record_of n (final d ss).places ≡ record_of n (final (solo n d) (steps_of (own_events n (events_of d ss)))).places)

isolate_own : (n : ℕ) (d : Device) (s : Step) (ss : List Step) → Sized d → belongs n (event_of s (step_on d s)) ≡ true → Isolated n (step_on d s).device ss → Isolated n d (s ∷ ss)
unfolding belongs
isolate_own n d s ss z b ih h =
    let d' = (step_on d s).device in
    let rest = own_events n (events_of d' ss) in
    let h' : any_of out_of_memory_at (event_of s (step_on d s) ∷ rest) ≡ false = simp b at h in
    let there = ih (any_tail out_of_memory_at (event_of s (step_on d s)) rest h') in
    let same = same_step n d s (serves_owner s.act ∙ owner_is n (owner_of s.act) b) z (any_head out_of_memory_at (event_of s (step_on d s)) rest h') in
    simp b (
      ap₂ (λ (x : DeviceReply) (l : List Event). event_of s x ∷ l) (sym same) (there.0 ∙ ap (λ (x : DeviceReply). events_of x.device (steps_of rest)) (sym same)),
      there.1 ∙ ap (λ (x : DeviceReply). record_of n (final x.device (steps_of rest)).places) (sym same),
    )

isolate_other : (n : ℕ) (d : Device) (s : Step) (ss : List Step) → belongs n (event_of s (step_on d s)) ≡ false → Isolated n (step_on d s).device ss → Isolated n d (s ∷ ss)
unfolding belongs
isolate_other n d s ss b ih h = simp b (simp (other_step n d s (ap (is_owner n) (serves_owner s.act) ∙ b)) at (ih (simp b at h)))

isolate : (n : ℕ) (d : Device) (ss : List Step) → Sized d → Isolated n d ss
isolate n d [] z = λ h. (refl, sym (solo_record n (seen n d)))
isolate n d (s ∷ ss) z =
    let later = isolate n (step_on d s).device ss (sized_step d s z) in
    decide (belongs n (event_of s (step_on d s))) (λ b. isolate_own n d s ss z b later) (λ b. isolate_other n d s ss b later)

pub isolated : (n : ℕ) (ss : List Step) → any_of out_of_memory_at (own_events n (events_of fresh ss)) ≡ false
    → (own_events n (events_of fresh ss) ≡ events_of fresh (steps_of (own_events n (events_of fresh ss))))
    × (record_of n (final fresh ss).places ≡ record_of n (final fresh (steps_of (own_events n (events_of fresh ss)))).places)
isolated n ss = simp (solo_fresh n) at (isolate n fresh ss sized_fresh)
