-- A stream number is spent for good: after a destruction no step of its number is accepted, and none reaches anybody.
use Prim.Native.Nat.{ℕ}
use mathlib.Core.Path.{◌≡◌, refl, sym, ap, ◌∙◌, subst}
use mathlib.Core.Bool.{true, false, cond, not, ◌||◌, or-true}
use Rattle.std.specs.Prelude.{Option, None, Some}
use mathlib.Core.List.{List, [], ◌∷◌, ◌++◌, head-eq_of_cons-eq, tail-eq_of_cons-eq}
use lib.ListN.{length, take}
use lib.Dec.{eqb, ltb}
use borrow.Author.Tests.{eqb-true}
use Rattle.laws.specs.Lists.{Each, is_empty}
use Rattle.laws.proofs.Tests.{never, and_left, and_right}
use Rattle.laws.proofs.Lists.{decide, cond_elim}
use Rattle.field.specs.Field.{field, little_endian}
use Rattle.model.specs.Numbers.{table_words}
use Rattle.model.specs.Device.{Stream, Device, record_of, no_place}
use Rattle.model.specs.Frames.{destroy, live, rule_of, command_type}
use Rattle.model.specs.Answers.{invalid_stream, word_bytes, response_bytes, bytes_of}
use Rattle.model.specs.Replies.{Reply, Request, fail}
use Rattle.model.specs.Commands.{Surroundings, on_create, on_destroy, on_stream, on_rule, on_command}
use Rattle.model.specs.Reports.{on_finish, on_drained}
use Rattle.model.specs.Steps.{Act, command, finish, drained, Step, stream_of, serve, DeviceReply, around, perform_of, step_on, Event, event_of, events_of, owner_of, accepted, belongs}
use Rattle.model.specs.WellFormed.{well_formed, good_act, good_steps}
use Rattle.model.specs.Tables.{Layout, Lawful}
use Rattle.model.specs.Promises.{ReachesNobody, Late, SpentForGood}
use Rattle.model.proofs.Origins.{command_cases, finish_cases, drained_cases, step_cases}
use Rattle.model.proofs.Fits.{accepted_reply, request_of}
use Rattle.model.proofs.Seen.{NotAgain, serve_next, step_runs, room_enough, next_of, Seen, seen, self_after, still_unusable, Sized, own_seen, other_seen}
use Rattle.model.proofs.Isolation.{serves_owner, owner_is}
use Rattle.model.proofs.WellFormed.{well_spent, not_again_lem, stays_well_formed}
use Rattle.model.proofs.ReadBack.{read_back}
use Rattle.model.proofs.Condition3.{step_stream_is, accepted_is}
use Rattle.model.proofs.Tables.{valid_device, valid_log}
use Rattle.model.proofs.Unchanged.{accepted_device_reply}

-- nothing of the number lives, and it may not be taken
record Gone (v : Seen) : Type 0 where
  not_live : v.self ≡ None
  not_again : v.unusable ≡ true

-- so it is after a step of n that leaves no record, where the number may not be taken
own_gone : (n : ℕ) (d : Device) (a : Act) → Sized d → next_of n d a ≡ None → (seen n d).unusable ≡ true → Gone (seen n (perform_of d a (Some n)).device)
own_gone n d a z e u =
    subst Gone (sym (own_seen n d a z)) (record { not_live = self_after (next_of n d a) (seen n d) ∙ e; not_again = still_unusable (next_of n d a) (seen n d) u })

-- An accepted destruction leaves its number so

-- where the step is accepted, the number may not be taken and no record is left
abbrev Destroys : Surroundings → Reply → Type 0
Destroys around v = accepted_reply v ≡ true → (around.unusable ≡ true) × (v.next ≡ None)

-- a 0x0102 that is accepted found a live stream, and so a number that may not be taken
destroy_ends : (around : Surroundings) (c : Request) → NotAgain around c.self → command_type c.frame ≡ 0x0102 → Destroys around (on_command around c)
unfolding on_command rule_of on_destroy
destroy_ends around c u e =
    subst (λ (ty : ℕ). Destroys around (on_rule around c (rule_of ty))) (sym e)
    (cond_elim (Destroys around) (not (eqb (length c.frame) 8)) (λ _ z. never (sym z)) (λ _. of c.self u))
  where
    of : (self : Option Stream) → NotAgain around self → Destroys around (on_stream around c (live destroy) self)
    of None u = λ z. never (sym z)
    of (Some b) u = λ _. (u, refl)

destroy_serves : (around : Surroundings) (n t : ℕ) (f : List ℕ) (self : Option Stream) → NotAgain around self → field 4 f 0 ≡ 0x0102 → Destroys around (serve around n self (command t f))
unfolding serve
destroy_serves around n t f self u e = destroy_ends around (request_of n t self f) u e

destroy_gone : (d : Device) (s : Step) (t : ℕ) (f : List ℕ) → well_formed d ≡ true → good_act s.act ≡ true → s.act ≡ command t f → field 4 f 0 ≡ 0x0102
    → accepted (event_of s (step_on d s)) ≡ true → Gone (seen (field 4 f 4) (step_on d s).device)
destroy_gone d s t f h m a e acc =
    step_cases (λ (o : DeviceReply). accepted_device_reply o ≡ true → Gone (seen (field 4 f 4) o.device)) d s
    (λ k z y. never (sym (simp z at y)))
    (λ n o y. of n (ap stream_of (sym a) ∙ o) (subst (λ (x : Act). accepted_device_reply (perform_of d x (Some n)) ≡ true) a y))
    (sym (accepted_is s (step_on d s) (read_back d s h m)) ∙ acc)
  where
    of : (n : ℕ) → stream_of (command t f) ≡ Some n → accepted_device_reply (perform_of d (command t f) (Some n)) ≡ true → Gone (seen (field 4 f 4) (perform_of d s.act (Some n)).device)
    of n o y =
        let ended = destroy_serves (around d n) n t f (record_of n d.places) (not_again_lem n d h) e y in
        subst (λ (x : Act). Gone (seen (field 4 f 4) (perform_of d x (Some n)).device)) (sym a)
        (subst (λ (x : ℕ). Gone (seen x (perform_of d (command t f) (Some n)).device)) (step_stream_is (command t f) n o)
        (own_gone n d (command t f) (well_spent d h).size ended.1 ended.0))

-- a creation of the right length, by whether its number may be taken
pub creation_served : (around : Surroundings) (n t : ℕ) (f : List ℕ) (self : Option Stream) → field 4 f 0 ≡ 0x0101 → length f ≡ 88
    → serve around n self (command t f) ≡ cond around.unusable (fail (request_of n t self f) invalid_stream) (on_create around (request_of n t self f))
unfolding serve on_command rule_of
creation_served around n t f self e l = simp (e, l)

-- Of such a number no step is accepted, and none reaches anybody

abbrev NotTaken : Reply → Type 0
NotTaken v = accepted_reply v ≡ false

module _ (around : Surroundings) (u : around.unusable ≡ true) (n : ℕ) where
  gone_rejects : (a : Act) → NotTaken (serve around n None a)
  unfolding serve
  gone_rejects (command t f) =
      command_cases NotTaken around (request_of n t None f) (λ e. refl) (λ y. never (sym u ∙ y)) (λ k b e. cc)
  gone_rejects (finish m qt r flags ts) = finish_cases NotTaken n qt r flags ts None refl refl (λ b q i h. let e = h.self_is in cc)
  gone_rejects (drained m) = drained_cases NotTaken n None refl (λ b t h. let e = h.self_is in cc)

  gone_reaches : (a : Act) (s : Step) (d : Device) → stream_of a ≡ Some n
      → ReachesNobody a (event_of s (record { refusal = (serve around n None a).refusal; answers = (serve around n None a).answers; device = d }))
  unfolding serve on_finish on_drained response_bytes little_endian
  gone_reaches (command t f) s d o = λ e l.
      let is : serve around n None (command t f) ≡ fail (request_of n t None f) invalid_stream = creation_served around n t f None e l ∙ simp u in (
        ap (λ (v : Reply). v.refusal) is,
        ap (λ (v : Reply). length (bytes_of v.answers)) is,
        ap (λ (v : Reply). bytes_of v.answers) is ∙ ap (λ (x : ℕ). word_bytes (t ∷ 8 ∷ 0x0302 ∷ x ∷ [])) (step_stream_is (command t f) n o),
      )
  gone_reaches (finish m qt r flags ts) s d o = decide (ltb 3 flags) (λ e. simp e) (λ e. simp e)
  gone_reaches (drained m) s d o = refl

module _ (n : ℕ) (d : Device) (g : Gone (seen n d)) where
  -- a step of it is served as where there is no record
  gone_serves : (a : Act) → serve (around d n) n (record_of n d.places) a ≡ serve (around d n) n None a
  gone_serves a = ap (λ (r : Option Stream). serve (around d n) n r a) g.not_live

  gone_refused : (s : Step) → stream_of s.act ≡ Some n → accepted_device_reply (step_on d s) ≡ false
  gone_refused s o =
      step_cases (λ (x : DeviceReply). accepted_device_reply x ≡ false) d s (λ k z. simp z)
      (λ m e. let z : Some n ≡ Some m = sym o ∙ e in let is : n ≡ m = cc in
      subst (λ (x : ℕ). accepted_device_reply (perform_of d s.act (Some x)) ≡ false) is (ap accepted_reply (gone_serves s.act) ∙ gone_rejects (around d n) g.not_again n s.act))

  gone_late : (s : Step) → well_formed d ≡ true → good_act s.act ≡ true → Late n (event_of s (step_on d s))
  unfolding belongs
  gone_late s h m b =
      let a = s.act in
      let o : stream_of a ≡ Some n = serves_owner a ∙ owner_is n (owner_of a) b in (
        accepted_is s (step_on d s) (read_back d s h m) ∙ gone_refused s o,
        λ r. subst (λ (x : DeviceReply). ReachesNobody a (event_of s x)) (sym (step_runs d s (room_enough s r) ∙ ap (perform_of d a) o))
            (subst (λ (v : Reply). ReachesNobody a (event_of s (record { refusal = v.refusal; answers = v.answers; device = d }))) (sym (gone_serves a))
            (gone_reaches (around d n) g.not_again n a s d o)),
      )

  -- whatever the step, the number stays so
  gone_step : (s : Step) → Sized d → Gone (seen n (step_on d s).device)
  gone_step s z =
      step_cases (λ (o : DeviceReply). Gone (seen n o.device)) d s (λ k _. g)
      (λ m _. decide (eqb m n)
      (λ e. subst (λ (x : ℕ). Gone (seen n (perform_of d s.act (Some x)).device)) (sym (eqb-true m n e)) (own_gone n d s.act z next g.not_again))
      (λ e. subst Gone (sym (other_seen n m d s.act e)) g))
    where
      next : next_of n d s.act ≡ None
      next =
          ap (λ (v : Reply). v.next) (gone_serves s.act)
          ∙ serve_next (around d n) (ap (λ x. no_place d.places || x) g.not_again ∙ or-true (no_place d.places)) n s.act

-- Lists

-- from such a device every event of the number is late
all_late : (n : ℕ) (d : Device) (ss : List Step) → well_formed d ≡ true → good_steps ss ≡ true → Gone (seen n d) → Each (Late n) (events_of d ss)
all_late n d [] h m g = tt
all_late n d (s ∷ ss) h m g =
    let good = and_left (good_act s.act) (good_steps ss) m in (
      gone_late n d g s h good,
      all_late n (step_on d s).device ss (stays_well_formed d s h good) (and_right (good_act s.act) (good_steps ss) m) (gone_step n d g s (well_spent d h).size),
    )

-- and so it is of all that follow an accepted destruction
late_from : (d : Device) (ss : List Step) (before later : List Event) (e : Event) (t : ℕ) (f : List ℕ) → well_formed d ≡ true → good_steps ss ≡ true
    → events_of d ss ≡ before ++ e ∷ later → e.step.act ≡ command t f → field 4 f 0 ≡ 0x0102 → accepted e ≡ true → Each (Late (field 4 f 4)) later
late_from d [] [] later e t f h m split a x acc = never (ap is_empty split)
late_from d [] (y ∷ before) later e t f h m split a x acc = never (ap is_empty split)
late_from d (s ∷ ss) [] later e t f h m split a x acc =
    let good = and_left (good_act s.act) (good_steps ss) m in
    let here : event_of s (step_on d s) ≡ e = head-eq_of_cons-eq split in
    subst (Each (Late (field 4 f 4))) (tail-eq_of_cons-eq split)
    (all_late (field 4 f 4) (step_on d s).device ss (stays_well_formed d s h good) (and_right (good_act s.act) (good_steps ss) m)
    (destroy_gone d s t f h good (ap (λ (y : Event). y.step.act) here ∙ a) x (ap accepted here ∙ acc)))
late_from d (s ∷ ss) (y ∷ before) later e t f h m split a x acc =
    late_from (step_on d s).device ss before later e t f (stays_well_formed d s h (and_left (good_act s.act) (good_steps ss) m)) (and_right (good_act s.act) (good_steps ss) m)
    (tail-eq_of_cons-eq split) a x acc

pub spent_for_good_lem : (L : Layout) → Lawful L → SpentForGood L
spent_for_good_lem L law t ss before later e ticket f v m split a x acc =
    late_from (L.decode (take table_words t)) ss before later e ticket f (valid_device L t v) m (sym (valid_log L t v law ss m) ∙ split) a x acc
