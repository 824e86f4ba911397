-- What is spent is what the host has seen: a number may not be taken exactly where it is above the last or a creation of it was accepted.
use Prim.Native.Nat.{ℕ, ◌≤◌}
use mathlib.Core.Path.{◌≡◌, refl, sym, ap, ◌∙◌, subst}
use mathlib.Core.Bool.{Bool, true, false, cond, not, ◌&&◌, ◌||◌, and-false, or-false, or_assoc}
use Rattle.std.specs.Prelude.{Option, None, Some}
use mathlib.Core.List.{List, [], ◌∷◌, ◌++◌, head-eq_of_cons-eq, tail-eq_of_cons-eq}
use lib.ListN.{length}
use lib.Dec.{eqb, ltb}
use borrow.Author.Tests.{eqb-true}
use Rattle.laws.specs.Lists.{any_of, is_empty}
use Rattle.laws.proofs.Tests.{never, and_left, and_right, leb_not_ltb}
use Rattle.laws.proofs.Lists.{decide, cond_elim, eqb_same, any_first}
use Rattle.laws.proofs.InOrder.{tests_all}
use Rattle.field.specs.Field.{field, little_endian}
use Rattle.model.specs.Numbers.{answer_room, stream_numbers}
use Rattle.model.specs.Device.{Stream, Device, fresh, record_of, is_new}
use Rattle.model.specs.Frames.{Command, create, live, wrong_length, word, command_type}
use Rattle.model.specs.Answers.{ErrorCode, invalid_operation, invalid_stream, invalid_parameter, bytes_of, response_bytes, Written, read_from, answers_in}
use Rattle.model.specs.Replies.{Reply, Request, fail}
use Rattle.model.specs.Commands.{Surroundings, on_create, on_stream, on_rule, on_command}
use Rattle.model.specs.Steps.{Act, command, finish, drained, Step, stream_of, serve, DeviceReply, around, perform_of, perform, step_on, Event, event_of, events_of, is_owner, owner_of, belongs, is_creation}
use Rattle.model.specs.WellFormed.{well_formed, good_act, good_steps}
use Rattle.model.specs.Tables.{Layout, Lawful}
use Rattle.model.specs.Promises.{created_at, says_invalid_stream, SpentExactly}
use Rattle.model.proofs.Rules.{creates, by_creation}
use Rattle.model.proofs.Fits.{accepted_reply, request_of}
use Rattle.model.proofs.Spent.{none_spent, not_new}
use Rattle.model.proofs.Seen.{NotAgain, step_runs, room_enough, next_of, Seen, seen, unusable_after, own_seen, other_seen}
use Rattle.model.proofs.Isolation.{serves_owner}
use Rattle.model.proofs.Origins.{create_cases, finish_cases, drained_cases, step_cases}
use Rattle.model.proofs.WellFormed.{well_spent, not_again_lem, well_fresh, stays_well_formed}
use Rattle.model.proofs.ReadBack.{read_back}
use Rattle.model.proofs.Condition3.{accepted_is}
use Rattle.model.proofs.Tables.{same_events}
use Rattle.model.proofs.Unchanged.{accepted_device_reply}
use Rattle.model.proofs.SpentForGood.{creation_served}

-- A step of a stream brings a record where there was none exactly where it is a creation that is accepted

abbrev NewExactly : Bool → Option Stream → Reply → Type 0
NewExactly creation self v = is_new self v.next ≡ (creation && accepted_reply v)

fail_new : (creation : Bool) (c : Request) (e : ErrorCode) → NewExactly creation c.self (fail c e)
fail_new creation c e = not_new c.self ∙ sym (and-false creation)

module _ (around : Surroundings) (n : ℕ) where
  -- a creation that is accepted found its number usable, and so not live
  stream_new : (t : ℕ) (f : List ℕ) (x : Command) (self : Option Stream) → NotAgain around self → NewExactly (creates x) self (on_stream around (request_of n t self f) x self)
  unfolding on_create
  stream_new t f create None u =
      cond_elim (NewExactly true None) around.unusable (λ _. refl) (λ _. tests_all (NewExactly true None) (fail (request_of n t None f)) _ (λ e. refl) refl)
  stream_new t f create (Some b) u = simp u
  stream_new t f (live k) None u = refl
  stream_new t f (live k) (Some b) u = refl

  serve_new : (self : Option Stream) (a : Act) → NotAgain around self → NewExactly (is_creation a) self (serve around n self a)
  unfolding serve on_command
  serve_new self (command t f) u =
      let c = request_of n t self f in
      by_creation (λ creation l. NewExactly creation self (on_rule around c l))
      (λ l. cond_elim (NewExactly (creates l.command) self) (wrong_length l.length_rule (length f)) (λ _. fail_new (creates l.command) c invalid_parameter) (λ _. stream_new t f l.command self u))
      (λ creation. fail_new creation c invalid_operation) (command_type f)
  serve_new self (finish m qt r flags ts) u =
      finish_cases (NewExactly false self) n qt r flags ts self (not_new self) (not_new self) (λ b q i h. ap (λ (x : Option Stream). is_new x (Some b)) h.self_is)
  serve_new self (drained m) u = drained_cases (NewExactly false self) n self (not_new self) (λ b t h. ap (λ (x : Option Stream). is_new x (Some b)) h.self_is)

-- So a number may not be taken any more exactly where the event is an accepted creation of it

module _ (n : ℕ) (d : Device) (a : Act) (h : well_formed d ≡ true) where
  abbrev unusable_by : Bool → Bool
  unusable_by created = (seen n d).unusable || created

  -- after a step of m
  perform_unusable : (m : ℕ) → (seen n (perform_of d a (Some m)).device).unusable ≡ unusable_by (eqb m n && (is_creation a && accepted_device_reply (perform_of d a (Some m))))
  perform_unusable m =
      decide (eqb m n)
      (λ e. subst (λ (x : ℕ). (seen n (perform_of d a (Some x)).device).unusable ≡ unusable_by (eqb x n && (is_creation a && accepted_device_reply (perform_of d a (Some x))))) (sym (eqb-true m n e)) own)
      (λ e. ap (λ (v : Seen). v.unusable) (other_seen n m d a e) ∙ simp (e, or-false (seen n d).unusable))
    where
      own : (seen n (perform_of d a (Some n)).device).unusable ≡ unusable_by (eqb n n && (is_creation a && accepted_device_reply (perform_of d a (Some n))))
      own =
          ap (λ (v : Seen). v.unusable) (own_seen n d a (well_spent d h).size)
          ∙ unusable_after (next_of n d a) (seen n d)
          ∙ ap unusable_by (serve_new (around d n) n (record_of n d.places) a (not_again_lem n d h) ∙ simp (eqb_same n))

step_unusable : (n : ℕ) (d : Device) (s : Step) → well_formed d ≡ true → good_act s.act ≡ true
    → (seen n (step_on d s).device).unusable ≡ ((seen n d).unusable || created_at n (event_of s (step_on d s)))
unfolding belongs
step_unusable n d s h m =
    let a = s.act in
    step_cases (λ (o : DeviceReply). (seen n o.device).unusable ≡ ((seen n d).unusable || (is_owner n (owner_of a) && (is_creation a && accepted_device_reply o)))) d s
    (λ k z. simp (z, and-false (is_creation a), and-false (is_owner n (owner_of a)), or-false (seen n d).unusable))
    (λ k o. perform_unusable n d a h k ∙ ap (λ (x : Option ℕ). (seen n d).unusable || (is_owner n x && (is_creation a && accepted_device_reply (perform_of d a (Some k))))) (sym o ∙ serves_owner a))
    ∙ ap (λ (x : Bool). (seen n d).unusable || (is_owner n (owner_of a) && (is_creation a && x))) (sym (accepted_is s (step_on d s) (read_back d s h m)))

-- A creation is answered 0x0302 exactly where its number may not be taken

abbrev tells_invalid : Reply → Bool
tells_invalid v = any_of (λ (w : Written). eqb (word w.response 0) 0x0302) (answers_in (bytes_of v.answers))

-- no test of its fields says so, and neither does 'no place'
creation_tells : (around : Surroundings) (c : Request) → tells_invalid (cond around.unusable (fail c invalid_stream) (on_create around c)) ≡ around.unusable
unfolding read_from response_bytes little_endian field
creation_tells around c = of around.unusable
  where
    of : (u : Bool) → tells_invalid (cond u (fail c invalid_stream) (on_create around c)) ≡ u
    of true = refl
    of false = create_cases (λ (v : Reply). tells_invalid v ≡ false) around c refl (λ _. refl) refl

creation_says : (d : Device) (s : Step) (t : ℕ) (f : List ℕ) → s.act ≡ command t f → field 4 f 0 ≡ 0x0101 → length f ≡ 88 → answer_room ≤ length s.room
    → says_invalid_stream (event_of s (step_on d s)) ≡ (seen (field 4 f 4) d).unusable
unfolding stream_of
creation_says d s t f a x l r =
    let n = field 4 f 4 in
    let self = record_of n d.places in
    let whose : stream_of (command t f) ≡ Some n = simp l in
    ap (λ (o : DeviceReply). says_invalid_stream (event_of s o)) (step_runs d s (room_enough s r) ∙ ap (perform d) a ∙ ap (perform_of d (command t f)) whose)
    ∙ ap tells_invalid (creation_served (around d n) n t f self x l)
    ∙ creation_tells (around d n) (request_of n t self f)

-- Lists

-- a creation in a list, by what its number was at first and the events before
says_from : (d : Device) (ss : List Step) (before later : List Event) (e : Event) (t : ℕ) (f : List ℕ) → well_formed d ≡ true → good_steps ss ≡ true
    → events_of d ss ≡ before ++ e ∷ later → e.step.act ≡ command t f → field 4 f 0 ≡ 0x0101 → length f ≡ 88 → answer_room ≤ length e.step.room
    → says_invalid_stream e ≡ ((seen (field 4 f 4) d).unusable || any_of (created_at (field 4 f 4)) before)
says_from d [] [] later e t f h m split a x l r = never (ap is_empty split)
says_from d [] (y ∷ before) later e t f h m split a x l r = never (ap is_empty split)
says_from d (s ∷ ss) [] later e t f h m split a x l r =
    let here : event_of s (step_on d s) ≡ e = head-eq_of_cons-eq split in
    ap says_invalid_stream (sym here)
    ∙ creation_says d s t f (ap (λ (y : Event). y.step.act) here ∙ a) x l (subst (λ (y : Event). answer_room ≤ length y.step.room) (sym here) r)
    ∙ sym (or-false (seen (field 4 f 4) d).unusable)
says_from d (s ∷ ss) (y ∷ before) later e t f h m split a x l r =
    let n = field 4 f 4 in
    let good = and_left (good_act s.act) (good_steps ss) m in
    says_from (step_on d s).device ss before later e t f (stays_well_formed d s h good) (and_right (good_act s.act) (good_steps ss) m) (tail-eq_of_cons-eq split) a x l r
    ∙ ap (λ (u : Bool). u || any_of (created_at n) before) (step_unusable n d s h good ∙ ap (λ (z : Event). (seen n d).unusable || created_at n z) (head-eq_of_cons-eq split))
    ∙ or_assoc (seen n d).unusable (created_at n y) (any_of (created_at n) before)
    ∙ ap (λ (z : Bool). (seen n d).unusable || z) (sym (any_first (created_at n) y before))

-- at first only the numbers above 1,023 may not be taken
fresh_unusable : (n : ℕ) → (seen n fresh).unusable ≡ ltb 1023 n
unfolding fresh
fresh_unusable n = ap (λ (x : Bool). not (ltb n stream_numbers) || x) (none_spent n) ∙ or-false (not (ltb n stream_numbers)) ∙ sym (leb_not_ltb 1024 n)

pub spent_exactly_lem : (L : Layout) → Lawful L → SpentExactly L
spent_exactly_lem L law t ss before later e ticket f h m split a x l r =
    says_from fresh ss before later e ticket f well_fresh m (sym (same_events L law t h ss m) ∙ split) a x l r
    ∙ ap (λ (u : Bool). u || any_of (created_at (field 4 f 4)) before) (fresh_unusable (field 4 f 4))
