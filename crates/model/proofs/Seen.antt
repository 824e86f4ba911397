-- What a step sees of its own number and of the other streams.
use mathlib.Core.Path.{◌≡◌, refl, sym, ap, ◌∙◌}
use mathlib.Core.Bool.{Bool, true, false, cond, not, ◌&&◌, ◌||◌, or-true, or-false}
use Rattle.std.specs.Prelude.{Option, None, Some}
use mathlib.Core.List.{List, ◌∷◌}
use Prim.Native.Nat.{ℕ, ◌≤◌}
use native.Mathlib.Omega.{arith}
use lib.ListN.{length, replicate, length-replicate}
use lib.Dec.{eqb, ltb}
use borrow.Author.Tests.{ltb-true, ltb-false, le-ltb}
use Rattle.laws.specs.Tests.{within}
use Rattle.laws.specs.Lists.{any_of}
use Rattle.laws.specs.InOrder.{by_tests}
use Rattle.laws.proofs.Tests.{never}
use Rattle.laws.proofs.Lists.{decide, cond_elim, eqb_same, none_is}
use Rattle.laws.proofs.InOrder.{tests_cases}
use Rattle.field.specs.Field.{field, little_endian}
use Rattle.tag.specs.Tag.{good_tag, tag_in}
use Rattle.model.specs.Numbers.{table_words, answer_room, stream_places, stream_numbers, first_coded, last_coded}
use Rattle.model.specs.Device.{Stream, Place, vacant, Device, fresh, record_of, no_place, place, put_record, is_spent, spend, is_new, spent_after, put_back}
use Rattle.model.specs.Frames.{Command, create, live, CommandRule, rule_of, wrong_length, command_type, in_mem_type, out_mem_type, coded_format}
use Rattle.model.specs.Answers.{out_of_memory, invalid_stream, bytes_of, response_bytes, read_from, answers_in}
use Rattle.model.specs.Replies.{Reply, Request, fail}
use Rattle.model.specs.Commands.{Surroundings, with_full, on_create, on_stream, on_rule, on_command}
use Rattle.model.specs.Reports.{on_finish, on_drained}
use Rattle.model.specs.Steps.{Act, command, finish, drained, Step, serve, DeviceReply, refused, around, perform_of, perform, host_refusal, step_on, is_creation, says_full}
use Rattle.model.proofs.Places.{put_same, put_other}
use Rattle.model.proofs.Spent.{spend_length, spend_same, spend_other, spend_again, spend_beyond, none_spent}
use Rattle.model.proofs.Origins.{step_cases}
use Rattle.model.proofs.Rules.{creates, by_creation}

abbrev with_fullness : Surroundings → Surroundings
with_fullness around = with_full true around

abbrev pub not_full : Surroundings → Surroundings
not_full around = with_full false around

-- the number of a live stream may not be taken again
abbrev pub NotAgain : Surroundings → Option Stream → Type 0
NotAgain around None = Unit {0}
NotAgain around (Some b) = around.unusable ≡ true

-- Where every place holds something, or the number may not be taken, no step brings a stream to life

abbrev StaysNone : Reply → Type 0
StaysNone v = v.next ≡ None

module _ (around : Surroundings) (h : (around.full || around.unusable) ≡ true) (n : ℕ) where
  request_next : (t : ℕ) (f : List ℕ) (l : Option CommandRule) → StaysNone (on_rule around (record { stream = n; ticket = t; frame = f; self = None }) l)
  unfolding on_create
  request_next t f None = refl
  request_next t f (Some l) = cond_elim StaysNone (wrong_length l.length_rule (length f)) (λ _. refl) (λ _. of l.command)
    where
      of : (x : Command) → StaysNone (on_stream around (record { stream = n; ticket = t; frame = f; self = None }) x None)
      of create =
          cond_elim StaysNone around.unusable (λ _. refl)
          (λ u. tests_cases StaysNone (fail (record { stream = n; ticket = t; frame = f; self = None })) _ (λ e. refl) (λ h₁ h₂ h₃ h₄ h₅. never (sym (simp (h₅, u) at h))))
      of (live k) = refl

  pub serve_next : (a : Act) → StaysNone (serve around n None a)
  unfolding serve on_command on_finish on_drained
  serve_next (command t f) = request_next t f (rule_of (command_type f))
  serve_next (finish m qt r flags ts) = cond_elim StaysNone (ltb 3 flags) (λ _. refl) (λ _. refl)
  serve_next (drained m) = refl

-- A step that is not answered 'out of memory' does not depend on whether all places are taken

abbrev pub tells_full : Reply → Bool
tells_full v = any_of says_full (answers_in (bytes_of v.answers))

full_tells : (c : Request) → tells_full (fail c out_of_memory) ≡ true
unfolding read_from response_bytes little_endian field
full_tells c = refl

create_full : (around : Surroundings) (c : Request) → tells_full (on_create (with_fullness around) c) ≡ false → on_create (with_fullness around) c ≡ on_create (not_full around) c
unfolding on_create by_tests
create_full around c h =
    let f = c.frame in
    decide (not (eqb (in_mem_type f) 0)) (λ e. simp e) (λ e₁.
    decide (not (eqb (out_mem_type f) 0)) (λ e. simp (e₁, e)) (λ e₂.
    decide (not (within (coded_format f) first_coded last_coded)) (λ e. simp (e₁, e₂, e)) (λ e₃.
    decide (not (good_tag (tag_in f))) (λ e. simp (e₁, e₂, e₃, e)) (λ e₄. never (sym (full_tells c) ∙ (simp (e₁, e₂, e₃, e₄) at h))))))

stream_full : (around : Surroundings) (c : Request) (x : Command) (r : Option Stream) → (creates x && tells_full (on_stream (with_fullness around) c x r)) ≡ false → on_stream (with_fullness around) c x r ≡ on_stream (not_full around) c x r
stream_full around c create self h = of around.unusable h
  where
    of : (u : Bool) → tells_full (cond u (fail c invalid_stream) (on_create (with_fullness around) c)) ≡ false
        → cond u (fail c invalid_stream) (on_create (with_fullness around) c) ≡ cond u (fail c invalid_stream) (on_create (not_full around) c)
    of true h = refl
    of false h = create_full around c h
stream_full around c (live k) None h = refl
stream_full around c (live k) (Some b) h = refl

abbrev SameLine : Surroundings → Request → Bool → Option CommandRule → Type 0
SameLine around c creation l = (creation && tells_full (on_rule (with_fullness around) c l)) ≡ false → on_rule (with_fullness around) c l ≡ on_rule (not_full around) c l

line_full : (around : Surroundings) (c : Request) (l : CommandRule) → SameLine around c (creates l.command) (Some l)
line_full around c l h =
    decide (wrong_length l.length_rule (length c.frame))
    (λ e. simp e)
    (λ e. simp e (stream_full around c l.command c.self (simp e at h)))

command_full : (around : Surroundings) (c : Request) (ty : ℕ) → SameLine around c (eqb ty 0x0101) (rule_of ty)
command_full around c = by_creation (SameLine around c) (line_full around c) (λ b h. refl)

act_full : (around : Surroundings) (n : ℕ) (self : Option Stream) (a : Act) → (is_creation a && tells_full (serve (with_fullness around) n self a)) ≡ false → serve (with_fullness around) n self a ≡ serve (not_full around) n self a
unfolding serve on_command
act_full around n self (command t f) h = command_full around (record { stream = n; ticket = t; frame = f; self = self }) (command_type f) h
act_full around n self (finish m qt r flags ts) h = refl
act_full around n self (drained m) h = refl

pub serve_alone : (f : Bool) (around : Surroundings) (n : ℕ) (self : Option Stream) (a : Act) → (is_creation a && tells_full (serve (with_full f around) n self a)) ≡ false
    → serve (with_full f around) n self a ≡ serve (not_full around) n self a
serve_alone true around n self a h = act_full around n self a h
serve_alone false around n self a h = refl

-- A step, by the room that it is lent

abbrev pub room_refusal : Step → ℕ
room_refusal s = host_refusal table_words (length s.room) true

pub step_runs : (d : Device) (s : Step) → eqb (room_refusal s) 0 ≡ true → step_on d s ≡ perform d s.act
unfolding step_on
step_runs d s e = simp e

pub step_refused : (d : Device) (s : Step) → eqb (room_refusal s) 0 ≡ false → step_on d s ≡ refused (room_refusal s) d
unfolding step_on
step_refused d s e = simp e

-- where the room is enough it runs
pub room_enough : (s : Step) → answer_room ≤ length s.room → eqb (room_refusal s) 0 ≡ true
unfolding host_refusal
room_enough s h = simp (le-ltb (length s.room) answer_room h)

-- The record behind a number after a step of its own, and of another

-- the record that a step of n leaves
abbrev pub next_of : ℕ → Device → Act → Option Stream
next_of n d a = (serve (around d n) n (record_of n d.places) a).next

pub own_record : (n : ℕ) (d : Device) (a : Act) → record_of n (perform_of d a (Some n)).device.places ≡ next_of n d a
own_record n d a =
    put_same n _ d.places
    (λ e f. ap (λ (r : Option Stream). (serve (around d n) n r a).next) (none_is (record_of n d.places) e) ∙ serve_next (around d n) (simp f) n a)

pub other_record : (m n : ℕ) (d : Device) (a : Act) → eqb n m ≡ false → record_of m (perform_of d a (Some n)).device.places ≡ record_of m d.places
other_record m n d a h = put_other m n _ d.places h

-- What a step can see of its own number. The argument over lists (Isolation) is about this alone.

-- the record of its stream, and whether the number may not be taken
pub record Seen : Type 0 where
  pub self : Option Stream
  pub unusable : Bool

abbrev pub seen : ℕ → Device → Seen
seen n d = record { self = record_of n d.places; unusable = (around d n).unusable }

-- what is seen after a step that leaves the record r
pub seen_after : Option Stream → Seen → Seen
seen_after r v = record { self = r; unusable = v.unusable || is_new v.self r }

module _ (r : Option Stream) (v : Seen) where
  pub self_after : (seen_after r v).self ≡ r
  unfolding seen_after
  self_after = refl

  pub unusable_after : (seen_after r v).unusable ≡ (v.unusable || is_new v.self r)
  unfolding seen_after
  unusable_after = refl

  -- a number that may not be taken stays so
  pub still_unusable : v.unusable ≡ true → (seen_after r v).unusable ≡ true
  unfolding seen_after
  still_unusable u = simp u

-- a truth value is kept for each number
abbrev pub Sized : Device → Type 0
Sized d = length d.spent ≡ stream_numbers

pub after_length : (n : ℕ) (old next : Option Stream) (s : List Bool) → length (spent_after n old next s) ≡ length s
after_length n old next s = cond_elim (λ (x : List Bool). length x ≡ length s) (is_new old next) (λ _. spend_length n s) (λ _. refl)

pub sized_fresh : Sized fresh
unfolding fresh
sized_fresh = length-replicate {A = Bool} stream_numbers false

pub sized_step : (d : Device) (s : Step) → Sized d → Sized (step_on d s).device
sized_step d s h = step_cases (λ (o : DeviceReply). Sized o.device) d s (λ k _. h) (λ n e. after_length n (record_of n d.places) (next_of n d s.act) d.spent ∙ h)

-- a number that is spent may not be taken any more
after_unusable : (n : ℕ) (old next : Option Stream) (s : List Bool) → length s ≡ stream_numbers
    → (not (ltb n stream_numbers) || is_spent n (spent_after n old next s)) ≡ (not (ltb n stream_numbers) || is_spent n s || is_new old next)
after_unusable n old next s h =
    decide (ltb n stream_numbers)
    (λ b. decide (is_new old next)
    (λ e. simp (b, e, spend_same n s (omega (arith, ltb-true n stream_numbers b, h)), or-true (is_spent n s)))
    (λ e. simp (b, e, or-false (is_spent n s))))
    (λ b. simp b)

after_other : (m n : ℕ) (old next : Option Stream) (s : List Bool) → eqb n m ≡ false → is_spent m (spent_after n old next s) ≡ is_spent m s
after_other m n old next s h = cond_elim (λ (x : List Bool). is_spent m x ≡ is_spent m s) (is_new old next) (λ _. spend_other n s m h) (λ _. refl)

-- after a step of n, and after one of another stream
pub own_seen : (n : ℕ) (d : Device) (a : Act) → Sized d → seen n (perform_of d a (Some n)).device ≡ seen_after (next_of n d a) (seen n d)
unfolding seen_after
own_seen n d a h = λ i. record { self = own_record n d a i; unusable = after_unusable n (record_of n d.places) (next_of n d a) d.spent h i }

pub other_seen : (m n : ℕ) (d : Device) (a : Act) → eqb n m ≡ false → seen m (perform_of d a (Some n)).device ≡ seen m d
other_seen m n d a h = λ i. record { self = other_record m n d a h i; unusable = not (ltb m stream_numbers) || after_other m n (record_of n d.places) (next_of n d a) d.spent h i }

-- Where only the stream n was ever on a device

-- its places
alone_places : ℕ → Option Stream → List Place
alone_places n r = place n r ∷ replicate 7 vacant

alone_record : (n : ℕ) (r : Option Stream) → record_of n (alone_places n r) ≡ r
unfolding alone_places
alone_record n None = refl
alone_record n (Some b) = simp (eqb_same n)

alone_vacant : (n : ℕ) (r : Option Stream) → no_place (alone_places n r) ≡ false
unfolding alone_places
alone_vacant n None = refl
alone_vacant n (Some b) = refl

alone_put : (n : ℕ) (r x : Option Stream) → put_record n x (alone_places n r) ≡ alone_places n x
unfolding alone_places put_record
alone_put n None x = refl
alone_put n (Some b) x = simp (eqb_same n)

-- its spent numbers
alone_spent : ℕ → Bool → List Bool
alone_spent n u = cond u (spend n (replicate stream_numbers false)) (replicate stream_numbers false)

alone_unusable : (n : ℕ) (s : List Bool) → (not (ltb n stream_numbers) || is_spent n (alone_spent n (not (ltb n stream_numbers) || is_spent n s))) ≡ (not (ltb n stream_numbers) || is_spent n s)
unfolding alone_spent
alone_unusable n s =
    decide (ltb n stream_numbers)
    (λ b. let below = ltb-true n stream_numbers b in
    decide (is_spent n s)
    (λ e. simp (b, e) (spend_same n (replicate stream_numbers false) (omega (arith, below, length-replicate {A = Bool} stream_numbers false))))
    (λ e. simp (b, e) (none_spent n)))
    (λ b. simp b)

alone_spend : (n : ℕ) (u new : Bool) → cond new (spend n (alone_spent n u)) (alone_spent n u) ≡ alone_spent n (u || new)
unfolding alone_spent
alone_spend n true true = spend_again n (replicate stream_numbers false)
alone_spend n true false = refl
alone_spend n false true = refl
alone_spend n false false = refl

-- the device, by what a step of n sees there
pub solo_of : ℕ → Seen → Device
solo_of n v = record { places = alone_places n v.self; spent = alone_spent n v.unusable }

pub solo_fresh : (n : ℕ) → solo_of n (seen n fresh) ≡ fresh
unfolding solo_of alone_places alone_spent fresh
solo_fresh n = λ i. record { places = replicate stream_places vacant; spent = unspent i }
  where
    unspent : alone_spent n (not (ltb n stream_numbers) || is_spent n (replicate stream_numbers false)) ≡ replicate stream_numbers false
    unspent = decide (ltb n stream_numbers) (λ b. simp (b, none_spent n)) (λ b. simp b (spend_beyond n (replicate stream_numbers false) (omega (arith, ltb-false n stream_numbers b, length-replicate {A = Bool} stream_numbers false))))

pub solo_record : (n : ℕ) (v : Seen) → record_of n (solo_of n v).places ≡ v.self
unfolding solo_of
solo_record n v = alone_record n v.self

-- a step of n finds there its own record and what its number is, and is hindered by no other stream
pub solo_around : (n : ℕ) (d : Device) → around (solo_of n (seen n d)) n ≡ not_full (around d n)
unfolding solo_of
solo_around n d = λ i. record { full = alone_vacant n (record_of n d.places) i; unusable = alone_unusable n d.spent i }

pub solo_put : (n : ℕ) (r : Option Stream) (v : Seen) → put_back n r (solo_of n v) ≡ solo_of n (seen_after r v)
unfolding solo_of seen_after
solo_put n r v = λ i. record { places = alone_put n v.self r i; spent = spent i }
  where
    spent : spent_after n (record_of n (alone_places n v.self)) r (alone_spent n v.unusable) ≡ alone_spent n (v.unusable || is_new v.self r)
    spent =
        ap (λ (old : Option Stream). spent_after n old r (alone_spent n v.unusable)) (alone_record n v.self)
        ∙ alone_spend n v.unusable (is_new v.self r)
