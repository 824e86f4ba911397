-- What a step of the log shows, and what a whole log does.
use mathlib.Core.Path.{◌≡◌, refl, sym, ap, ◌∙◌, subst}
use mathlib.Core.Bool.{Bool, true, false}
use mathlib.Core.List.{List, [], ◌∷◌, ◌++◌, map}
use Prim.Native.Nat.{ℕ, ◌≤◌, ◌^◌}
use native.Mathlib.Omega.{arith}
use lib.Dec.{eqb, ltb}
use lib.ListN.{length, get_or, take, drop}
use lib.Seq.{take_at}
use borrow.Author.Tests.{lt-ltb, le-ltb}
use Rattle.laws.specs.Tests.{within}
use Rattle.laws.specs.Lists.{all_of, same}
use Rattle.laws.specs.Parts.{zeros}
use Rattle.laws.proofs.Tests.{both, and_left}
use Rattle.laws.proofs.Lists.{decide, all_drop}
use Rattle.laws.proofs.Parts.{zero_length}
use Rattle.field.specs.Field.{field}
use Rattle.field.proofs.Laws.{field_below}
use Rattle.model.specs.Numbers.{table_words, answer_room}
use Rattle.model.specs.Answers.{bytes_of, answers_in, rewritten, read_from}
use Rattle.model.specs.Steps.{Act, Step, DeviceReply, perform, host_refusal}
use Rattle.model.specs.Steps as steps
use Rattle.model.specs.WellFormed.{u8, u32, u64, well_formed, good_steps}
use Rattle.model.specs.Tables.{Layout, Lawful, Effect, untouched, valid, carried_out, effect, freshen, table_events}
use Rattle.model.specs.Promises.{as_written}
use Rattle.model.specs.Condition3.{Run}
use Rattle.model.proofs.Condition3.{rewritten_written}
use Rattle.model.proofs.ReadBack.{read_back}
use Rattle.model.proofs.Seen.{step_runs}
use Rattle.model.proofs.Tables.{not_refused, valid_refusal, same_run}
use Rattle.line.specs.Hex.{is_hex, hex_bytes}
use Rattle.line.specs.Line.{Line, step_line, refused_line, command_in, finish_in, drained_in, frame_in, line_of}
use Rattle.line.specs.Split.{lines_in}
use Rattle.line.specs.Log.{refusal_line, Logged, Whole, shown, stepped, on_line, line_step, lines_output, log_output}
use Rattle.line.specs.Promises.{good_line, StepsAreGood, RoomFree, WritesAnswers, steps_in, lines_shown, ShowsEvents}
use Rattle.line.proofs.Digits.{bytes_below}

-- A step's numbers and bytes

module _ (b : List ℕ) (h : all_of (λ v. ltb v 256) b ≡ true) where
  word_good : (at : ℕ) → u32 (field 4 b at) ≡ true
  unfolding u32
  word_good at = lt-ltb (field 4 b at) (2 ^ 32) (field_below 4 b at h)

  long_good : (at : ℕ) → u64 (field 8 b at) ≡ true
  unfolding u64
  long_good at = lt-ltb (field 8 b at) (2 ^ 64) (field_below 8 b at h)

  bytes_good : all_of u8 (drop 5 b) ≡ true
  unfolding u8
  bytes_good = all_drop (λ v. ltb v 256) 5 b h

  frame_good : good_line (frame_in b) ≡ true
  unfolding frame_in command_in finish_in drained_in
  frame_good =
      decide (eqb (get_or b 0 0) 0x00)
      (λ e. rw e (decide (within (length b) 5 4189) (λ f. rw f (both (word_good 1) bytes_good)) (λ f. rw f)))
      (λ e. rw e (decide (eqb (get_or b 0 0) 0x01)
      (λ f. rw f (decide (eqb (length b) 25) (λ g. rw g (both (word_good 1) (both (word_good 5) (both (word_good 9) (both (word_good 13) (long_good 17)))))) (λ g. rw g)))
      (λ f. rw f (decide (eqb (get_or b 0 0) 0x02)
      (λ g. rw g (decide (eqb (length b) 5) (λ i. rw i (word_good 1)) (λ i. rw i)))
      (λ g. rw g)))))

pub steps_are_good : StepsAreGood
unfolding line_of
steps_are_good line = decide (is_hex line) (λ e. rw e (frame_good (hex_bytes line) (bytes_below line e))) (λ e. rw e)

-- The answer room

module _ (L : Layout) (t : List ℕ) (a : Act) (room : List ℕ) where
  abbrev k : ℕ
  k = host_refusal (length t) (length room) (valid L t)

  abbrev performed : DeviceReply
  performed = perform (L.decode (take table_words t)) a

  unserved : eqb k 0 ≡ false → effect L t a room ≡ untouched k t room
  unfolding effect
  unserved e = rw e

  served : eqb k 0 ≡ true → effect L t a room ≡ carried_out L performed t room
  unfolding effect
  served e = rw e

  -- the bytes of its answers are those written
  answer_bytes : take (length (bytes_of performed.answers)) (carried_out L performed t room).room ≡ bytes_of performed.answers
  answer_bytes = take_at (bytes_of performed.answers) (drop (length (bytes_of performed.answers)) room) (length (bytes_of performed.answers)) refl

  -- what is shown, without the room, where the host's first tests give j
  abbrev showing : ℕ → Bool → Logged
  showing j true = record { text = shown performed.refusal (bytes_of performed.answers); table = L.encode performed.device ++ drop table_words t }
  showing j false = record { text = shown j []; table = t }

  line_shows : stepped (effect L t a room) ≡ showing k (eqb k 0)
  line_shows =
      decide (eqb k 0)
      (λ e.
      ap stepped (served e)
      ∙ ap (λ (s : List ℕ). record { text = shown performed.refusal s; table = L.encode performed.device ++ drop table_words t }) answer_bytes
      ∙ ap (showing k) (sym e))
      (λ e. ap stepped (unserved e) ∙ ap (showing k) (sym e))

tests : (words room room' : ℕ) (v : Bool) → answer_room ≤ room → answer_room ≤ room' → host_refusal words room v ≡ host_refusal words room' v
unfolding host_refusal
tests words room room' v h h' = rw (le-ltb room answer_room h, le-ltb room' answer_room h')

pub room_free_lem : (L : Layout) → RoomFree L
room_free_lem L t a room room' h h' = line_shows L t a room ∙ ap (λ (j : ℕ). showing L t a room j (eqb j 0)) (tests (length t) (length room) (length room') (valid L t) h h') ∙ sym (line_shows L t a room')

none_whole : Whole []
unfolding read_from
none_whole = refl

pub writes_answers_lem : (L : Layout) → WritesAnswers L
unfolding valid
writes_answers_lem L t a room m =
    decide (eqb (k L t a room) 0)
    (λ e.
    let d = L.decode (take table_words t) in
    let s : Step = record { act = a; room = room } in
    let lent = not_refused (length t) (length room) (valid L t) e in
    let well = and_left (well_formed d) (same (take table_words t) (L.encode d)) lent.good in
    let runs : steps.step_on d s ≡ performed L t a room =
    step_runs d s (ap (λ (j : ℕ). eqb j 0) (sym (valid_refusal (length t) (length room) (valid L t) lent.enough lent.good)) ∙ e) in
    let read = subst (λ (o : DeviceReply). answers_in (bytes_of o.answers) ≡ map as_written o.answers) runs (read_back d s well m) in
    subst Whole (sym (ap (λ (x : Effect). take x.written x.room) (served L t a room e) ∙ answer_bytes L t a room)) (ap rewritten read ∙ rewritten_written (performed L t a room).answers))
    (λ e. subst Whole (sym (ap (λ (x : Effect). take x.written x.room) (unserved L t a room e))) none_whole)

-- A whole log

-- what a line shows is what the event of its step does
module _ (L : Layout) where
  lines_events : (t : List ℕ) (lines : List (List ℕ)) → lines_output L t lines ≡ lines_shown (map line_of lines) (table_events L t (steps_in (map line_of lines)))
  unfolding lines_output line_step
  lines_events t [] = refl
  lines_events t (line ∷ lines) = of (line_of line) (λ u. lines_events u lines)
    where
      of : (l : Line) → ((u : List ℕ) → lines_output L u lines ≡ lines_shown (map line_of lines) (table_events L u (steps_in (map line_of lines))))
          → (on_line L t l).text ++ lines_output L (on_line L t l).table lines ≡ lines_shown (l ∷ map line_of lines) (table_events L t (steps_in (l ∷ map line_of lines)))
      of (step_line a) ih = ap (λ (r : List ℕ). (stepped (effect L t a (zeros answer_room))).text ++ r) (ih (effect L t a (zeros answer_room)).table)
      of (refused_line k) ih = ap (λ (r : List ℕ). refusal_line k ++ r) (ih t)

good_steps_lem : (lines : List (List ℕ)) → good_steps (steps_in (map line_of lines)) ≡ true
good_steps_lem [] = refl
good_steps_lem (line ∷ lines) = of (line_of line) (steps_are_good line) (good_steps_lem lines)
  where
    of : (l : Line) → good_line l ≡ true → good_steps (steps_in (map line_of lines)) ≡ true → good_steps (steps_in (l ∷ map line_of lines)) ≡ true
    of (step_line a) g h = both g h
    of (refused_line k) g h = h

pub shows_events_lem : (L : Layout) → Lawful L → ShowsEvents L
unfolding log_output
shows_events_lem L law log =
    let lines = lines_in log in
    lines_events L (freshen L (zeros table_words)).table lines
    ∙ ap (λ (r : Run). lines_shown (map line_of lines) r.events) (same_run L law (zeros table_words) (omega (arith, zero_length table_words)) (steps_in (map line_of lines)) (good_steps_lem lines))

-- A line's step, in any room that is long enough, and a refused line

pub line_step_lem : (L : Layout) (t line room : List ℕ) (a : Act) → line_of line ≡ step_line a → answer_room ≤ length room → line_step L t line ≡ stepped (effect L t a room)
unfolding line_step
line_step_lem L t line room a e h = ap (on_line L t) e ∙ room_free_lem L t a (zeros answer_room) room (omega (arith, zero_length answer_room)) h

pub line_refused_lem : (L : Layout) (t line : List ℕ) (k : ℕ) → line_of line ≡ refused_line k → line_step L t line ≡ record { text = refusal_line k; table = t }
unfolding line_step
line_refused_lem L t line k e = ap (on_line L t) e
