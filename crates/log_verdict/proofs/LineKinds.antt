-- Laws of a line's kind: a frame is a question, an answer is no frame, and of a line what is kept decides.
use mathlib.Core.Path.{◌≡◌, refl, sym, ap, ◌∙◌}
use mathlib.Core.Bool.{Bool, true, false, cond, not, or-true, false≢true}
use mathlib.Core.List.{List, [], ◌∷◌, cons≢nil, nil≢cons, head-eq_of_cons-eq, tail-eq_of_cons-eq}
use Prim.Native.Nat.{ℕ, ◌+◌, ◌/◌, ◌%◌, ◌≤◌, ◌<◌}
use native.Mathlib.Omega.{arith}
use lib.Dec.{eqb, ltb}
use lib.ListN.{length, get_or, take}
use lib.Seq.{length-take-le}
use borrow.Author.Tests.{ne_eqb, ltb-true, lt-ltb, le-ltb}
use Rattle.laws.specs.Tests.{within}
use Rattle.laws.proofs.Tests.{both, and_left, and_right, within_true, within_above, within_bounds}
use Rattle.laws.proofs.Lists.{decide}
use Rattle.laws.proofs.Same.{same_refl, same_true, same_ne}
use Rattle.line.specs.Hex.{digit_of, is_digit, is_hex, hex_bytes, lower_digit, hex_pair}
use Rattle.line.specs.Line.{Line, step_line, refused_line, no_frame, line_of}
use Rattle.line.specs.Split.{longest_line, line_room, kept}
use Rattle.line.proofs.Frames.{line_bad, line_hex, kind_other}
use Rattle.line.proofs.EveryStep.{digit_back}
use Rattle.line.proofs.Cutting.{over_long, no_ten}
use Rattle.log_verdict.specs.Kinds.{lower_case, in_lower_case, same_line, begins_with, begins_as_answer, LineKind, question_kind, answer_kind, neither_kind, frame_kind, kind_of, question_by, answer_by, is_answer}
use Rattle.log_verdict.specs.OwnLog.{is_step, is_frame}
use Rattle.log_verdict.specs.Promises.{QuestionsAreFrames}

-- Two lines, the case of digits aside

module _ (a b : List ℕ) where
  pub line_same : same_line a b ≡ true → in_lower_case a ≡ in_lower_case b
  unfolding same_line
  line_same e = same_true (in_lower_case a) (in_lower_case b) e

  pub line_other : (in_lower_case a ≡ in_lower_case b → ⊥) → same_line a b ≡ false
  unfolding same_line
  line_other h = same_ne (in_lower_case a) (in_lower_case b) h

  pub line_alike : in_lower_case a ≡ in_lower_case b → same_line a b ≡ true
  unfolding same_line
  line_alike e = rw e (same_refl (in_lower_case b))

-- The first byte of a line

lower_other : (b : ℕ) → within b 65 70 ≡ false → lower_case b ≡ b
unfolding lower_case
lower_other b e = rw e

-- a digit of either case has one number
digit_case : (b : ℕ) → digit_of (lower_case b) ≡ digit_of b
unfolding digit_of lower_case
digit_case b =
    decide (within b 65 70)
    (λ e.
    let low : 65 ≤ b = (within_bounds b 65 70 e).0 in
    let high : b ≤ 70 = (within_bounds b 65 70 e).1 in
    rw (e, within_above (b + 32) 48 57 (omega arith), within_above (b + 32) 65 70 (omega arith), within_true (b + 32) 97 102 (omega arith) (omega arith), within_above b 48 57 (omega arith))
    (omega arith))
    (λ e. ap digit_of (lower_other b e))

first_byte : (k : ℕ) (line : List ℕ) → k < 256 → begins_with k line ≡ true → get_or (hex_bytes line) 0 0 ≡ k
unfolding begins_with hex_pair hex_bytes
first_byte k [] h e = absurd (cons≢nil (sym (line_same [] (hex_pair k) e)))
first_byte k (a ∷ []) h e = absurd (nil≢cons (tail-eq_of_cons-eq (line_same (a ∷ []) (hex_pair k) e)))
first_byte k (a ∷ b ∷ line) h e =
    let same = line_same (a ∷ b ∷ []) (hex_pair k) e in
    let high : digit_of a ≡ k / 16 = number a (k / 16) (omega arith) (head-eq_of_cons-eq same) in
    let low : digit_of b ≡ k % 16 = number b (k % 16) (omega arith) (head-eq_of_cons-eq (tail-eq_of_cons-eq same)) in
    omega (arith, high, low)
  where
    number : (d n : ℕ) → n < 16 → lower_case d ≡ lower_case (lower_digit n) → digit_of d ≡ n
    number d n h e = sym (digit_case d) ∙ ap digit_of e ∙ digit_case (lower_digit n) ∙ digit_back n h

-- what begins as an answer is no frame
begun_none : (k : ℕ) (line : List ℕ) → 2 < k → k < 256 → begins_with k line ≡ true → line_of line ≡ no_frame
begun_none k line h g e =
    let first = first_byte k line g e in
    decide (is_hex line)
    (λ x. line_hex line x ∙ kind_other (hex_bytes line) (λ z. omega (arith, z, first)) (λ z. omega (arith, z, first)) (λ z. omega (arith, z, first)))
    (λ x. line_bad line x)

-- By the kind

begins_none : (line : List ℕ) → begins_as_answer line ≡ true → line_of line ≡ no_frame
begins_none line e =
    decide (begins_with 0x80 line)
    (λ x. begun_none 0x80 line (omega arith) (omega arith) x)
    (λ x. begun_none 0xff line (omega arith) (omega arith) (rw x at e))

pub answer_none : (line : List ℕ) → kind_of line ≡ answer_kind → line_of line ≡ no_frame
unfolding kind_of
answer_none line e =
    decide (ltb longest_line (length line))
    (λ x. over_long line (ltb-true longest_line (length line) x))
    (λ x. decide (begins_as_answer line) (λ y. begins_none line y) (λ y. absurd (no_frame_lem (line_of line) (rw (x, y) at e))))
  where
    no_frame_lem : (l : Line) → frame_kind l ≡ answer_kind → ⊥
    no_frame_lem (step_line a) z = let never : ◌≡◌ {A = ℕ} 0 1 = cc in omega arith
    no_frame_lem (refused_line k) z = let never : ◌≡◌ {A = ℕ} 0 1 = cc in omega arith

pub frame_asks : (line : List ℕ) → is_frame line ≡ true → kind_of line ≡ question_kind
unfolding kind_of
frame_asks line e =
    decide (ltb longest_line (length line))
    (λ x. absurd (frame_not (over_long line (ltb-true longest_line (length line) x))))
    (λ x. rw x (decide (begins_as_answer line) (λ y. absurd (frame_not (begins_none line y))) (λ y. rw y (asked (line_of line) e))))
  where
    frame_not : line_of line ≡ no_frame → ⊥
    frame_not z = false≢true (ap is_step (sym z) ∙ e)

    asked : (l : Line) → is_step l ≡ true → frame_kind l ≡ question_kind
    asked (step_line a) z = refl
    asked (refused_line k) z = absurd (false≢true z)

pub questions_are_frames_lem : QuestionsAreFrames
unfolding kind_of
questions_are_frames_lem line =
    decide (is_frame line)
    (λ e. ap question_by (frame_asks line e) ∙ sym e)
    (λ e. other (ltb longest_line (length line)) (begins_as_answer line) (line_of line) e ∙ sym e)
  where
    other : (long begun : Bool) (l : Line) → is_step l ≡ false → question_by (cond long neither_kind (cond begun answer_kind (frame_kind l))) ≡ false
    other true begun l e = refl
    other false true l e = refl
    other false false (step_line a) e = e
    other false false (refused_line k) e = refl

-- a frame has no byte 10
digit_clean : (b : ℕ) → is_digit b ≡ true → not (eqb b 10) ≡ true
unfolding digit_of within
digit_clean b e = ap not (ne_eqb b 10 (λ z. false≢true (ap is_digit (sym z) ∙ e)))

hex_clean : (s : List ℕ) → is_hex s ≡ true → no_ten s ≡ true
unfolding is_hex
hex_clean [] e = refl
hex_clean (h ∷ []) e = absurd (false≢true e)
hex_clean (h ∷ l ∷ s) e =
    let r = and_right (is_digit h) _ e in
    both (digit_clean h (and_left (is_digit h) _ e)) (both (digit_clean l (and_left (is_digit l) (is_hex s) r)) (hex_clean s (and_right (is_digit l) (is_hex s) r)))

pub frame_clean : (line : List ℕ) → is_frame line ≡ true → no_ten line ≡ true
frame_clean line e = decide (is_hex line) (λ x. hex_clean line x) (λ x. absurd (false≢true (ap is_step (sym (line_bad line x)) ∙ e)))

pub begun_first : (line : List ℕ) → begins_with 0x80 line ≡ true → begins_as_answer line ≡ true
begun_first line e = rw e

pub begun_second : (line : List ℕ) → begins_with 0xff line ≡ true → begins_as_answer line ≡ true
begun_second line e = rw e (or-true (begins_with 0x80 line))

pub begun_answer : (line : List ℕ) → length line ≤ longest_line → begins_as_answer line ≡ true → kind_of line ≡ answer_kind
unfolding kind_of
begun_answer line h e = rw (le-ltb longest_line (length line) h, e)

-- what is kept of a line has its kind, and is the line unless that is over-long
pub kept_kind : (line : List ℕ) → longest_line < length line → kind_of (kept line) ≡ neither_kind
unfolding kind_of kept
kept_kind line h = rw (lt-ltb longest_line (length (take line_room line)) (rw (length-take-le line_room line h) (omega arith)))

pub long_kind : (line : List ℕ) → longest_line < length line → kind_of line ≡ neither_kind
unfolding kind_of
long_kind line h = rw (lt-ltb longest_line (length line) h)

-- a line that passes the test
pub is_answer_lem : (line : List ℕ) → is_answer line ≡ true → kind_of line ≡ answer_kind
is_answer_lem line e = of (kind_of line) e
  where
    of : (k : LineKind) → answer_by k ≡ true → k ≡ answer_kind
    of question_kind e = absurd (false≢true e)
    of answer_kind e = refl
    of neither_kind e = absurd (false≢true e)
