-- Lines as a log, and the texts that the log program writes: whole lines, each of them an answer.
use mathlib.Core.Path.{◌≡◌, refl, sym, ap, ◌∙◌, subst}
use mathlib.Core.Bool.{Bool, true, not}
use mathlib.Core.List.{List, [], ◌∷◌, ◌++◌, append_assoc, append-nil}
use Prim.Native.Nat.{ℕ, zero, suc, ◌+◌, ◌/◌, ◌%◌, ◌≤◌}
use native.Mathlib.Omega.{arith}
use lib.Dec.{eqb, ltb, leb}
use lib.ListN.{length, take, drop, length-append, length-take, length-drop}
use borrow.Author.Tests.{ne_eqb, leb-true, le-leb}
use Rattle.laws.specs.Lists.{all_of}
use Rattle.laws.specs.Parts.{pieces, zeros}
use Rattle.laws.proofs.Tests.{both, and_left, and_right}
use Rattle.laws.proofs.Lists.{decide, all_true}
use Rattle.laws.proofs.Pieces.{all_pieces}
use Rattle.field.specs.Field.{little_endian}
use Rattle.field.proofs.Laws.{length_little_endian}
use Rattle.model.specs.Numbers.{answer_room}
use Rattle.model.specs.Frames.{word}
use Rattle.model.specs.Answers.{Written, read_from, answers_in}
use Rattle.model.specs.Tables.{Layout, effect}
use Rattle.model.proofs.Unchanged.{writes_at_most_lem}
use Rattle.line.specs.Hex.{lower_digit, hex_pair, hex_text}
use Rattle.line.specs.Line.{Line, step_line, refused_line, line_of}
use Rattle.line.specs.Split.{lines_in, longest_line}
use Rattle.line.specs.Log.{answer_line, answer_lines, refusal_line, shown, on_line, line_step}
use Rattle.line.proofs.Digits.{length_text}
use Rattle.line.proofs.Cutting.{no_ten, lines_ended}
use Rattle.log_verdict.specs.Kinds.{begins_with, begins_as_answer, answer_by, is_answer}
use Rattle.log_verdict.specs.Checking.{answers_on}
use Rattle.log_verdict.specs.OwnLog.{with_end}
use Rattle.log_verdict.proofs.LineKinds.{line_alike, begun_first, begun_second, begun_answer}

-- The lines of a log

-- lines, each with its byte 10
abbrev pub as_log : List (List ℕ) → List ℕ
as_log lines = pieces with_end lines

-- lines without byte 10 are read back
pub lines_back : (lines : List (List ℕ)) (s : List ℕ) → all_of no_ten lines ≡ true → lines_in (as_log lines ++ s) ≡ lines ++ lines_in s
unfolding pieces with_end
lines_back [] s h = refl
lines_back (l ∷ lines) s h =
    ap lines_in (simp append_assoc)
    ∙ lines_ended l (as_log lines ++ s) (and_left (no_ten l) _ h)
    ∙ ap (λ (ls : List (List ℕ)). l ∷ ls) (lines_back lines s (and_right (no_ten l) _ h))

-- Digits have no byte 10

lower_clean : (n : ℕ) → not (eqb (lower_digit n) 10) ≡ true
unfolding lower_digit
lower_clean n = decide (ltb n 10) (λ e. rw e (ap not (ne_eqb (48 + n) 10 (λ z. omega (arith, z))))) (λ e. rw e (ap not (ne_eqb (87 + n) 10 (λ z. omega (arith, z)))))

pair_clean : (b : ℕ) → no_ten (hex_pair b) ≡ true
unfolding hex_pair
pair_clean b = both (lower_clean (b / 16)) (both (lower_clean (b % 16)) refl)

text_clean : (s : List ℕ) → no_ten (hex_text s) ≡ true
text_clean s = all_pieces (λ b. not (eqb b 10)) hex_pair (λ b. true) (λ b _. pair_clean b) s (all_true s)

-- Texts of answers

pub record AnswerText (text : List ℕ) : Type 0 where
  pub in_lines : List (List ℕ)
  pub as_text : text ≡ as_log in_lines
  pub clean : all_of no_ten in_lines ≡ true
  pub all_answers : all_of is_answer in_lines ≡ true

no_text : AnswerText []
unfolding pieces
no_text = record { in_lines = []; as_text = refl; clean = refl; all_answers = refl }

-- the digits of a byte that an answer begins with, and of what follows, with byte 10, and a text
module _ (k : ℕ) (s : List ℕ) (few : length s ≤ answer_room + 4) (first : begins_as_answer (hex_text (k ∷ s)) ≡ true) where
  is_short : length (hex_text (k ∷ s)) ≤ longest_line
  is_short = omega (arith, length_text (k ∷ s))

  more_text : {text : List ℕ} → AnswerText text → AnswerText (with_end (hex_text (k ∷ s)) ++ text)
  unfolding pieces
  more_text x = record {
    in_lines = hex_text (k ∷ s) ∷ x.in_lines;
    as_text = ap (λ (r : List ℕ). with_end (hex_text (k ∷ s)) ++ r) x.as_text;
    clean = both (text_clean (k ∷ s)) x.clean;
    all_answers = both (ap answer_by (begun_answer (hex_text (k ∷ s)) is_short first)) x.all_answers;
  }

begins_text : (k : ℕ) (s : List ℕ) → begins_with k (hex_text (k ∷ s)) ≡ true
unfolding begins_with pieces hex_pair
begins_text k s = line_alike (hex_pair k) (hex_pair k) refl

answer_first : (s : List ℕ) → begins_as_answer (hex_text (0x80 ∷ s)) ≡ true
answer_first s = begun_first (hex_text (0x80 ∷ s)) (begins_text 0x80 s)

refusal_first : (s : List ℕ) → begins_as_answer (hex_text (0xff ∷ s)) ≡ true
refusal_first s = begun_second (hex_text (0xff ∷ s)) (begins_text 0xff s)

refusal_text : (k : ℕ) → AnswerText (refusal_line k)
unfolding refusal_line with_end
refusal_text k = subst AnswerText (append-nil (hex_text (0xff ∷ k ∷ []) ++ 10 ∷ [])) (more_text 0xff (k ∷ []) (omega arith) (refusal_first (k ∷ [])) no_text)

few_bytes : Written → Bool
few_bytes w = leb (length w.response) answer_room

answer_texts : (ws : List Written) → all_of few_bytes ws ≡ true → AnswerText (pieces answer_line ws)
unfolding pieces answer_line with_end few_bytes
answer_texts [] h = no_text
answer_texts (w ∷ ws) h =
    let t = little_endian 4 w.ticket in
    let few = leb-true (length w.response) answer_room (and_left (few_bytes w) _ h) in
    more_text 0x80 (t ++ w.response) (omega (arith, length-append t w.response, length_little_endian 4 w.ticket)) (answer_first (t ++ w.response)) (answer_texts ws (and_right (few_bytes w) _ h))

-- no response is longer than the bytes that it stands in
read_few : (k : ℕ) (s : List ℕ) → length s ≤ answer_room → all_of few_bytes (read_from k s) ≡ true
unfolding read_from few_bytes
read_few zero s h = refl
read_few (suc k) [] h = refl
read_few (suc k) (b ∷ s) h =
    let n = word (b ∷ s) 4 in
    let response = take n (drop 8 (b ∷ s)) in
    both (le-leb (length response) answer_room (omega (arith, length-take n (drop 8 (b ∷ s)), length-drop 8 (b ∷ s))))
    (read_few k (drop (8 + n) (b ∷ s)) (omega (arith, length-drop (8 + n) (b ∷ s))))

shown_text : (refusal : ℕ) (bytes : List ℕ) → length bytes ≤ answer_room → AnswerText (shown refusal bytes)
unfolding answer_lines
shown_text refusal bytes h = decide (eqb refusal 0) (λ e. rw e (answer_texts (answers_in bytes) (read_few (length bytes) bytes h))) (λ e. rw e (refusal_text refusal))

module _ (L : Layout) (t line : List ℕ) where
  pub step_text : AnswerText (line_step L t line).text
  unfolding line_step
  step_text = of (line_of line)
    where
      of : (l : Line) → AnswerText (on_line L t l).text
      of (step_line a) =
          let e = effect L t a (zeros answer_room) in
          shown_text e.refusal (take e.written e.room) (omega (arith, length-take e.written e.room, writes_at_most_lem L t a (zeros answer_room)))
      of (refused_line k) = refusal_text k

  pub step_lines : answers_on L t line ≡ step_text.in_lines
  unfolding lines_in
  step_lines = ap lines_in (step_text.as_text ∙ sym (append-nil (as_log step_text.in_lines))) ∙ lines_back step_text.in_lines [] step_text.clean ∙ append-nil step_text.in_lines

  pub text_answers : all_of is_answer (answers_on L t line) ≡ true
  text_answers = ap (all_of is_answer) step_lines ∙ step_text.all_answers
