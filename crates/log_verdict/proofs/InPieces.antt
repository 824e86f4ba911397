-- However a log is cut into pieces, the calls on them give the verdict on the whole; numbers of lines in 64 bits are the true ones as far as these go.
use mathlib.Core.Path.{◌≡◌, refl, ap, ◌∙◌}
use mathlib.Core.List.{List, [], ◌∷◌, map}
use Prim.Native.Nat.{ℕ, suc, ◌≤◌, ◌<◌, min}
use native.Mathlib.Omega.{arith}
use lib.Dec.{ltb}
use lib.ListN.{length}
use borrow.Author.Tests.{ltb-true, ltb-false}
use Rattle.laws.specs.Lists.{is_empty}
use Rattle.laws.proofs.Lists.{decide}
use Rattle.model.specs.Tables.{Layout}
use Rattle.line.specs.Split.{longest_line, kept, lines_in, split}
use Rattle.line.specs.Log.{line_step}
use Rattle.line.specs.Reading.{all_used, all_offers, lines_read}
use Rattle.line.proofs.Cutting.{keep_all, any_lines, all_used_lem}
use Rattle.log_verdict.specs.Kinds.{same_line, LineKind, question_kind, answer_kind, neither_kind, kind_of}
use Rattle.log_verdict.specs.Checking.{missing, extra, different, line_refused, LogVerdict, accepted_log, wrong_line, line_named, CheckState, right_so_far, stopped_at, answers_on, check_by, check_line, check_lines, opening, conclude, log_verdict}
use Rattle.log_verdict.specs.InPieces.{last_number, in64, verdict_in64, check_in64, check_lines_in64, check_piece, check_last, calls_verdict}
use Rattle.log_verdict.specs.Promises.{VerdictOfCalls, VerdictOfPieces, StoppedStays}
use Rattle.log_verdict.proofs.LineKinds.{kept_kind, long_kind}
use Rattle.log_verdict.proofs.First.{line_within_lem}

-- Numbers in 64 bits

-- of a line's number and of the next one
next_in64 : (n : ℕ) → min (suc (min n last_number)) last_number ≡ min (suc n) last_number
next_in64 n = omega arith

twice_in64 : (n : ℕ) → min (min n last_number) last_number ≡ min n last_number
twice_in64 n = omega arith

conclude_in64 : (j : CheckState) → conclude (in64 j) ≡ verdict_in64 (conclude j)
conclude_in64 (stopped_at f n) = refl
conclude_in64 (right_so_far t [] n) = refl
conclude_in64 (right_so_far t (d ∷ due) n) = refl

module _ (L : Layout) where
  line_in64 : (j : CheckState) (line : List ℕ) → check_in64 L (in64 j) line ≡ in64 (check_line L j line)
  unfolding check_in64 check_line
  line_in64 (stopped_at f n) line = ap (stopped_at f) (twice_in64 n)
  line_in64 (right_so_far t due n) line = of (kind_of line) due
    where
      of : (k : LineKind) (due : List (List ℕ)) → in64 (check_by L k t due (min n last_number) line) ≡ in64 (check_by L k t due n line)
      of neither_kind due = ap (stopped_at line_refused) (twice_in64 n)
      of question_kind [] = ap (right_so_far (line_step L t line).table (answers_on L t line)) (next_in64 n)
      of question_kind (d ∷ due) = ap (stopped_at missing) (twice_in64 n)
      of answer_kind [] = ap (stopped_at extra) (twice_in64 n)
      of answer_kind (d ∷ due) = decide (same_line line d) (λ s. rw s (ap (right_so_far t due) (next_in64 n))) (λ s. rw s (ap (stopped_at different) (twice_in64 n)))

  -- All lines, each counted in 64 bits

  all_in64 : (j : CheckState) (lines : List (List ℕ)) → check_lines_in64 L (in64 j) lines ≡ in64 (check_lines L j lines)
  unfolding check_lines_in64 check_lines
  all_in64 j [] = refl
  all_in64 j (line ∷ lines) = ap (λ (x : CheckState). check_lines_in64 L x lines) (line_in64 j line) ∙ all_in64 (check_line L j line) lines

  -- of a line what is kept decides
  kept_checked : (j : CheckState) (line : List ℕ) → check_in64 L j (kept line) ≡ check_in64 L j line
  unfolding check_in64 check_line
  kept_checked (stopped_at f n) line = refl
  kept_checked (right_so_far t due n) line =
      decide (ltb longest_line (length line))
      (λ e. let long = ltb-true longest_line (length line) e in rw (kept_kind line long, long_kind line long))
      (λ e. ap (λ (l : List ℕ). in64 (check_by L (kind_of l) t due n l)) (keep_all line (omega (arith, ltb-false longest_line (length line) e))))

  kept_all : (j : CheckState) (lines : List (List ℕ)) → check_lines_in64 L j (map kept lines) ≡ check_lines_in64 L j lines
  unfolding check_lines_in64
  kept_all j [] = refl
  kept_all j (line ∷ lines) = ap (λ (x : CheckState). check_lines_in64 L x (map kept lines)) (kept_checked j line) ∙ kept_all (check_in64 L j line) lines

  -- the calls check the lines that are read
  calls_check : (j : CheckState) (line : List ℕ) (ps : List (List ℕ)) → calls_verdict L (record { state = j; line = line }) ps ≡ conclude (check_lines_in64 L j (lines_read line ps))
  unfolding calls_verdict lines_read check_lines_in64 check_piece check_last
  calls_check j [] [] = refl
  calls_check j (b ∷ l) [] = refl
  calls_check j line (p ∷ ps) =
      let s = split line p in
      decide s.ended
      (λ e. rw e (calls_check (check_in64 L j s.line) [] ps))
      (λ e. rw e (calls_check j s.line ps))

  pub verdict_of_calls_lem : VerdictOfCalls L
  unfolding log_verdict
  verdict_of_calls_lem ps =
      let lines = lines_in (all_used ps) in
      calls_check (opening L) [] ps
      ∙ ap (λ (x : List (List ℕ)). conclude (check_lines_in64 L (opening L) x)) (any_lines ps)
      ∙ ap (conclude) (kept_all (opening L) lines ∙ all_in64 (opening L) lines)
      ∙ conclude_in64 (check_lines L (opening L) lines)

  pub verdict_of_pieces_lem : VerdictOfPieces L
  verdict_of_pieces_lem ps = verdict_of_calls_lem (all_offers ps) ∙ ap (λ (s : List ℕ). verdict_in64 (log_verdict L s)) (all_used_lem ps)

-- a check that has stopped stays so
pub stopped_stays_lem : (L : Layout) → StoppedStays L
unfolding calls_verdict check_last check_piece check_in64 check_line
stopped_stays_lem L f n line [] h = decide (is_empty line) (λ e. rw e) (λ e. rw e (ap (wrong_line f) (let same : min n last_number ≡ n = omega arith in same)))
stopped_stays_lem L f n line (p ∷ ps) h =
    let s = split line p in
    decide s.ended
    (λ e. rw (e, (let same : min n last_number ≡ n = omega arith in same)) (stopped_stays_lem L f n [] ps h))
    (λ e. rw e (stopped_stays_lem L f n s.line ps h))

-- a line that 64 bits count is named as it is, and so is any of a log with fewer bytes
same_in64 : (v : LogVerdict) → line_named v ≤ last_number → verdict_in64 v ≡ v
same_in64 accepted_log h = refl
same_in64 (wrong_line f n) h = ap (wrong_line f) (omega arith)

pub whole_in64 : (L : Layout) (log : List ℕ) → length log < last_number → conclude (check_lines_in64 L (opening L) (lines_in log)) ≡ log_verdict L log
unfolding log_verdict
whole_in64 L log h =
    ap (conclude) (all_in64 L (opening L) (lines_in log)) ∙ conclude_in64 (check_lines L (opening L) (lines_in log)) ∙ same_in64 (log_verdict L log) (omega (arith, line_within_lem L log))
