-- The log program's own log is accepted.
use mathlib.Core.Path.{◌≡◌, refl, sym, ap, ◌∙◌}
use mathlib.Core.Bool.{true}
use mathlib.Core.List.{List, [], ◌∷◌, ◌++◌, append_assoc}
use Prim.Native.Nat.{ℕ, suc, ◌+◌}
use lib.ListN.{length}
use Rattle.laws.specs.Lists.{all_of}
use Rattle.laws.specs.Parts.{pieces}
use Rattle.laws.proofs.Tests.{and_left, and_right}
use Rattle.model.specs.Tables.{Layout}
use Rattle.line.specs.Split.{lines_in}
use Rattle.line.specs.Log.{line_step, lines_output, fresh_table, log_output}
use Rattle.line.proofs.Cutting.{no_ten, lines_ended}
use Rattle.log_verdict.specs.Kinds.{LineKind}
use Rattle.log_verdict.specs.Checking.{accepted_log, CheckState, right_so_far, answers_on, check_by, check_line, check_lines, conclude, log_verdict}
use Rattle.log_verdict.specs.OwnLog.{is_frame, exchanges_from, with_end, asked_and_answered, own_log, own_answers}
use Rattle.log_verdict.specs.Promises.{OwnAccepted}
use Rattle.log_verdict.proofs.LineKinds.{frame_asks, frame_clean}
use Rattle.log_verdict.proofs.Texts.{lines_back, step_text, step_lines, text_answers}
use Rattle.log_verdict.proofs.First.{check_append, taken_due}

module _ (L : Layout) where
  own_texts : (t : List ℕ) (lines : List (List ℕ)) → lines_output L t lines ≡ own_answers (exchanges_from L t lines)
  unfolding lines_output exchanges_from pieces
  own_texts t [] = refl
  own_texts t (line ∷ lines) = ap (λ (s : List ℕ). (line_step L t line).text ++ s) (own_texts (line_step L t line).table lines)

  -- the lines of an exchange, and of those behind it
  own_lines : (t line : List ℕ) (more : List ℕ) → no_ten line ≡ true
      → lines_in (with_end line ++ (line_step L t line).text ++ more) ≡ line ∷ (answers_on L t line ++ lines_in more)
  unfolding with_end
  own_lines t line more h =
      let x = step_text L t line in
      ap lines_in (simp append_assoc)
      ∙ lines_ended line ((line_step L t line).text ++ more) h
      ∙ ap (λ (s : List ℕ). line ∷ lines_in (s ++ more)) x.as_text
      ∙ ap (λ (ls : List (List ℕ)). line ∷ ls) (lines_back x.in_lines more x.clean ∙ ap (λ (ls : List (List ℕ)). ls ++ lines_in more) (sym (step_lines L t line)))

  -- an exchange is found right, and leaves nothing due
  exchange_right : (t line : List ℕ) (n : ℕ) (more : List (List ℕ)) → is_frame line ≡ true
      → check_lines L (right_so_far t [] n) (line ∷ (answers_on L t line ++ more)) ≡ check_lines L (right_so_far (line_step L t line).table [] (suc n + length (answers_on L t line))) more
  unfolding check_lines check_line
  exchange_right t line n more h =
      let due = answers_on L t line in
      ap (λ (k : LineKind). check_lines L (check_by L k t [] n line) (due ++ more)) (frame_asks line h)
      ∙ check_append L (right_so_far (line_step L t line).table due (suc n)) due more
      ∙ ap (λ (j : CheckState). check_lines L j more) (taken_due L (line_step L t line).table due (suc n) (text_answers L t line))

  own_right : (t : List ℕ) (n : ℕ) (lines : List (List ℕ)) → all_of is_frame lines ≡ true → conclude (check_lines L (right_so_far t [] n) (lines_in (own_log (exchanges_from L t lines)))) ≡ accepted_log
  unfolding exchanges_from pieces asked_and_answered lines_in check_lines
  own_right t n [] h = refl
  own_right t n (line ∷ lines) h =
      let frame = and_left (is_frame line) _ h in
      let t' = (line_step L t line).table in
      let more = own_log (exchanges_from L t' lines) in
      ap (λ (x : List (List ℕ)). conclude (check_lines L (right_so_far t [] n) x)) (own_lines t line more (frame_clean line frame))
      ∙ ap (conclude) (exchange_right t line n (lines_in more) frame)
      ∙ own_right t' (suc n + length (answers_on L t line)) lines (and_right (is_frame line) _ h)

  pub own_accepted_lem : OwnAccepted L
  unfolding log_output log_verdict
  own_accepted_lem = record {
    texts = λ log. own_texts (fresh_table L) (lines_in log);
    accepts = λ lines h. own_right (fresh_table L) 1 lines h;
  }
