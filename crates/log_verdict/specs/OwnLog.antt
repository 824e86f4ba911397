-- A log that the log program itself wrote, with its questions put in between.
use Rattle.std.specs.Prelude.{ℕ, Bool, true, false, List, [], ◌∷◌, ◌++◌}
use Rattle.laws.specs.Parts.{pieces}
use Rattle.model.specs.Tables.{Layout}
use Rattle.line.specs.Line.{Line, step_line, refused_line, line_of}
use Rattle.line.specs.Log.{line_step, fresh_table}

abbrev pub is_step : Line → Bool
is_step (step_line a) = true
is_step (refused_line k) = false

abbrev pub is_frame : List ℕ → Bool
is_frame line = is_step (line_of line)

-- a question, and the text that the log program writes for it
pub record Exchange : Type 0 where
  pub asked : List ℕ
  pub text : List ℕ

module _ (L : Layout) where
  unfoldable pub exchanges_from : List ℕ → List (List ℕ) → List Exchange
  exchanges_from t [] = []
  exchanges_from t (line ∷ lines) = record { asked = line; text = (line_step L t line).text } ∷ exchanges_from (line_step L t line).table lines

  abbrev pub exchanges : List (List ℕ) → List Exchange
  exchanges lines = exchanges_from (fresh_table L) lines

-- a line with its byte 10
unfoldable pub with_end : List ℕ → List ℕ
with_end line = line ++ 10 ∷ []

-- each question with its byte 10, and behind it what was written for it
unfoldable pub asked_and_answered : Exchange → List ℕ
asked_and_answered x = with_end x.asked ++ x.text

abbrev pub own_log : List Exchange → List ℕ
own_log xs = pieces asked_and_answered xs

abbrev pub own_answers : List Exchange → List ℕ
own_answers xs = pieces (λ (x : Exchange). x.text) xs
