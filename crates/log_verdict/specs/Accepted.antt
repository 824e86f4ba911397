-- When a log is accepted, as document 02 says it: "exactly when every line is a frame or an answer, no answer stands before the first frame, and the
-- answers after each step are exactly those our definition gives for it, in order".
use Rattle.std.specs.Prelude.{ℕ, ◌≡◌, Bool, true, false, ◌||◌, List, [], ◌∷◌, ◌++◌, map}
use Rattle.laws.specs.Lists.{any_of, all_of}
use Rattle.model.specs.Tables.{Layout}
use Rattle.line.specs.Log.{line_step, fresh_table}
use Rattle.log_verdict.specs.Kinds.{is_question, is_answer, in_lower_case}
use Rattle.log_verdict.specs.Checking.{answers_on}

-- the first of these lines is an answer
abbrev pub answers_first : List (List ℕ) → Bool
answers_first [] = false
answers_first (line ∷ lines) = is_answer line

module _ (L : Layout) where
  -- the table that lines leave; what is no frame leaves it as it was
  unfoldable pub table_from : List ℕ → List (List ℕ) → List ℕ
  table_from t [] = t
  table_from t (line ∷ lines) = table_from (line_step L t line).table lines

  -- the answers to a question that stands behind these lines of a log: those that the log program writes for it
  abbrev pub answers_behind : List (List ℕ) → List ℕ → List (List ℕ)
  answers_behind before line = answers_on L (table_from (fresh_table L) before) line

  pub record Accepted (lines : List (List ℕ)) : Type 0 where
    -- every line is a frame or an answer
    pub all_known : all_of (λ line. is_question line || is_answer line) lines ≡ true
    -- before each answer stands a frame
    pub frames_first : (before after : List (List ℕ)) (line : List ℕ) → lines ≡ before ++ (line ∷ after) → is_answer line ≡ true → any_of is_question before ≡ true
    -- the answers that stand behind a frame, up to the next line that is none, are those to it, in order, the case of digits aside
    pub exact : (before given after : List (List ℕ)) (line : List ℕ) → lines ≡ before ++ (line ∷ (given ++ after))
        → is_question line ≡ true → all_of is_answer given ≡ true → answers_first after ≡ false
        → map in_lower_case given ≡ map in_lower_case (answers_behind before line)
