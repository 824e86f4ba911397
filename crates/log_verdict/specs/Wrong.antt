-- The first wrong line of a log, as document 02 says it.
use Rattle.std.specs.Prelude.{ℕ, suc, ◌≡◌, true, List, [], ◌∷◌, ◌++◌, length, drop}
use Rattle.laws.specs.Lists.{all_of}
use Rattle.model.specs.Tables.{Layout}
use Rattle.line.specs.Split.{lines_in}
use Rattle.log_verdict.specs.Kinds.{question_kind, answer_kind, neither_kind, kind_of, is_question, is_answer, in_lower_case}
use Rattle.log_verdict.specs.Checking.{Fault, missing, extra, different, line_refused}
use Rattle.log_verdict.specs.Accepted.{answers_behind, Accepted}

-- what is wrong where these answers are due and these lines stand, the wrong one first; at the end of the log none does
pub data WrongAt : List (List ℕ) → List (List ℕ) → Fault → Type 0 where
  is_neither : {due : List (List ℕ)} {line : List ℕ} {others : List (List ℕ)} → kind_of line ≡ neither_kind → WrongAt due (line ∷ others) line_refused
  question_stands : {d : List ℕ} {due : List (List ℕ)} {line : List ℕ} {others : List (List ℕ)} → kind_of line ≡ question_kind → WrongAt (d ∷ due) (line ∷ others) missing
  end_stands : {d : List ℕ} {due : List (List ℕ)} → WrongAt (d ∷ due) [] missing
  none_is_due : {line : List ℕ} {others : List (List ℕ)} → kind_of line ≡ answer_kind → WrongAt [] (line ∷ others) extra
  other_bytes : {d : List ℕ} {due : List (List ℕ)} {line : List ℕ} {others : List (List ℕ)} → kind_of line ≡ answer_kind → (in_lower_case line ≡ in_lower_case d → ⊥)
      → WrongAt (d ∷ due) (line ∷ others) different

module _ (L : Layout) where
  -- the answers that are due behind lines: none before the first line; else those to the last frame, but for as many as stand behind it
  pub data DueAfter (lines due : List (List ℕ)) : Type 0 where
    no_line_yet : lines ≡ [] → due ≡ [] → DueAfter lines due
    behind_frame : (before given : List (List ℕ)) (line : List ℕ) → lines ≡ before ++ (line ∷ given) → is_question line ≡ true → all_of is_answer given ≡ true
        → due ≡ drop (length given) (answers_behind L before line) → DueAfter lines due

  -- an accepted log that begins with these lines
  pub record Begun (lines : List (List ℕ)) : Type 0 where
    pub log : List ℕ
    pub others : List (List ℕ)
    pub beginning : lines_in log ≡ lines ++ others
    pub is_accepted : Accepted L (lines_in log)

  -- line n of a log is the first wrong one, and this is its fault
  pub record FirstWrong (log : List ℕ) (fault : Fault) (n : ℕ) : Type 0 where
    -- the lines before it, and those from it on
    pub before : List (List ℕ)
    pub rest : List (List ℕ)
    pub parts : lines_in log ≡ before ++ rest
    pub number : n ≡ suc (length before)
    -- the lines before it begin an accepted log; with it they begin none, and the log itself is none
    pub begun : Begun before
    pub broken : (line : List ℕ) (others : List (List ℕ)) → rest ≡ line ∷ others → Begun (before ++ (line ∷ [])) → ⊥
    pub not_accepted : Accepted L (lines_in log) → ⊥
    -- the fault is that of what is due and of what stands there
    pub due : List (List ℕ)
    pub due_there : DueAfter before due
    pub faulty : WrongAt due rest fault
