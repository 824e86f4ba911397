-- The verdict on a log (document 02, request 7), over any layout of the table: the check goes line by line, and ends at the first wrong one.
use Rattle.std.specs.Prelude.{ℕ, suc, cond, List, [], ◌∷◌}
use Rattle.model.specs.Tables.{Layout}
use Rattle.line.specs.Split.{lines_in}
use Rattle.line.specs.Log.{line_step, fresh_table}
use Rattle.log_verdict.specs.Kinds.{LineKind, question_kind, answer_kind, neither_kind, kind_of, same_line}

-- what is wrong with a line, or with the end of the log
pub data Fault : Type 0 where
  -- "a question or the end stands in an answer's stead"
  missing : Fault
  -- "no answer is due"
  extra : Fault
  -- "an answer stands with other bytes"
  different : Fault
  -- neither a frame nor an answer, or over-long: "refused with 7"
  line_refused : Fault

pub data LogVerdict : Type 0 where
  accepted_log : LogVerdict
  -- the first wrong line, counted from 1; the end is one past the last
  wrong_line : Fault → ℕ → LogVerdict

-- The numbers under which a host meets a verdict: of a line that is refused it is the refusal's own

abbrev pub fault_number : Fault → ℕ
fault_number missing = 1
fault_number extra = 2
fault_number different = 3
fault_number line_refused = 7

abbrev pub verdict_number : LogVerdict → ℕ
verdict_number accepted_log = 0
verdict_number (wrong_line f n) = fault_number f

abbrev pub line_named : LogVerdict → ℕ
line_named accepted_log = 0
line_named (wrong_line f n) = n

-- The check

-- how it stands before a line: nothing was wrong so far, with the checker's own table, the answers that are due and the number of the line; or the
-- first wrong line was met
pub data CheckState : Type 0 where
  right_so_far : List ℕ → List (List ℕ) → ℕ → CheckState
  stopped_at : Fault → ℕ → CheckState

-- the end of the log
abbrev pub conclude : CheckState → LogVerdict
conclude (right_so_far t [] n) = accepted_log
conclude (right_so_far t (d ∷ due) n) = wrong_line missing n
conclude (stopped_at f n) = wrong_line f n

module _ (L : Layout) where
  -- the lines that the log program writes for a question on a table
  abbrev pub answers_on : List ℕ → List ℕ → List (List ℕ)
  answers_on t line = lines_in (line_step L t line).text

  -- a line, by its kind and by what is due
  abbrev pub check_by : LineKind → List ℕ → List (List ℕ) → ℕ → List ℕ → CheckState
  check_by neither_kind t due n line = stopped_at line_refused n
  check_by question_kind t [] n line = right_so_far (line_step L t line).table (answers_on t line) (suc n)
  check_by question_kind t (d ∷ due) n line = stopped_at missing n
  check_by answer_kind t [] n line = stopped_at extra n
  check_by answer_kind t (d ∷ due) n line = cond (same_line line d) (right_so_far t due (suc n)) (stopped_at different n)

  unfoldable pub check_line : CheckState → List ℕ → CheckState
  check_line (right_so_far t due n) line = check_by (kind_of line) t due n line
  check_line (stopped_at f n) line = stopped_at f n

  unfoldable pub check_lines : CheckState → List (List ℕ) → CheckState
  check_lines s [] = s
  check_lines s (line ∷ lines) = check_lines (check_line s line) lines

  -- a fresh table, nothing due, the first line
  abbrev pub opening : CheckState
  opening = right_so_far (fresh_table L) [] 1

  unfoldable pub log_verdict : List ℕ → LogVerdict
  log_verdict log = conclude (check_lines opening (lines_in log))
