-- What the types that the code answers stand for, and what it prints of them.
use Rattle.std.specs.Prelude.{ℕ, ◌≤◌, Bool, true, false, List, ◌++◌, Option, Some, None, Result, Ok, Err, codes}
use Rattle.std.specs.Fmt.{decimal}
use Rattle.std.proofs.Math.Seq.{slice}
use Rattle.line.specs.Split.{lines_in}
use Rattle.log_verdict.specs.Kinds as kinds
use Rattle.log_verdict.specs.Checking as verdict
use Rattle.log_verdict.specs.InPieces.{last_number}
use Rattle.checker.specs.declared.kinds.LineKind.{LineKind}
use Rattle.checker.specs.declared.kinds.LineKind.TheVariants.{QuestionKind, AnswerKind}
use Rattle.checker.specs.declared.Fault.{Fault}
use Rattle.checker.specs.declared.Fault.TheVariants.{MissingAnswer, ExtraAnswer, DifferentAnswer, LineRefused}
use Rattle.checker.specs.declared.WrongLine.{WrongLine}
use Rattle.checker.specs.declared.lines.Due.{Due}
use Rattle.checker.specs.declared.NumberedVerdict.{NumberedVerdict}

abbrev pub kind_meant : Option LineKind → kinds.LineKind
kind_meant (Some QuestionKind) = kinds.question_kind
kind_meant (Some AnswerKind) = kinds.answer_kind
kind_meant None = kinds.neither_kind

abbrev pub fault_meant : Fault → verdict.Fault
fault_meant MissingAnswer = verdict.missing
fault_meant ExtraAnswer = verdict.extra
fault_meant DifferentAnswer = verdict.different
fault_meant LineRefused = verdict.line_refused

abbrev pub verdict_meant : Result (Unit {0}) WrongLine → verdict.LogVerdict
verdict_meant (Ok u) = verdict.accepted_log
verdict_meant (Err w) = verdict.wrong_line (fault_meant w.fault) w.line

-- a verdict as it crosses to the host
abbrev pub numbered_by : verdict.LogVerdict → NumberedVerdict
numbered_by v = record { line = verdict.line_named v; verdict = verdict.verdict_number v }

-- the answers that are due stand in the text of the last question's answers, from one place to another
unfoldable pub due_in : ℕ → ℕ → List ℕ → List (List ℕ)
due_in at end text = lines_in (slice at end text)

-- how the check stands, with the table and the text
abbrev pub state_in : Result Due WrongLine → List ℕ → List ℕ → verdict.CheckState
state_in (Ok d) t text = verdict.right_so_far t (due_in d.at d.end text) d.line
state_in (Err w) t text = verdict.stopped_at (fault_meant w.fault) w.line

-- what is due stands within the text, and a line's number has 64 bits
abbrev pub InRange : Result Due WrongLine → Type 0
InRange (Ok d) = (d.end ≤ 2112) × (d.line ≤ last_number)
InRange (Err w) = w.line ≤ last_number

-- a line was wrong
abbrev pub has_stopped : verdict.CheckState → Bool
has_stopped (verdict.right_so_far t due n) = false
has_stopped (verdict.stopped_at f n) = true

-- What is printed

abbrev pub fault_text : Fault → List ℕ
fault_text MissingAnswer = codes "missing"
fault_text ExtraAnswer = codes "extra"
fault_text DifferentAnswer = codes "different"
fault_text LineRefused = codes "refused 7"

abbrev pub wrong_text : WrongLine → List ℕ
wrong_text w = codes "line " ++ (decimal w.line ++ (codes ": " ++ fault_text w.fault))
