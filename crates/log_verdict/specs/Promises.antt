-- What holds of the verdict. Each statement is proved in proofs/, over every layout; crates/checker closes them over this device's.
use Rattle.std.specs.Prelude.{ℕ, suc, ◌≤◌, ◌≡◌, true, List, length}
use Rattle.laws.specs.Lists.{all_of}
use Rattle.laws.specs.Parts.{pieces}
use Rattle.model.specs.Tables.{Layout}
use Rattle.line.specs.Split.{lines_in}
use Rattle.line.specs.Log.{log_output}
use Rattle.line.specs.Reading.{all_used, all_offers}
use Rattle.log_verdict.specs.Kinds.{is_question}
use Rattle.log_verdict.specs.Checking.{Fault, accepted_log, wrong_line, line_named, stopped_at, log_verdict}
use Rattle.log_verdict.specs.Accepted.{Accepted}
use Rattle.log_verdict.specs.Wrong.{FirstWrong}
use Rattle.log_verdict.specs.OwnLog.{is_frame, exchanges, own_log, own_answers}
use Rattle.log_verdict.specs.InPieces.{last_number, verdict_in64, check_start, calls_verdict}

-- the lines that are taken for questions are the frames of the log program
abbrev pub QuestionsAreFrames : Type 0
QuestionsAreFrames = (line : List ℕ) → is_question line ≡ is_frame line

-- a log is accepted exactly where it is right as document 02 says it
pub record AcceptedExactly (L : Layout) : Type 0 where
  pub only_right : (log : List ℕ) → log_verdict L log ≡ accepted_log → Accepted L (lines_in log)
  pub all_right : (log : List ℕ) → Accepted L (lines_in log) → log_verdict L log ≡ accepted_log

-- a line and a fault are named exactly where that line is the first wrong one, and that its fault
pub record NamedExactly (L : Layout) : Type 0 where
  pub only_first : (log : List ℕ) (f : Fault) (n : ℕ) → log_verdict L log ≡ wrong_line f n → FirstWrong L log f n
  pub all_first : (log : List ℕ) (f : Fault) (n : ℕ) → FirstWrong L log f n → log_verdict L log ≡ wrong_line f n

-- the log program writes the texts of its exchanges; where the questions are all frames, these with the questions in between are accepted
pub record OwnAccepted (L : Layout) : Type 0 where
  pub texts : (log : List ℕ) → log_output L log ≡ own_answers (exchanges L (lines_in log))
  pub accepts : (lines : List (List ℕ)) → all_of is_frame lines ≡ true → log_verdict L (own_log (exchanges L lines)) ≡ accepted_log

-- calls on any pieces give the verdict on the log of the bytes that they use
abbrev pub VerdictOfCalls : Layout → Type 0
VerdictOfCalls L = (ps : List (List ℕ)) → calls_verdict L (check_start L) ps ≡ verdict_in64 (log_verdict L (all_used ps))

-- however a log is cut into pieces, the calls on them give the verdict on the whole log
abbrev pub VerdictOfPieces : Layout → Type 0
VerdictOfPieces L = (ps : List (List ℕ)) → calls_verdict L (check_start L) (all_offers ps) ≡ verdict_in64 (log_verdict L (pieces (λ (p : List ℕ). p) ps))

-- where the check has stopped, nothing that follows changes the verdict: a program may leave it unread
abbrev pub StoppedStays : Layout → Type 0
StoppedStays L = (f : Fault) (n : ℕ) (line : List ℕ) (ps : List (List ℕ)) → n ≤ last_number → calls_verdict L (record { state = stopped_at f n; line = line }) ps ≡ wrong_line f n

-- the line that is named is one past the log's bytes at most
abbrev pub LineWithin : Layout → Type 0
LineWithin L = (log : List ℕ) → line_named (log_verdict L log) ≤ suc (length log)
