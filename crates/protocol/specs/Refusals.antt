-- What the refusals of the code stand for: their numbers, and the result of a step that went well or was refused.
use Rattle.std.specs.Prelude.{ℕ, Result, Ok, Err}
use Rattle.protocol.specs.declared.outcome.Refusal.{Refusal}
use Rattle.protocol.specs.declared.outcome.Refusal.TheVariants.{ShortTable, InvalidTable, ShortRoom, ShortCommand, UnexpectedReport, BadFlags, NoFrame}
use Rattle.protocol.specs.declared.outcome.Outcome.{Outcome}

-- the number of a refusal
abbrev pub refusal_number : Refusal → ℕ
refusal_number ShortTable = 1
refusal_number InvalidTable = 2
refusal_number ShortRoom = 3
refusal_number ShortCommand = 4
refusal_number UnexpectedReport = 5
refusal_number BadFlags = 6
refusal_number NoFrame = 7

-- the number of a step's refusal; 0 where it was not refused
abbrev pub refusal_of : {A : Type 0} → Result A Refusal → ℕ
refusal_of (Ok x) = 0
refusal_of (Err e) = refusal_number e

-- the bytes that a step wrote; 0 where it was refused
abbrev pub written_of : Result ℕ Refusal → ℕ
written_of (Ok n) = n
written_of (Err e) = 0

-- the same as it crosses to the host
abbrev pub outcome_of : Result ℕ Refusal → Outcome
outcome_of r = record { refusal = refusal_of r; written = written_of r }
