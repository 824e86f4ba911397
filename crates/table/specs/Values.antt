-- What this crate's functions give and leave.
use Rattle.std.specs.Prelude.{ℕ, List}
use Rattle.model.specs.Tables.{Freshened}

-- the result and the table of making fresh
abbrev pub freshened : ℕ → List ℕ → Freshened
freshened r t = record { refusal = r; table = t }
