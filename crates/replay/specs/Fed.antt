-- What a call on a line or on a piece of the log gives back and leaves.
use Rattle.std.specs.Prelude.{◌≡◌, List, ℕ}
use Rattle.laws.specs.Stores.{Wrote}
use Rattle.line.specs.Log.{Logged}
use Rattle.line.specs.Reading.{Call}
use Rattle.replay.specs.declared.Fed.{Fed}

-- the table at the exit, and the output that went from out to out', are those of a line's step
pub record Logs (s : Logged) (r : ℕ) (t out out' : List ℕ) : Type 0 where
  pub wrote : Wrote out out' 0 r s.text
  pub table : t ≡ s.table

-- the result, the table and the kept line at the exit, and the output that went from out to out', are those of a call
pub record Did (c : Call) (r : Fed) (t kept out out' : List ℕ) : Type 0 where
  pub used : r.used ≡ c.used
  pub wrote : Wrote out out' 0 r.written c.text
  pub table : t ≡ c.reader.table
  pub line : kept ≡ c.reader.line
