-- What a call on a piece of a log gives back and leaves.
use Rattle.std.specs.Prelude.{◌≡◌, List, [], ℕ}
use Rattle.line.specs.Split.{split}
use Rattle.log_verdict.specs.InPieces.{CheckReader}
use Rattle.checker.specs.Meant.{state_in}
use Rattle.checker.specs.declared.lines.TakenPiece.{TakenPiece}

-- the bytes used, how the check stands with the table and the text at the exit, and the kept line are those of a call; what stands in the text besides the
-- lines that are due is free, and once the check has stopped all of text and table
pub record Took (c : CheckReader) (piece : List ℕ) (r : TakenPiece) (t text kept : List ℕ) : Type 0 where
  pub used : r.used ≡ (split [] piece).used
  pub state : state_in r.state t text ≡ c.state
  pub line : kept ≡ c.line
