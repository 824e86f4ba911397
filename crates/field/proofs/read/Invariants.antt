-- `field::read` meets its contract: of the 8 bytes the first are those of the part so far, and the others 0.
use mathlib.Core.Path.{◌≡◌}
use lib.ListN.{drop, replicate}
use lib.Seq.{paste}
use Rattle.field.proofs.read.Given as goal

abbrev pub invariant-loop-i : goal.invariant-loop-i
invariant-loop-i g l = l.bytes ≡ paste (replicate 8 0) 0 (drop l.at l.part) l.i
