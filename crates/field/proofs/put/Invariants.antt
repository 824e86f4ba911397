-- `field::put` meets its contract: the library's bytes so far are stored.
use mathlib.Core.Path.{◌≡◌}
use lib.Seq.{paste}
use Rattle.field.proofs.put.Given as goal

abbrev pub invariant-loop-i : goal.invariant-loop-i
invariant-loop-i g l = l.out ≡ paste l.initial.out l.at l.bytes l.i
