-- `frame::entry_sum` meets its contract: the sum so far is at most 2 ^ 32 - 1 for each count, so eight fit 64 bits.
use mathlib.Core.Path.{◌≡◌}
use Prim.Native.Nat.{◌*◌, ◌≤◌}
use lib.ListN.{take}
use Rattle.laws.specs.Lists.{total}
use Rattle.model.specs.Frames.{num_entries}
use Rattle.frame.proofs.entry_sum.Given as goal

abbrev pub invariant-loop-i : goal.invariant-loop-i
invariant-loop-i l = (l.sum ≡ total (take l.i (num_entries l.frame))) × (l.sum ≤ 4294967295 * l.i)
