-- `table::figures::add_up` meets its contract. The invariant: `all` is the sum of the words so far.
use Rattle.std.proofs.Common.{◌≡◌, ◌%◌, ◌^◌, take}
use Rattle.laws.specs.Lists.{total}
use Rattle.table.proofs.figures.add_up.Given as goal

abbrev pub invariant-loop-n : goal.invariant-loop-n
invariant-loop-n l = l.all ≡ total (take l.n-index l.w) % 2 ^ 32
