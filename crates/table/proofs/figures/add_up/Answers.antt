-- `table::figures::add_up` meets its contract. The invariant: `all` is the sum of the words so far.
use Rattle.std.proofs.Common.{arith}
use Rattle.laws.proofs.Lists.{total_more}
use Rattle.table.proofs.figures.add_up.Goals as goal

pub loop-n-preserved : goal.loop-n-preserved
loop-n-preserved c =
    omega (arith, c.loop-n.invariant, total_more c.args.w.now c.loop-n.n-index c.loop-n-test.true)
