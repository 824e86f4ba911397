-- `queue::lowest_queued` meets its contract: behind the last slot there is none.
use native.Mathlib.Omega.{arith}
use Rattle.queue.proofs.Records.{held_slots}
use Rattle.queue.proofs.Least.{lowest_end}
use Rattle.queue.proofs.search.lowest_queued.Goals as goal

pub loop-k-init : goal.loop-k-init
loop-k-init c Q e = lowest_end c.args.least Q.slots 16 (omega (arith, held_slots _ Q c.requires e))
