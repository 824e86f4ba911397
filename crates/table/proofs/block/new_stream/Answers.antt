-- `table::block::new_stream` meets its contract: both queues are written over zeros, then the first words.
use Rattle.std.proofs.Common.{arith, length-set}
use Rattle.table.proofs.Heads.{new_block}
use Rattle.table.proofs.block.new_stream.Goals as goal

pub bounds-b-1 : goal.bounds-b-1
bounds-b-1 c = simp length-set (omega arith)

pub bounds-b-2 : goal.bounds-b-2
bounds-b-2 c = simp length-set (omega arith)

pub returns : goal.returns
returns c e =
    new_block _ _ _ e c.new_queue.ensures c.new_queue-2.ensures c.args.number c.args.format
