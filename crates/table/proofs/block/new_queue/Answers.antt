-- `table::block::new_queue` meets its contract: two words over zeros, computed.
use Rattle.table.proofs.Heads.{new_queue_lem}
use Rattle.table.proofs.block.new_queue.Goals as goal

pub returns : goal.returns
returns c e = new_queue_lem _ e
