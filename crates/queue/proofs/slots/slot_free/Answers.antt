-- `queue::slot_free` meets its contract: the state 0 is that of a free slot.
use Rattle.queue.proofs.Records.{free_word}
use Rattle.queue.proofs.slots.slot_free.Goals as goal

pub returns : goal.returns
returns c Q e = free_word _ Q c.args.k c.requires.0 c.requires.1 e
