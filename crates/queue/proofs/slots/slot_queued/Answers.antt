-- `queue::slot_queued` meets its contract: the state 2 is that of a Queued buffer.
use Rattle.queue.proofs.Records.{queued_word}
use Rattle.queue.proofs.slots.slot_queued.Goals as goal

pub returns : goal.returns
returns c Q e = queued_word _ Q c.args.k c.requires.0 c.requires.1 e
