-- `queue::width` meets its contract: the second word of a queue.
use Rattle.queue.proofs.Records.{width_word}
use Rattle.queue.proofs.changes.width.Goals as goal

pub returns : goal.returns
returns c Q e = width_word _ Q e
