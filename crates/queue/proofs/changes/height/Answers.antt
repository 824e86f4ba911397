-- `queue::height` meets its contract: the third word of a queue.
use Rattle.queue.proofs.Records.{height_word}
use Rattle.queue.proofs.changes.height.Goals as goal

pub returns : goal.returns
returns c Q e = height_word _ Q e
