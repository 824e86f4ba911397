-- `queue::slot_number` meets its contract: the second word of a slot.
use mathlib.Core.Path.{◌∙◌}
use native.Mathlib.Omega.{arith}
use Rattle.queue.specs.Search.{slot_at}
use Rattle.queue.proofs.Records.{slot_word, number_word}
use Rattle.queue.proofs.slots.slot_number.Goals as goal

pub returns : goal.returns
returns c Q e =
    slot_word _ Q c.args.k c.requires.0 c.requires.1 e 1 (omega arith) ∙ number_word (slot_at c.args.k Q.slots)
