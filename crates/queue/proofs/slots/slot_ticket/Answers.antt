-- `queue::slot_ticket` meets its contract: the third word of a slot.
use mathlib.Core.Path.{◌∙◌}
use native.Mathlib.Omega.{arith}
use Rattle.queue.specs.Search.{slot_at}
use Rattle.queue.proofs.Records.{slot_word, ticket_word}
use Rattle.queue.proofs.slots.slot_ticket.Goals as goal

pub returns : goal.returns
returns c Q e =
    slot_word _ Q c.args.k c.requires.0 c.requires.1 e 2 (omega arith) ∙ ticket_word (slot_at c.args.k Q.slots)
