-- `stream::queue_slot` meets its contract: a Queued buffer refuses, and otherwise the queue comes back with the buffer in its slot.
use mathlib.Core.Path.{sym, ◌∙◌}
use Rattle.model.specs.Device.{queue_of}
use Rattle.protocol.specs.QueueTypes.{queue_type_of}
use Rattle.stream.specs.Replied.{told}
use Rattle.stream.proofs.Steps.{slots_distinct, queue_words_lem, queue_back, failed, silent}
use Rattle.stream.proofs.Tested.{queueing_again, queueing_new}
use Rattle.stream.proofs.queue_slot.Goals as goal

pub returns-then-slot_queued : goal.returns-then-slot_queued
returns-then-slot_queued c room b h p =
    let t = queue_type_of c.args.q in
    failed _
    (queueing_again (told c.args.asked c.args.frame.now b) b t c.args.k p (slots_distinct h t)
    (sym c.if-slot_queued.true ∙ c.slot_queued.ensures (queue_of t b) (queue_words_lem h t _ c.queue_start-at.ensures.start)))

pub returns : goal.returns
returns c room b h p =
    let t = queue_type_of c.args.q in
    silent room _
    (queueing_new (told c.args.asked c.args.frame.now b) b t c.args.k p (slots_distinct h t)
    (sym c.if-slot_queued.false ∙ c.slot_queued.ensures (queue_of t b) (queue_words_lem h t _ c.queue_start-at.ensures.start))
    _ c.timestamp-timestamp.ensures)
    (queue_back h t _ c.queue_start-at.ensures.start _ _ (c.set_queued.ensures (queue_of t b)))
