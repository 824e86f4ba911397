-- `queue::stop_slot` meets its contract: a Queued slot is Dequeued, and any other is what stopping leaves it.
use mathlib.Core.Path.{sym, ap, ◌∙◌}
use mathlib.Core.List.{List}
use lib.ListN.{set}
use Rattle.model.specs.Device.{Slot, with_slots}
use Rattle.queue.specs.Words.{queue_words}
use Rattle.queue.specs.Search.{slot_at}
use Rattle.queue.proofs.Each.{stop_queued, stop_none}
use Rattle.queue.proofs.slots.stop_slot.Goals as goal

pub returns-then-slot_queued : goal.returns-then-slot_queued
returns-then-slot_queued c Q e =
    let test = sym (c.slot_queued.ensures Q e) ∙ c.if-slot_queued.true in
    c.set_dequeued.ensures Q e
    ∙ ap (λ (x : Slot). queue_words (with_slots (set Q.slots c.args.k x) Q)) (stop_queued (slot_at c.args.k Q.slots) test)

pub returns-else-slot_queued : goal.returns-else-slot_queued
returns-else-slot_queued c Q e =
    let test = sym (c.slot_queued.ensures Q e) ∙ c.if-slot_queued.false in
    e ∙ ap (λ (s : List Slot). queue_words (with_slots s Q)) (sym (stop_none c.args.k Q.slots test))
