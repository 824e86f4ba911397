-- `queue::set_queued` meets its contract: the slot's number is read and written again.
use Rattle.model.specs.Device.{queued, resource}
use Rattle.queue.specs.Search.{slot_at, number_in}
use Rattle.queue.proofs.slots.set_queued.Goals as goal

pub returns : goal.returns
returns c Q e =
    c.write_slot.ensures Q
    (resource (number_in (slot_at c.args.k Q.slots)) (queued c.args.ticket c.args.timestamp)) e (rw (c.slot_number-number.ensures Q e))
