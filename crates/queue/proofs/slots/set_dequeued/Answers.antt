-- `queue::set_dequeued` meets its contract: the slot's number is read and written again.
use Rattle.model.specs.Device.{dequeued, resource}
use Rattle.queue.specs.Search.{slot_at, number_in}
use Rattle.queue.proofs.slots.set_dequeued.Goals as goal

pub returns : goal.returns
returns c Q e =
    c.write_slot.ensures Q (resource (number_in (slot_at c.args.k Q.slots)) dequeued) e (rw (c.slot_number-number.ensures Q e))
