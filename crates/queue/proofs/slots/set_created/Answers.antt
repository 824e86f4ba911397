-- `queue::set_created` meets its contract.
use mathlib.Core.Path.{refl}
use Rattle.model.specs.Device.{created, resource}
use Rattle.queue.proofs.slots.set_created.Goals as goal

pub returns : goal.returns
returns c Q e =
    c.write_slot.ensures Q (resource c.args.number created) e refl
