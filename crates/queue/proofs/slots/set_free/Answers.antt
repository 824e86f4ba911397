-- `queue::set_free` meets its contract.
use mathlib.Core.Path.{refl}
use Rattle.model.specs.Device.{free}
use Rattle.queue.proofs.slots.set_free.Goals as goal

pub returns : goal.returns
returns c Q e = c.write_slot.ensures Q free e refl
