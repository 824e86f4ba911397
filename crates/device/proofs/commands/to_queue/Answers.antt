-- `device::commands::to_queue` meets its contract: by the queue that the frame names.
use mathlib.Core.Path.{◌≡◌, sym, ap, ◌∙◌}
use Prim.Native.Nat.{ℕ}
use Rattle.std.specs.Prelude.{Result}
use Rattle.model.specs.Frames.{queue_named}
use Rattle.model.specs.Commands.{on_named}
use Rattle.protocol.specs.declared.queue_type.QueueType.{QueueType}
use Rattle.protocol.specs.declared.queue_type.NoQueue.{NoQueue}
use Rattle.protocol.specs.QueueTypes.{queue_meant}
use Rattle.stream.specs.Replied.{told}
use Rattle.stream.proofs.Steps.{failed}
use Rattle.device.proofs.Served.{replied_as}
use Rattle.device.proofs.commands.to_queue.Goals as goal

-- the queue that the queue type n, read as k, was found to name
queue_meant_lem : {n k : ℕ} {r s : Result QueueType NoQueue} → k ≡ n → queue_meant r ≡ queue_named k → r ≡ s → queue_named n ≡ queue_meant s
queue_meant_lem is e found = ap queue_named (sym is) ∙ sym e ∙ ap queue_meant found

pub returns-in_default : goal.returns-in_default
returns-in_default c b h =
    failed _ (ap (on_named _ (told c.args.asked c.args.frame.now b) b) (queue_meant_lem c.queue_type.ensures c.try_from.ensures c.in_default.is))

pub returns : goal.returns
returns c b h =
    replied_as (ap (on_named _ (told c.args.asked c.args.frame.now b) b) (queue_meant_lem c.queue_type.ensures c.try_from.ensures c.in-Ok.is)) (c.in_queue.ensures b h)
