-- `device::commands::in_block` meets its contract: in each arm the command is the one that is called.
use mathlib.Core.Path.{◌≡◌, ap, subst}
use mathlib.Core.List.{List}
use Prim.Native.Nat.{ℕ, ◌≤◌}
use native.Mathlib.Omega.{arith}
use lib.ListN.{length}
use borrow.Author.Rules.{rules}
use Rattle.model.specs.Device.{Stream}
use Rattle.model.specs.Frames.{QueueCommand, create_resource, queue_resource, destroy_all, clear, get_parameters, set_parameters, live}
use Rattle.model.specs.Commands.{on_live}
use Rattle.frame.specs.declared.commands.LiveCommand.{LiveCommand}
use Rattle.frame.specs.Meant.{queue_command_of, live_command_of, queue_length, least_length}
use Rattle.stream.specs.Replied.{request_to}
use Rattle.stream.proofs.Steps.{failed}
use Rattle.device.proofs.Served.{replied_as, tried_as}
use Rattle.device.proofs.commands.in_block.Goals as goal

meant_by : (n t : ℕ) (f : List ℕ) (b : Stream) {x k : LiveCommand} → x ≡ k → on_live (live_command_of x) (request_to n t f b) b ≡ on_live (live_command_of k) (request_to n t f b) b
meant_by n t f b e = ap (λ (y : LiveCommand). on_live (live_command_of y) (request_to n t f b) b) e

-- a command to a queue has a queue type
sixteen : (k : QueueCommand) → 16 ≤ queue_length k
sixteen create_resource = omega arith
sixteen queue_resource = omega arith
sixteen destroy_all = omega arith
sixteen clear = omega arith
sixteen get_parameters = omega arith
sixteen set_parameters = omega arith

pub to_queue-requires : goal.to_queue-requires
to_queue-requires c =
    let long = subst (λ (x : LiveCommand). least_length (live (live_command_of x)) ≤ length c.args.frame.now) c.in-ToQueue.is c.requires.2 in
    (search rules, search rules, omega (arith, long, sixteen (queue_command_of c.in-ToQueue.k)), long, search rules)

pub returns-in-Destroy : goal.returns-in-Destroy
returns-in-Destroy c b h =
    replied_as (meant_by c.args.asked.stream c.args.asked.ticket c.args.frame.now b c.in-Destroy.is) (c.destroy.ensures _ b h)

pub returns-in-Drain : goal.returns-in-Drain
returns-in-Drain c b h =
    replied_as (meant_by c.args.asked.stream c.args.asked.ticket c.args.frame.now b c.in-Drain.is) (c.drain.ensures _ b h)

pub returns-in-Control : goal.returns-in-Control
returns-in-Control c b h =
    failed _ (meant_by c.args.asked.stream c.args.asked.ticket c.args.frame.now b c.in-Control.is)

pub returns-in-ToQueue : goal.returns-in-ToQueue
returns-in-ToQueue c b h =
    tried_as _ _ _ _ _ _ (meant_by c.args.asked.stream c.args.asked.ticket c.args.frame.now b c.in-ToQueue.is) (c.to_queue.ensures b h)
