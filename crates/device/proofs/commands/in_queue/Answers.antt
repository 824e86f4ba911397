-- `device::commands::in_queue` meets its contract: in each arm the command is the one that is called.
use mathlib.Core.Path.{◌≡◌, ap, subst}
use mathlib.Core.List.{List}
use Prim.Native.Nat.{ℕ, ◌≤◌}
use borrow.Author.Rules.{rules}
use Rattle.model.specs.Device.{QueueType, Stream}
use Rattle.model.specs.Commands.{on_queue_of}
use Rattle.frame.specs.declared.commands.QueueCommand.{QueueCommand}
use Rattle.frame.specs.Meant.{queue_command_of, queue_length}
use Rattle.stream.specs.Replied.{request_to}
use Rattle.device.proofs.Served.{replied_as}
use Rattle.device.proofs.commands.in_queue.Goals as goal

meant_by : (n t : ℕ) (f : List ℕ) (b : Stream) (q : QueueType) {x k : QueueCommand} → x ≡ k → on_queue_of (queue_command_of x) (request_to n t f b) b q ≡ on_queue_of (queue_command_of k) (request_to n t f b) b q
meant_by n t f b q e = ap (λ (y : QueueCommand). on_queue_of (queue_command_of y) (request_to n t f b) b q) e

long_for : {m : ℕ} {x k : QueueCommand} → x ≡ k → queue_length (queue_command_of x) ≤ m → queue_length (queue_command_of k) ≤ m
long_for {m} e h = subst (λ (y : QueueCommand). queue_length (queue_command_of y) ≤ m) e h

pub create_resource-requires : goal.create_resource-requires
create_resource-requires c =
    (search rules, long_for c.in-CreateResource.is c.requires.2, search rules)

pub queue_resource-requires : goal.queue_resource-requires
queue_resource-requires c =
    (search rules, long_for c.in-QueueResource.is c.requires.2, search rules)

pub set_parameters-requires : goal.set_parameters-requires
set_parameters-requires c =
    (search rules, long_for c.in-SetParameters.is c.requires.2, search rules)

pub returns-in-CreateResource : goal.returns-in-CreateResource
returns-in-CreateResource c b h =
    replied_as (meant_by c.args.asked.stream c.args.asked.ticket c.args.frame.now b _ c.in-CreateResource.is) (c.create_resource.ensures b h)

pub returns-in-QueueResource : goal.returns-in-QueueResource
returns-in-QueueResource c b h =
    replied_as (meant_by c.args.asked.stream c.args.asked.ticket c.args.frame.now b _ c.in-QueueResource.is) (c.queue_resource.ensures b h)

pub returns-in-DestroyAll : goal.returns-in-DestroyAll
returns-in-DestroyAll c b h =
    replied_as (meant_by c.args.asked.stream c.args.asked.ticket c.args.frame.now b _ c.in-DestroyAll.is) (c.destroy_all.ensures _ b h)

pub returns-in-Clear : goal.returns-in-Clear
returns-in-Clear c b h =
    replied_as (meant_by c.args.asked.stream c.args.asked.ticket c.args.frame.now b _ c.in-Clear.is) (c.clear.ensures _ b h)

pub returns-in-GetParameters : goal.returns-in-GetParameters
returns-in-GetParameters c b h =
    replied_as (meant_by c.args.asked.stream c.args.asked.ticket c.args.frame.now b _ c.in-GetParameters.is) (c.get_parameters.ensures _ b h)

pub returns-in-SetParameters : goal.returns-in-SetParameters
returns-in-SetParameters c b h =
    replied_as (meant_by c.args.asked.stream c.args.asked.ticket c.args.frame.now b _ c.in-SetParameters.is) (c.set_parameters.ensures b h)
