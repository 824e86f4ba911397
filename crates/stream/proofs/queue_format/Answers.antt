-- `stream::queue_format` meets its contract: an input queue has the stream's format.
use mathlib.Core.Path.{sym, ap, ◌∙◌}
use Rattle.model.specs.Commands.{format_of}
use Rattle.protocol.specs.declared.queue_type.QueueType.{QueueType}
use Rattle.protocol.specs.QueueTypes.{queue_type_of}
use Rattle.stream.proofs.queue_format.Goals as goal

pub returns-in-Input : goal.returns-in-Input
returns-in-Input c n b e = c.coded_format.ensures n b e ∙ ap (λ (q : QueueType). format_of (queue_type_of q) b) (sym c.in-Input.is)

pub returns-in-Output : goal.returns-in-Output
returns-in-Output c n b e = ap (λ (q : QueueType). format_of (queue_type_of q) b) (sym c.in-Output.is)
