-- `completion::timestamp_in` meets its contract: by the queue.
use mathlib.Core.Path.{sym, ap, ◌∙◌}
use Rattle.protocol.specs.QueueTypes.{queue_type_of}
use Rattle.completion.proofs.Ends.{told_input, told_output}
use Rattle.completion.proofs.reports.timestamp_in.Goals as goal

pub returns-in-Output : goal.returns-in-Output
returns-in-Output c Q i e t = told_output _ i _ (ap queue_type_of c.in-Output.is)

pub returns-in-Input : goal.returns-in-Input
returns-in-Input c Q i e t =
    c.slot_timestamp.ensures Q e ∙ sym t ∙ told_input _ i c.args.timestamp (ap queue_type_of c.in-Input.is)
