-- `completion::finish` meets its contract: by the queue that the report names.
use mathlib.Core.Path.{refl, sym, ap, ◌∙◌}
use native.Mathlib.Omega.{arith}
use Rattle.protocol.specs.QueueTypes.{queue_meant}
use Rattle.completion.proofs.Ends.{refused_done, done_as, finish_named, finish_unnamed}
use Rattle.completion.proofs.reports.finish.Goals as goal

pub returns-in_default : goal.returns-in_default
returns-in_default c b h =
    refused_done (refl, refl) h
    (finish_unnamed _ _ _ _ _ b (omega arith) (sym c.try_from.ensures ∙ ap queue_meant c.in_default.is))

pub returns : goal.returns
returns c b h =
    done_as (finish_named c.args.report.stream c.args.report.queue c.args.report.resource c.args.report.flags c.args.report.timestamp b _ (omega arith) (sym c.try_from.ensures ∙ ap queue_meant c.in-Ok.is))
    (c.finish_buffer.ensures b h)
