-- `completion::bad_eos` meets its contract: by the flags, the queue and the drain.
use mathlib.Core.Path.{sym, ap, ◌∙◌}
use Rattle.std.specs.Prelude.{is_some}
use Rattle.protocol.specs.QueueTypes.{queue_type_of}
use Rattle.completion.proofs.Ends.{eos_absent, eos_input, eos_by_drain}
use Rattle.completion.proofs.reports.bad_eos.Goals as goal

pub returns-else-has_eos : goal.returns-else-has_eos
returns-else-has_eos c n b h =
    c.if-has_eos.false ∙ eos_absent c.args.flags (queue_type_of c.args.queue) b (sym c.has_eos.ensures ∙ c.if-has_eos.false)

pub returns-then-is_input : goal.returns-then-is_input
returns-then-is_input c n b h =
    c.if-is_input.true ∙ eos_input c.args.flags (queue_type_of c.args.queue) b (sym c.has_eos.ensures ∙ c.if-has_eos.true)
    (sym c.is_input.ensures ∙ c.if-is_input.true)

pub returns-else-is_input : goal.returns-else-is_input
returns-else-is_input c n b h =
    eos_by_drain c.args.flags (queue_type_of c.args.queue) b (sym c.has_eos.ensures ∙ c.if-has_eos.true)
    (sym c.is_input.ensures ∙ c.if-is_input.false)
    (sym (ap is_some (c.pending_drain.ensures n b h.held)) ∙ c.is_none.ensures)
