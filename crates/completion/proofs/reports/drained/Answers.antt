-- `completion::drained` meets its contract: by whether a drain is pending and over.
use mathlib.Core.Path.{refl, sym, ◌∙◌}
use native.Mathlib.Omega.{arith}
use Rattle.model.specs.Answers.{drain_done}
use Rattle.answer.proofs.Laws.{wrote_plain}
use Rattle.completion.proofs.Ends.{refused_done, answered_done, drained_none, drained_early, drained_ends, plain_next}
use Rattle.completion.proofs.reports.drained.Goals as goal

pub returns-in_default : goal.returns-in_default
returns-in_default c b h =
    refused_done (refl, refl) h
    (drained_none c.args.stream b (sym c.in_default.is ∙ c.pending_drain.ensures c.args.stream b h.held))

pub returns-then-not-drain_over : goal.returns-then-not-drain_over
returns-then-not-drain_over c b h =
    refused_done (refl, refl) h
    (drained_early c.args.stream b _ (sym c.in-Some.is ∙ c.pending_drain.ensures c.args.stream b h.held)
    (sym (c.drain_over.ensures c.args.stream b h) ∙ c.if-not-drain_over.true))

pub overflow_cast-result : goal.overflow_cast-result
overflow_cast-result c = omega (arith, plain_next _ _ _ c.put_typed-written.ensures)

pub returns : goal.returns
returns c b h =
    answered_done _ _
    (drained_ends c.args.stream b _ (sym c.in-Some.is ∙ c.pending_drain.ensures c.args.stream b h.held)
    (sym (c.drain_over.ensures c.args.stream b h) ∙ c.if-not-drain_over.false))
    (c.set_drain.ensures c.args.stream b h.held)
    (wrote_plain _ c.args.stream drain_done refl c.put_typed-written.ensures)
