-- `stream::try_drain` meets its contract: a drain that is pending refuses another.
use mathlib.Core.Path.{sym, ap, ◌∙◌}
use Rattle.std.specs.Prelude.{is_some}
use Rattle.stream.specs.Replied.{told}
use Rattle.stream.proofs.Steps.{failed, silent}
use Rattle.stream.proofs.Tested.{drain_again, drain_new}
use Rattle.stream.proofs.try_drain.Goals as goal

pub returns-then-is_some : goal.returns-then-is_some
returns-then-is_some c room f b h =
    failed _ (drain_again (told c.args.asked f b) b (sym (ap is_some (c.pending_drain.ensures _ b h.held)) ∙ sym c.is_some.ensures ∙ c.if-is_some.true))

pub returns : goal.returns
returns c room f b h =
    silent room _
    (drain_new (told c.args.asked f b) b (sym (ap is_some (c.pending_drain.ensures _ b h.held)) ∙ sym c.is_some.ensures ∙ c.if-is_some.false))
    (c.set_drain.ensures _ b h.held)
