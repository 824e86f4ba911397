-- `completion::end_drain` meets its contract: by whether the step ends the drain.
use mathlib.Core.Path.{◌∙◌}
use Rattle.completion.proofs.Ends.{drain_ended_lem, drain_left}
use Rattle.completion.proofs.drains.end_drain.Goals as goal

pub returns-then-ends : goal.returns-then-ends
returns-then-ends c n b e =
    c.set_drain.ensures n b e ∙ drain_ended_lem n _ b c.if-ends.true

pub returns-else-ends : goal.returns-else-ends
returns-else-ends c n b e = e ∙ drain_left n _ b c.if-ends.false
