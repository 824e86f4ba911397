-- `checker::lines::Check::on_table` meets its contract: the first line has number 1, and nothing is due.
use mathlib.Core.Path.{◌∙◌}
use Rattle.checker.proofs.Checked.{starts_clear}
use Rattle.checker.proofs.lines.Check.on_table.Goals as goal

pub returns : goal.returns
returns c = c.standing.ensures ∙ starts_clear _ _
