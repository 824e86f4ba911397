-- `checker::lines::Check::has_stopped` meets its contract: the check has stopped where its state is a wrong line.
use mathlib.Core.Path.{◌∙◌}
use Rattle.checker.proofs.Checked.{stopped_is}
use Rattle.checker.proofs.lines.Check.has_stopped.Goals as goal

pub returns : goal.returns
returns c = rw (← c.self.view_is) (c.is_err.ensures.value ∙ stopped_is c.self.inside.state c.self.inside.table.now c.self.inside.text)
