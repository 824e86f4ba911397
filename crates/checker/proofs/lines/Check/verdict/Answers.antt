-- `checker::lines::Check::verdict` meets its contract: an answer is due, or none is, or a line was wrong.
use Rattle.checker.proofs.Checked.{end_due, end_clear}
use Rattle.checker.proofs.lines.Check.verdict.Goals as goal

pub returns-then-due : goal.returns-then-due
returns-then-due c = rw c.wrong.ensures (end_due c.self.inside.table.now c.self.inside.text c.self.view_is c.in_ok-due.was c.self.invariant.0 c.self.invariant.1 c.if-due.true)

pub returns : goal.returns
returns c = end_clear c.self.inside.table.now c.self.inside.text c.self.view_is c.in_ok-due.was c.if-due.false
