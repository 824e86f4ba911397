-- `checker::lines::Check::check_line` meets its contract: by how the check stands.
use Rattle.checker.proofs.lines.Check.check_line.Goals as goal

pub returns : goal.returns
returns c = rw (← c.self.view_is) c.checked_line-self-inside.ensures.means

pub invariant_of-self : goal.invariant_of-self
invariant_of-self c = (c.checked_line-self-inside.ensures.fits, c.checked_line-self-inside.ensures.size)
