-- `checker::lines::Check::take_piece` meets its contract: that of the function on the parts.
use Rattle.checker.proofs.Checked.{took_whole}
use Rattle.checker.proofs.lines.Check.take_piece.Goals as goal

pub returns-clause-used : goal.returns-clause-used
returns-clause-used c = c.take_piece-taken.ensures.means.used

pub returns-clause-means : goal.returns-clause-means
returns-clause-means c = rw (← c.self.view_is) (took_whole c.take_piece-taken.ensures.means)

pub invariant_of-self : goal.invariant_of-self
invariant_of-self c = (c.take_piece-taken.ensures.fits, c.take_piece-taken.ensures.size)
