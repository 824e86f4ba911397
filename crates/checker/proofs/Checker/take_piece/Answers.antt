-- `checker::Checker::take_piece` meets its contract: that of the check, with the line that it keeps.
use Rattle.checker.proofs.Checker.take_piece.Goals as goal

pub returns-clause-means : goal.returns-clause-means
returns-clause-means c = rw (← c.self.view_is) c.take_piece.ensures.means
