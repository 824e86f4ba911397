-- `line::splitting::KeptLine::is_empty` meets its contract: no byte is kept where the count is 0.
use native.Mathlib.Omega.{arith}
use Rattle.line.proofs.Lines.{none_first}
use Rattle.line.proofs.splitting.KeptLine.is_empty.Goals as goal

pub returns : goal.returns
returns c = rw (← c.self.view_is) (none_first c.self.inside.have c.self.inside.held (omega (arith, c.self.invariant, c.self.told)))
