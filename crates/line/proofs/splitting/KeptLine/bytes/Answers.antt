-- `line::splitting::KeptLine::bytes` meets its contract: the first bytes of the room, as many as are kept.
use mathlib.Core.Path.{refl}
use Rattle.line.proofs.splitting.KeptLine.bytes.Goals as goal

pub returns-clause-value : goal.returns-clause-value
returns-clause-value c = rw (← c.self.view_is) refl
