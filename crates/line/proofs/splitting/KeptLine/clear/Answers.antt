-- `line::splitting::KeptLine::clear` meets its contract: no byte is kept.
use mathlib.Core.Path.{refl}
use Rattle.line.proofs.splitting.KeptLine.clear.Goals as goal

pub returns : goal.returns
returns c = refl
