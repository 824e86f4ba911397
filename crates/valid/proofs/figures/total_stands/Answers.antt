-- `valid::figures::total_stands` meets its contract: the figures are added up.
use mathlib.Core.Path.{ap}
use lib.ListN.{get_or}
use lib.Dec.{eqb}
use Rattle.valid.proofs.figures.total_stands.Goals as goal

pub returns : goal.returns
returns c =
    ap (eqb (get_or c.args.w.now 0 0)) c.add_up.ensures
