-- `checker::fresh_table` meets its contract: it is what `table::fresh` makes of zeros.
use Rattle.laws.specs.Parts.{zeros}
use Rattle.table.specs.Blocks.{layout}
use Rattle.checker.proofs.Checked.{fresh_made}
use Rattle.checker.proofs.fresh_table.Goals as goal

pub returns : goal.returns
unfolding zeros
returns c = fresh_made layout c.fresh.ensures
