-- `table::figures::not_read` meets its contract: refusal 1, and nothing else.
use Rattle.std.proofs.Common.{◌≡◌, refl}
use Rattle.table.specs.Figures.{not_read}
use Rattle.table.proofs.figures.not_read.Goals as goal

pub returns : goal.returns
returns c = let is : record { refusal = 1; pending = 0; reads = 0 } ≡ not_read = refl in is
