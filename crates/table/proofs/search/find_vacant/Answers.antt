-- `table::search::find_vacant` meets its contract: by the first two words of a block.
use Rattle.std.proofs.Common.{◌∙◌}
use Rattle.laws.proofs.Positions.{position_ext}
use Rattle.table.specs.Search.{is_vacant}
use Rattle.table.proofs.Heads.{vacant_starts}
use Rattle.table.proofs.search.find_vacant.Goals as goal

pub returns : goal.returns
returns c = record { within = c.find_place.ensures.within; found = λ ps s e. c.find_place.ensures.found ps s e ∙ position_ext _ (is_vacant) (vacant_starts) ps }
