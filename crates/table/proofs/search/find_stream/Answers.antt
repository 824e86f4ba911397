-- `table::search::find_stream` meets its contract: by the first two words of a block.
use Rattle.std.proofs.Common.{◌∙◌}
use Rattle.laws.proofs.Positions.{position_ext}
use Rattle.table.specs.Search.{is_stream}
use Rattle.table.proofs.Heads.{stream_starts}
use Rattle.table.proofs.search.find_stream.Goals as goal

pub returns : goal.returns
returns c =
    record { within = c.find_place.ensures.within; found = λ ps s e. c.find_place.ensures.found ps s e ∙ position_ext _ (is_stream c.args.number) (stream_starts c.args.number) ps }
