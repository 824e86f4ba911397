-- `stream::number_present` meets its contract: what the search found.
use mathlib.Core.Path.{◌∙◌}
use Rattle.queue.proofs.Bridge.{found_present}
use Rattle.stream.proofs.number_present.Goals as goal

pub returns : goal.returns
returns c Q e = c.is_some.ensures ∙ found_present c.args.number Q.slots _ (c.find_resource.ensures.found Q e)
