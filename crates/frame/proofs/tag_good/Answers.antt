-- `frame::tag_good` meets its contract: a tag of which a length is found is a good one.
use mathlib.Core.Path.{ap, ◌∙◌}
use Rattle.std.specs.Prelude.{is_some}
use Rattle.tag.specs.Tag.{tag_in}
use Rattle.frame.proofs.Laws.{some_length}
use Rattle.frame.proofs.tag_good.Goals as goal

pub returns : goal.returns
returns c = c.is_some.ensures ∙ ap is_some c.tag_of.ensures ∙ some_length (tag_in c.args.frame.now)
