-- `tag::display_name` meets its contract: the name in a good tag that is not empty is a law of `display_name`.
use mathlib.Core.Path.{sym, ◌∙◌}
use native.Mathlib.Omega.{arith}
use Rattle.tag.proofs.Laws.{name_own}
use Rattle.tag.proofs.display_name.Goals as goal

pub returns-in-Some : goal.returns-in-Some
returns-in-Some c =
    name_own c.args.frame.now c.args.site.now c.if-frame-ne-CREATE_LENGTH.false (sym c.read.ensures ∙ c.if-read-ne-CREATE.false) _
    (sym c.tag_of.ensures ∙ c.in-Some.is) (λ e. omega arith)
