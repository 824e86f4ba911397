-- `tag::tag_of` meets its contract: with a NUL and without one it is a law of `tag_length`.
use mathlib.Core.Path.{◌≡◌, sym, ap, ◌∙◌}
use lib.Dec.{eqb}
use Rattle.std.specs.Prelude.{Some, position}
use Rattle.std.specs.Bool.{then_some}
use Rattle.tag.proofs.Laws.{tag_by_nul, tag_without_nul}
use Rattle.tag.proofs.tag_of.Goals as goal

pub returns : goal.returns
returns c =
    let found : position (λ b. eqb b 0) c.args.tag.now ≡ Some c.in_ok-end.end = sym c.first_nul.ensures ∙ c.in_ok-end.was in
    c.then_some.ensures ∙ ap (λ u. then_some u c.in_ok-end.end) c.is_utf8.ensures ∙ tag_by_nul c.args.tag.now c.in_ok-end.end found

pub returns-in_err-end : goal.returns-in_err-end
returns-in_err-end c = c.from_residual.ensures ∙ tag_without_nul c.args.tag.now (sym c.first_nul.ensures ∙ c.in_err-end.was)
