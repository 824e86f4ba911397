-- `table::search::head_is` meets its contract: the two words, one after the other.
use Rattle.std.proofs.Common.{refl, ◌∙◌, eq-eqb, ne_eqb}
use Rattle.laws.proofs.Tests.{and_fails, and_holds}
use Rattle.table.specs.Search.{head_is}
use Rattle.table.proofs.search.head_is.Goals as goal

pub returns-then-b-live : goal.returns-then-b-live
unfolding head_is
returns-then-b-live c = and_holds _ _ _ (eq-eqb _ _ c.if-b-live.true) refl

pub returns-else-b-live : goal.returns-else-b-live
unfolding head_is
returns-else-b-live c = let other = ne_eqb _ _ c.if-b-live.false in other ∙ and_fails _ _ other
