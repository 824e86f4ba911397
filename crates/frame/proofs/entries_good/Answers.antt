-- `frame::entries_good` meets its contract: the entries are the whole rest of the frame.
use mathlib.Core.Path.{◌≡◌, sym, ap, ◌∙◌}
use mathlib.Core.Bool.{not}
use Prim.Native.Nat.{◌+◌, ◌*◌}
use native.Mathlib.Omega.{arith}
use borrow.Author.Tests.{eqb-true}
use lib.ListN.{length}
use Rattle.std.proofs.lemmas.Bool.Decides.{nat_tests}
use Rattle.laws.specs.Tests.{within}
use Rattle.laws.proofs.Tests.{never}
use Rattle.model.specs.Frames.{entries}
use Rattle.model.specs.Commands.{bad_entry}
use Rattle.frame.specs.Frame.{good_entries}
use Rattle.frame.proofs.Laws.{entries_rest}
use Rattle.frame.proofs.entries_good.Goals as goal
use Rattle.frame.proofs.entries_good.Goals.{then-contains, else-contains}

pub returns-then-frame-sum : goal.returns-then-frame-sum
unfolding good_entries within
returns-then-frame-sum c =
    let f = c.args.frame.now in
    let size : length f ≡ 88 + 16 * c.args.sum =
    elim c.if-contains.branch [
      | then-contains w ↦ eqb-true (length f) (88 + 16 * c.args.sum) (sym w.value-is ∙ c.if-frame-sum.true)
      | else-contains w ↦ never (sym c.if-frame-sum.true ∙ w.value-is ∙ w.if-contains.false)
    ] in
    let last : c.all_good.result ≡ not (bad_entry c.args.sum (entries f)) = c.all_good.ensures ∙ ap not (sym (entries_rest f c.args.sum size)) in
    grind (arith, nat_tests, last)
