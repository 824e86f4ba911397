-- `frame::resource_good` meets its contract: the entries are those of the true sum.
use mathlib.Core.Path.{◌≡◌, ap, ◌∙◌}
use Prim.Native.Nat.{ℕ}
use native.Mathlib.Omega.{arith}
use lib.ListN.{take}
use Rattle.std.proofs.lemmas.Bool.Decides.{nat_tests}
use Rattle.laws.specs.Tests.{within}
use Rattle.laws.specs.Lists.{total}
use Rattle.model.specs.Frames.{num_entries}
use Rattle.frame.specs.Frame.{entry_sum, good_entries, good_resource}
use Rattle.frame.proofs.resource_good.Goals as goal

pub returns-then-contains-2 : goal.returns-then-contains-2
unfolding good_resource within
returns-then-contains-2 c =
    let f = c.args.frame.now in
    let last : c.entries_good.result ≡ good_entries f (entry_sum f) =
    c.entries_good.ensures ∙ ap (good_entries f) (c.entry_sum.ensures ∙ ap (λ (k : ℕ). total (take k (num_entries f))) c.payload_u32-planes.ensures) in
    grind (arith, nat_tests, last)
