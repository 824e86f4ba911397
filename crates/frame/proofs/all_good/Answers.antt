-- `frame::all_good` meets its contract: the chunks are the entries one after the other.
use mathlib.Core.Path.{◌∙◌}
use Prim.Native.Nat.{◌/◌}
use native.Mathlib.Omega.{arith}
use borrow.Author.Rules.{rules}
use borrow.Author.Tests.{tests}
use lib.ListN.{length}
use Rattle.std.proofs.lemmas.Iterator.Search.{all_from_yields_List}
use Rattle.frame.specs.Frame.{good_entry}
use Rattle.frame.proofs.Chunks.{YieldsList-from_chunks_exact}
use Rattle.frame.proofs.Laws.{each_good}
use Rattle.frame.proofs.all_good.Goals as goal

pub returns : goal.returns
returns c =
    let n = length c.args.entries.now / 16 in
    all_from_yields_List good_entry _ _ _ c.all.ensures.ran
    (YieldsList-from_chunks_exact 16 (omega arith) n c.args.entries.now c.chunks_exact.ensures.rest c.chunks_exact.ensures.size (omega arith) (omega arith))
    (λ x b q k. search (rules, tests))
    ∙ each_good n c.args.entries.now
