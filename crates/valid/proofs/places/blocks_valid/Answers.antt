-- `valid::places::blocks_valid` meets its contract: each block is tested, and then that no stream number stands twice.
use mathlib.Core.Path.{◌≡◌, refl, ap, ◌∙◌}
use mathlib.Core.List.{List, []}
use Prim.Native.Nat.{ℕ, ◌+◌, ◌*◌}
use lib.ListN.{get_or}
use borrow.Author.Rules.{rules}
use borrow.Author.Tests.{tests}
use Rattle.std.proofs.lemmas.Iterator.{YieldsList-from_range}
use Rattle.std.proofs.lemmas.Iterator.Search.{all_from_yields_List}
use Rattle.laws.specs.Lists.{numbers_in, distinct}
use Rattle.laws.specs.Tests.{all_below}
use Rattle.laws.specs.Parts.{part, read_pieces}
use Rattle.laws.proofs.Tests.{and_fails, and_holds, was_true, was_false}
use Rattle.model.specs.Numbers.{stream_places}
use Rattle.table.specs.Figures.{first_mark, first_figure}
use Rattle.table.specs.Blocks.{place_size}
use Rattle.valid.specs.Rules.{words_number, numbers_from, place_right, blocks_right}
use Rattle.valid.proofs.Chains.{all_in_range}
use Rattle.valid.proofs.Elements.{elements_read}
use Rattle.valid.proofs.PlaceStands.{each_block}
use Rattle.valid.proofs.places.blocks_valid.Goals as goal
use Rattle.valid.proofs.places.blocks_valid.Goals.{After-all}

block_read : (c : After-all) → c.as_chunks.result.0.now ≡ read_pieces (λ x. x) place_size stream_places c.args.b.now
block_read c = elements_read 512 8 4096 c.args.b.now c.requires.0 refl c.as_chunks.ensures.front

each : (c : After-all) → c.all.result ≡ all_below stream_places (λ k. place_right c.args.spent.now (get_or c.args.w.now (first_mark + k) 0) (get_or c.args.w.now (first_figure + k) 0) (part (place_size * k) place_size c.args.b.now))
each c =
    all_from_yields_List (λ k. place_right c.args.spent.now (get_or c.args.w.now (first_mark + k) 0) (get_or c.args.w.now (first_figure + k) 0) (get_or c.as_chunks.result.0.now k [])) _ _ _ c.all.ensures.ran
    (YieldsList-from_range 0 8 8 refl refl) (λ x b q k. search (rules, tests))
    ∙ all_in_range _ 8 ∙ each_block c.args.spent.now c.args.w.now c.args.b.now (block_read c)

pub returns-then-all : goal.returns-then-all
unfolding blocks_right numbers_from
returns-then-all c =
    let past = (goal.at.returns-then-all c).After-all in
    and_holds _ _ _ (was_true (each past) c.if-all.true) (c.numbers_distinct.ensures ∙ ap (λ (l : List (List ℕ)). distinct (numbers_in words_number l)) (block_read past))

pub returns-else-all : goal.returns-else-all
unfolding blocks_right
returns-else-all c =
    c.if-all.false ∙ and_fails _ _ (was_false (each (goal.at.returns-else-all c).After-all) c.if-all.false)
