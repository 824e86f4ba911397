-- `table::block::free_stream` meets its contract: 512 zeros are a vacant place.
use Rattle.std.proofs.Common.{◌≡◌, length, replicate, ap, ◌∙◌}
use Rattle.table.specs.Blocks.{place_words}
use Rattle.laws.specs.Parts.{zeros}
use Rattle.laws.proofs.Parts.{filled}
use Rattle.table.proofs.block.free_stream.Goals as goal

pub returns : goal.returns
unfolding place_words
returns c =
    let all : c.fill.new.self ≡ replicate (length c.args.b.now) 0 = c.fill.ensures.after (λ y e. e) in
    filled _ all ∙ ap zeros c.requires
