-- `table::search::find_place` meets its contract: the lowest place that passes the test is that of the first such block.
use Rattle.std.proofs.Common.{◌≡◌, ℕ, ◌+◌, ◌-◌, ◌*◌, true, false, ap, rules}
use Rattle.std.proofs.lemmas.Iterator.{first_from_Range}
use borrow.Author.Tests.{tests}
use Rattle.laws.specs.Parts.{part}
use Rattle.laws.proofs.Positions.{position_from}
use Rattle.model.specs.Device.{vacant}
use Rattle.table.specs.Blocks.{place_words}
use Rattle.table.specs.Search.{head_is}
use Rattle.table.proofs.Records.{held_places, place_read}
use Rattle.table.proofs.search.find_place.Goals as goal

pub returns-clause-found : goal.returns-clause-found
returns-clause-found c ps s e =
    let p = λ (k : ℕ). head_is c.args.live c.args.number (part (512 * k) (512 * k + 512 - 512 * k) c.args.t.now) in
    position_from (λ q. head_is c.args.live c.args.number (place_words q)) vacant ps 8 (held_places _ ps s c.requires e) p
    (λ k l. ap (head_is c.args.live c.args.number) (place_read _ ps k c.requires l s e)) c.find.result
    (first_from_Range _ _ _ _ (λ k. p k ≡ true) (λ k. p k ≡ false) c.find.ensures.ran (λ x q k. search (rules, tests)) (λ x q k. search (rules, tests)))
