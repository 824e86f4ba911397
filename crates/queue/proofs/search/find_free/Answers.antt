-- `queue::find_free` meets its contract: the lowest place that passes the test is that of the first such slot.
use Rattle.std.proofs.Common.{◌≡◌, ℕ, true, false, refl, rules}
use Rattle.std.proofs.lemmas.Iterator.{first_from_Range}
use borrow.Author.Tests.{tests}
use Rattle.laws.proofs.Positions.{position_from}
use Rattle.model.specs.Device.{free}
use Rattle.queue.specs.Search.{slot_at, is_free}
use Rattle.queue.proofs.Records.{held_slots}
use Rattle.queue.proofs.search.find_free.Goals as goal

pub returns-clause-found : goal.returns-clause-found
returns-clause-found c Q e =
    let p = λ (k : ℕ). is_free (slot_at k Q.slots) in
    position_from is_free free Q.slots 16 (held_slots _ Q c.requires e) p (λ i h. refl) c.find.result
    (first_from_Range _ _ _ _ (λ k. p k ≡ true) (λ k. p k ≡ false) c.find.ensures.ran (λ x q k. search (rules, tests)) (λ x q k. search (rules, tests)))
