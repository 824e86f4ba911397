-- `queue::any_queued` meets its contract: any buffer is Queued where any place has one.
use Rattle.std.proofs.Common.{◌≡◌, ℕ, true, false, rules, refl}
use Rattle.std.proofs.lemmas.Iterator.{cases_from_any, YieldsList-from_range}
use borrow.Author.Tests.{tests}
use Rattle.laws.proofs.Ranges.{any_from}
use Rattle.queue.specs.Search.{slot_at, is_queued}
use Rattle.queue.proofs.Records.{held_slots}
use Rattle.queue.proofs.Finds.{queued_places}
use Rattle.queue.proofs.search.any_queued.Goals as goal

pub returns : goal.returns
returns c Q e =
    let p = λ (k : ℕ). is_queued (slot_at k Q.slots) in
    queued_places Q.slots (held_slots _ Q c.requires e) c.any.result
    (any_from p 16 c.any.result
    (cases_from_any _ _ c.any.result (λ k. p k ≡ true) (λ k. p k ≡ false) c.any.ensures.ran (YieldsList-from_range 0 16 16 refl refl) (λ x q k. search (rules, tests)) (λ x q k. search (rules, tests))))
