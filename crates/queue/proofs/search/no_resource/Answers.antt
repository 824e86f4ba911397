-- `queue::no_resource` meets its contract: no slot holds a resource where each place is free.
use Rattle.std.proofs.Common.{◌≡◌, ℕ, true, false, rules, refl, sym, ◌∙◌}
use Rattle.std.proofs.lemmas.Iterator.{cases_from_all, YieldsList-from_range}
use borrow.Author.Tests.{tests}
use Rattle.laws.proofs.Ranges.{all_from}
use Rattle.queue.specs.Search.{slot_at, is_free}
use Rattle.queue.proofs.Records.{held_slots}
use Rattle.queue.proofs.Finds.{free_places}
use Rattle.queue.proofs.search.no_resource.Goals as goal

pub returns : goal.returns
returns c Q e =
    let p = λ (k : ℕ). is_free (slot_at k Q.slots) in
    all_from p 16 c.all.result
    (cases_from_all _ _ c.all.result (λ k. p k ≡ true) (λ k. p k ≡ false) c.all.ensures.ran (YieldsList-from_range 0 16 16 refl refl) (λ x q k. search (rules, tests)) (λ x q k. search (rules, tests)))
    ∙ sym (free_places Q.slots (held_slots _ Q c.requires e))
