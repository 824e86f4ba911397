-- `queue::free_all` meets its contract. The invariant: the words are those of the queue whose first `k` slots are free.
use mathlib.Core.Path.{◌≡◌, sym, ap, ◌∙◌}
use mathlib.Core.List.{List}
use Prim.Native.Nat.{ℕ}
use native.Mathlib.Omega.{arith}
use borrow.Author.Rules.{rules}
use lib.ListN.{length}
use Rattle.model.specs.Device.{Slot, with_slots, free}
use Rattle.queue.specs.Words.{queue_words}
use Rattle.queue.proofs.Records.{held_slots}
use Rattle.queue.proofs.Each.{up_to, up_none, up_more, up_all, free_each}
use Rattle.queue.proofs.changes.free_all.Goals as goal

pub loop-k-init : goal.loop-k-init
loop-k-init c = (c.requires, λ Q e. e ∙ ap (λ (s : List Slot). queue_words (with_slots s Q)) (sym (up_none (λ x. free) Q.slots)))

pub loop-k-preserved : goal.loop-k-preserved
loop-k-preserved c = (
  search rules,
  λ Q e.
      c.set_free.ensures (with_slots (up_to (λ x. free) c.loop-k.k Q.slots) Q) (c.loop-k.invariant.1 Q e)
      ∙ ap (λ (t : List Slot). queue_words (with_slots t Q)) (up_more (λ x. free) c.loop-k.k Q.slots (omega (arith, held_slots _ Q c.requires e))),
)

pub returns : goal.returns
returns c Q e =
    let end : c.loop-k.k ≡ length Q.slots = omega (arith, c.loop-k-test.false, held_slots _ Q c.requires e) in
    c.loop-k.invariant.1 Q e
    ∙ ap (λ (t : List Slot). queue_words (with_slots t Q)) (ap (λ (n : ℕ). up_to (λ x. free) n Q.slots) end ∙ up_all (λ x. free) Q.slots ∙ free_each Q.slots)
