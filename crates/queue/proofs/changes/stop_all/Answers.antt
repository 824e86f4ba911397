-- `queue::stop_all` meets its contract. The invariant: the words are those of the queue whose first `i` slots are stopped.
use mathlib.Core.Path.{◌≡◌, sym, ap, ◌∙◌}
use mathlib.Core.List.{List}
use Prim.Native.Nat.{ℕ}
use native.Mathlib.Omega.{arith}
use borrow.Author.Rules.{rules}
use lib.ListN.{length}
use Rattle.model.specs.Device.{Slot, with_slots}
use Rattle.queue.specs.Changes.{stopped_slot}
use Rattle.queue.specs.Words.{queue_words}
use Rattle.queue.proofs.Records.{held_slots}
use Rattle.queue.proofs.Each.{up_to, up_none, up_more, up_all, stop_each}
use Rattle.queue.proofs.changes.stop_all.Goals as goal

pub loop-i-init : goal.loop-i-init
loop-i-init c = (c.requires, λ Q e. e ∙ ap (λ (s : List Slot). queue_words (with_slots s Q)) (sym (up_none stopped_slot Q.slots)))

pub loop-i-preserved : goal.loop-i-preserved
loop-i-preserved c = (
  search rules,
  λ Q e.
      c.stop_slot.ensures (with_slots (up_to stopped_slot c.loop-i.i Q.slots) Q) (c.loop-i.invariant.1 Q e)
      ∙ ap (λ (t : List Slot). queue_words (with_slots t Q)) (up_more stopped_slot c.loop-i.i Q.slots (omega (arith, held_slots _ Q c.requires e))),
)

pub returns : goal.returns
returns c Q e =
    let end : c.loop-i.i ≡ length Q.slots = omega (arith, c.loop-i-test.false, held_slots _ Q c.requires e) in
    c.loop-i.invariant.1 Q e
    ∙ ap (λ (t : List Slot). queue_words (with_slots t Q)) (ap (λ (n : ℕ). up_to stopped_slot n Q.slots) end ∙ up_all stopped_slot Q.slots ∙ stop_each Q.slots)
