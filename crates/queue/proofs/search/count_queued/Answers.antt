-- `queue::count_queued` meets its contract. The invariant: what was counted below `k` and what is Queued from there on is all that is Queued.
use mathlib.Core.Path.{sym, ap, ◌∙◌}
use native.Mathlib.Omega.{arith}
use borrow.Author.Rules.{rules}
use lib.ListN.{length, drop_of_length-le}
use Rattle.model.specs.Device.{queued_in}
use Rattle.queue.proofs.Records.{held_slots}
use Rattle.queue.proofs.Finds.{queued_here, queued_later}
use Rattle.queue.proofs.search.count_queued.Goals as goal
use Rattle.queue.proofs.search.count_queued.Goals.{then-slot_queued, else-slot_queued}

pub loop-k-init : goal.loop-k-init
loop-k-init c = (search rules, λ Q e. omega arith)

pub loop-k-preserved : goal.loop-k-preserved
loop-k-preserved c =
    elim c.if-slot_queued.branch [
      | then-slot_queued w ↦ (omega (arith, c.loop-k.invariant.0), λ Q e. omega (arith, c.loop-k.invariant.1 Q e, ap length (queued_here Q.slots c.loop-k.k (omega (arith, held_slots _ Q c.requires e)) (sym (c.slot_queued.ensures Q e) ∙ w.if-slot_queued.true))))
      | else-slot_queued w ↦ (omega (arith, c.loop-k.invariant.0), λ Q e. omega (arith, c.loop-k.invariant.1 Q e, ap length (queued_later Q.slots c.loop-k.k (omega (arith, held_slots _ Q c.requires e)) (sym (c.slot_queued.ensures Q e) ∙ w.if-slot_queued.false))))
    ]

pub returns : goal.returns
returns c =
    record { within = search rules; counted = λ Q e. omega (arith, c.loop-k.invariant.1 Q e, ap (λ s. length (queued_in s)) (drop_of_length-le Q.slots {i = c.loop-k.k} (omega (arith, held_slots _ Q c.requires e, c.loop-k-test.false)))) }
