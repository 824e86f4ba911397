-- `queue::free_all` meets its contract. The invariant: the words are those of the queue whose first `k` slots are free.
use mathlib.Core.Path.{◌≡◌}
use lib.ListN.{length}
use Rattle.model.specs.Device.{Queue, with_slots, free}
use Rattle.queue.specs.Words.{queue_words}
use Rattle.queue.proofs.Each.{up_to}
use Rattle.queue.proofs.changes.free_all.Given as goal

abbrev pub invariant-loop-k : goal.invariant-loop-k
invariant-loop-k l = (length l.q ≡ 84) × ((Q : Queue) → l.initial.q ≡ queue_words Q → l.q ≡ queue_words (with_slots (up_to (λ x. free) l.k Q.slots) Q))
