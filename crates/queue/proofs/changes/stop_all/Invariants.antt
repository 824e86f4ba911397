-- `queue::stop_all` meets its contract. The invariant: the words are those of the queue whose first `i` slots are stopped.
use mathlib.Core.Path.{◌≡◌}
use lib.ListN.{length}
use Rattle.model.specs.Device.{Queue, with_slots}
use Rattle.queue.specs.Changes.{stopped_slot}
use Rattle.queue.specs.Words.{queue_words}
use Rattle.queue.proofs.Each.{up_to}
use Rattle.queue.proofs.changes.stop_all.Given as goal

abbrev pub invariant-loop-i : goal.invariant-loop-i
invariant-loop-i l = (length l.q ≡ 84) × ((Q : Queue) → l.initial.q ≡ queue_words Q → l.q ≡ queue_words (with_slots (up_to stopped_slot l.i Q.slots) Q))
