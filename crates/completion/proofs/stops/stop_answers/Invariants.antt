-- `completion::stop_answers` meets its contract. The invariant: the buffers below `least` are answered, one for each turn; after sixteen turns none is left.
use mathlib.Core.Path.{◌≡◌}
use mathlib.Core.Bool.{true}
use Prim.Native.Nat.{◌+◌, ◌*◌}
use lib.ListN.{length}
use Rattle.model.specs.Device.{QueueType, Queue}
use Rattle.model.specs.WellFormed.{distinct_slots}
use Rattle.queue.specs.Words.{queue_words}
use Rattle.completion.proofs.Ends.{Along}
use Rattle.completion.proofs.stops.stop_answers.Given as goal

abbrev pub invariant-loop-turn : goal.invariant-loop-turn
invariant-loop-turn l =
    (l.next ≡ l.at + 32 * l._turn) × (length l.room ≡ length l.initial.room)
    × ((Q : Queue) (t : QueueType) → distinct_slots Q.slots ≡ true → l.q ≡ queue_words Q → Along l.stream t Q.slots l.initial.room l.room l.at l.next l.least l._turn)
