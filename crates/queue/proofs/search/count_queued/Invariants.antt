-- `queue::count_queued` meets its contract. The invariant: what was counted below `k` and what is Queued from there on is all that is Queued.
use mathlib.Core.Path.{◌≡◌}
use Prim.Native.Nat.{◌+◌, ◌≤◌}
use lib.ListN.{length, drop}
use Rattle.model.specs.Device.{Queue, queued_in}
use Rattle.queue.specs.Words.{queue_words}
use Rattle.queue.proofs.search.count_queued.Given as goal

abbrev pub invariant-loop-k : goal.invariant-loop-k
invariant-loop-k l = (l.count ≤ l.k) × ((Q : Queue) → l.q ≡ queue_words Q → l.count + length (queued_in (drop l.k Q.slots)) ≡ length (queued_in Q.slots))
