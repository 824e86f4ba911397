-- `queue::lowest_queued` meets its contract. The invariant: `lowest` is the lowest number of the slots from the last one looked at on.
use mathlib.Core.Path.{◌≡◌}
use lib.ListN.{drop}
use Rattle.model.specs.Device.{Queue}
use Rattle.queue.specs.Words.{queue_words}
use Rattle.queue.specs.Lowest.{lowest_queued}
use Rattle.queue.proofs.search.lowest_queued.Given as goal

abbrev pub invariant-loop-k : goal.invariant-loop-k
invariant-loop-k l = (Q : Queue) → l.q ≡ queue_words Q → l.lowest ≡ lowest_queued l.least (drop l.k Q.slots)
