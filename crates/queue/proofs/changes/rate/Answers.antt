-- `queue::rate` meets its contract: the fourth word of a queue.
use mathlib.Core.Path.{ap}
use mathlib.Core.List.{List}
use Prim.Native.Nat.{ℕ}
use lib.ListN.{get_or}
use Rattle.queue.specs.Words.{queue_words}
use Rattle.queue.proofs.changes.rate.Goals as goal

pub returns : goal.returns
unfolding queue_words
returns c Q e = ap (λ (l : List ℕ). get_or l 3 0) e
