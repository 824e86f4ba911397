-- `queue::store_parameters` meets its contract: the three words after the first.
use mathlib.Core.Path.{ap}
use mathlib.Core.List.{List}
use Prim.Native.Nat.{ℕ}
use lib.ListN.{set}
use Rattle.queue.specs.Words.{queue_words}
use Rattle.queue.proofs.changes.store_parameters.Goals as goal

pub returns : goal.returns
unfolding queue_words
returns c Q e = ap (λ (l : List ℕ). set (set (set l 1 c.args.width) 2 c.args.height) 3 c.args.rate) e
