-- `queue::slot_timestamp` meets its contract: the fourth word of a slot, and above it the fifth.
use Prim.Native.Nat.{◌+◌, ◌*◌}
use native.Mathlib.Omega.{arith}
use Rattle.queue.specs.Search.{slot_at}
use Rattle.queue.proofs.Records.{slot_word, timestamp_words}
use Rattle.queue.proofs.slots.slot_timestamp.Goals as goal

pub overflow_mul-result : goal.overflow_mul-result
overflow_mul-result c = omega (arith, c.shared_slice_known-2-1.given (4 + 5 * c.args.k + 3), c.shared_slice_known-2-1.given (4 + 5 * c.args.k + 4))

pub overflow_add-result-3 : goal.overflow_add-result-3
overflow_add-result-3 c = omega (arith, c.shared_slice_known-2-1.given (4 + 5 * c.args.k + 3), c.shared_slice_known-2-1.given (4 + 5 * c.args.k + 4))

pub returns : goal.returns
returns c Q e =
    rw (slot_word _ Q c.args.k c.requires.0 c.requires.1 e 3 (omega arith), slot_word _ Q c.args.k c.requires.0 c.requires.1 e 4 (omega arith)) (timestamp_words (slot_at c.args.k Q.slots))
