-- `table::spent::is_spent` meets its contract.
use Rattle.std.proofs.Common.{sym, arith}
use Rattle.model.proofs.Spent.{none_beyond}
use Rattle.table.proofs.Bits.{spent_decoded}
use Rattle.table.specs.Spent.{decode_spent}
use Rattle.table.proofs.spent.is_spent.Goals as goal

pub returns-then-number-ge-STREAM_NUMBERS : goal.returns-then-number-ge-STREAM_NUMBERS
returns-then-number-ge-STREAM_NUMBERS c =
    sym (none_beyond c.args.number (decode_spent c.args.w.now) (omega (arith, spent_decoded c.args.w.now c.requires, c.if-number-ge-STREAM_NUMBERS.true)))

pub returns : goal.returns
returns c = c.bit_is_set.ensures
