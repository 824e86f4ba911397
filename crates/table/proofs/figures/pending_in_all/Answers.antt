-- `table::figures::pending_in_all` meets its contract: the table is too short, or the word of the total is read.
use Rattle.std.proofs.Common.{◌<◌, sym, ◌∙◌, arith}
use Rattle.model.specs.Numbers.{table_words}
use Rattle.table.proofs.Counted.{total_short, total_long}
use Rattle.table.proofs.figures.pending_in_all.Goals as goal

pub returns-then-table-lt-TABLE_WORDS : goal.returns-then-table-lt-TABLE_WORDS
returns-then-table-lt-TABLE_WORDS c =
    let short : _ < table_words = c.if-table-lt-TABLE_WORDS.true in
    c.not_read.ensures ∙ sym (total_short c.args.table.now short)

pub returns : goal.returns
returns c =
    sym (total_long c.args.table.now (omega (arith, c.if-table-lt-TABLE_WORDS.false)))
