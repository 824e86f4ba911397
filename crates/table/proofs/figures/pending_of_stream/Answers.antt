-- `table::figures::pending_of_stream` meets its contract: the table is too short, or by the place that the marks give.
use Rattle.std.proofs.Common.{◌<◌, sym, ◌∙◌, arith}
use Rattle.std.specs.Prelude.{None}
use Rattle.model.specs.Numbers.{table_words}
use Rattle.queue.proofs.Finds.{found_within}
use Rattle.table.proofs.Counted.{stream_short, asked_found, asked_at}
use Rattle.table.proofs.figures.pending_of_stream.Goals as goal

pub returns-then-table-lt-TABLE_WORDS : goal.returns-then-table-lt-TABLE_WORDS
returns-then-table-lt-TABLE_WORDS c =
    let short : _ < table_words = c.if-table-lt-TABLE_WORDS.true in
    c.not_read.ensures ∙ sym (stream_short c.args.table.now c.args.stream short)

pub returns-in_default : goal.returns-in_default
returns-in_default c =
    sym (asked_found c.args.table.now c.args.stream None (sym c.marked_place.ensures.found ∙ c.in_default.is) (omega (arith, c.if-table-lt-TABLE_WORDS.false)))

pub overflow_add-result : goal.overflow_add-result
overflow_add-result c =
    omega (arith, found_within 8 c.in-Some.is c.marked_place.ensures.within)

pub offset_bounds-table-k : goal.offset_bounds-table-k
offset_bounds-table-k c =
    omega (arith, found_within 8 c.in-Some.is c.marked_place.ensures.within)

pub bounds-table-k : goal.bounds-table-k
bounds-table-k c =
    omega (arith, c.if-table-lt-TABLE_WORDS.false, found_within 8 c.in-Some.is c.marked_place.ensures.within)

pub overflow_cast-result-2 : goal.overflow_cast-result-2
overflow_cast-result-2 c =
    omega (arith, found_within 8 c.in-Some.is c.marked_place.ensures.within)

pub overflow_add-result-2 : goal.overflow_add-result-2
overflow_add-result-2 c =
    omega (arith, found_within 8 c.in-Some.is c.marked_place.ensures.within)

pub returns : goal.returns
returns c =
    sym (asked_at c.args.table.now c.args.stream _ (sym c.marked_place.ensures.found ∙ c.in-Some.is) (omega (arith, c.if-table-lt-TABLE_WORDS.false)))
