-- `table::fresh` meets its contract: the used words are cleared, and the table of no streams is all zero.
use Rattle.std.proofs.Common.{◌≡◌, ℕ, ◌<◌, List, length, take, replicate, ◌++◌, drop, sym, ap, ◌∙◌, length-take-le, le-ltb, lt-ltb}
use Rattle.table.proofs.Theorems.{fresh_is_zero}
use Rattle.table.specs.Values.{freshened}
use Rattle.laws.specs.Parts.{zeros}
use Rattle.laws.proofs.Parts.{filled}
use Rattle.model.specs.Numbers.{table_words}
use Rattle.model.specs.Tables.{freshen}
use Rattle.table.proofs.fresh.Goals as goal

pub returns-then-table-lt-TABLE_WORDS : goal.returns-then-table-lt-TABLE_WORDS
unfolding freshen
returns-then-table-lt-TABLE_WORDS c =
    let short : _ < table_words = c.if-table-lt-TABLE_WORDS.true in rw (lt-ltb _ _ short)

pub returns : goal.returns
unfolding freshen
returns c =
    let all : c.fill.new.self ≡ replicate (length (take table_words c.args.table.now)) 0 = c.fill.ensures.after (λ y e. e) in
    rw (le-ltb _ _ c.if-table-lt-TABLE_WORDS.false) (ap (λ (w : List ℕ). freshened 0 (w ++ drop table_words c.args.table.now)) (filled _ all ∙ ap zeros (length-take-le table_words c.args.table.now c.if-table-lt-TABLE_WORDS.false) ∙ sym fresh_is_zero))
