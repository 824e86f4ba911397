-- `replay::last_line` meets its contract: nothing where no byte is kept, else the line's step.
use Rattle.table.specs.Blocks.{layout}
use Rattle.line.proofs.Lines.{empty_kept, some_kept}
use Rattle.replay.proofs.Steps.{end_empty, end_line}
use Rattle.replay.proofs.last_line.Goals as goal

pub returns-then-is_empty-clause-means : goal.returns-then-is_empty-clause-means
returns-then-is_empty-clause-means c =
    end_empty layout c.args.table.now c.args.kept.now (empty_kept c.args.kept.now c.is_empty.ensures c.if-is_empty.true)

pub returns-clause-means : goal.returns-clause-means
returns-clause-means c =
    end_line layout c.args.table.now c.args.kept.now (some_kept c.args.kept.now c.is_empty.ensures c.if-is_empty.false)
    (rw c.bytes.ensures.value at c.log_line.ensures.means)
