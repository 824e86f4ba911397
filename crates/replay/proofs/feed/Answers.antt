-- `replay::feed` meets its contract: a line that has not ended is kept, one that has is stepped.
-- The first answer is the one whose error shows both lines where another than the one that was kept is stepped.
use Rattle.table.specs.Blocks.{layout}
use Rattle.replay.proofs.Steps.{call_open, call_ended, used_some}
use Rattle.replay.proofs.feed.Goals as goal

pub returns-in-Some-clause-means : goal.returns-in-Some-clause-means
returns-in-Some-clause-means c =
    call_ended layout c.args.table.now c.args.kept.now c.args.piece.now c.gather.new.self c.args.out.now c.in-Some.ensures c.clear.ensures (rw c.bytes.ensures.value at c.log_line-written.ensures.means)

pub returns-in-Some-clause-uses : goal.returns-in-Some-clause-uses
returns-in-Some-clause-uses c =
    used_some _ c.args.piece.now (call_ended layout c.args.table.now _ c.args.piece.now c.gather.new.self c.args.out.now c.in-Some.ensures c.clear.ensures (rw c.bytes.ensures.value at c.log_line-written.ensures.means))

pub returns-in-None-clause-means : goal.returns-in-None-clause-means
returns-in-None-clause-means c = call_open layout c.args.table.now c.args.kept.now c.args.piece.now _ c.args.out.now c.in-None.ensures
