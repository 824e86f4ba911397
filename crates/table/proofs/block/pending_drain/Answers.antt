-- `table::block::pending_drain` meets its contract: by the first of the drain's two words.
use Rattle.table.proofs.Heads.{drain_absent, drain_pending}
use Rattle.table.proofs.block.pending_drain.Goals as goal

pub returns-then-b-eq0 : goal.returns-then-b-eq0
returns-then-b-eq0 c n s e = drain_absent _ n s e c.if-b-eq0.true

pub returns : goal.returns
returns c n s e = drain_pending _ n s e c.if-b-eq0.false
