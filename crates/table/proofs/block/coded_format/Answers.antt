-- `table::block::coded_format` meets its contract: one word of the head.
use Rattle.table.proofs.Heads.{format_word}
use Rattle.table.proofs.block.coded_format.Goals as goal

pub returns : goal.returns
returns c n s e = format_word _ n s e
