-- `line::splitting::KeptLine::gather` meets its contract: each way through is a law of `split`.
use Rattle.line.proofs.Lines.{split_ended, split_open}
use Rattle.line.proofs.splitting.KeptLine.gather.Goals as goal

pub returns-then-n-piece : goal.returns-then-n-piece
returns-then-n-piece c = split_ended c.args.self.now c.args.piece.now c.line_end-n.result c.line_end-n.ensures.value _ c.append.ensures c.if-n-piece.true

pub returns-else-n-piece : goal.returns-else-n-piece
returns-else-n-piece c = split_open c.args.self.now c.args.piece.now c.line_end-n.result c.line_end-n.ensures.value _ c.append.ensures c.if-n-piece.false
