-- `line::splitting::KeptLine::append` meets its contract: what was stored is what is kept.
use Rattle.line.proofs.Lines.{append_kept}
use Rattle.line.proofs.splitting.KeptLine.append.Goals as goal

pub returns : goal.returns
returns c =
    rw (← c.self.view_is, c.copy_from_slice.ensures.after)
    (append_kept c.self.inside.held c.args.text.now c.self.inside.have c.min-end.result c.self.invariant c.self.told c.min-end.ensures _)
