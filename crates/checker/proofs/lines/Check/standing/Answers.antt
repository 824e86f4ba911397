-- `checker::lines::Check::standing` meets its contract: no more is due than stands in the text.
use Rattle.checker.proofs.lines.Check.standing.Goals as goal

pub returns : goal.returns
returns c = c.in_text-state.ensures.means c.args.table.now
