-- `checker::lines::check_by_kind` meets its contract: a line that is neither is refused.
use mathlib.Core.Path.{◌∙◌}
use native.Mathlib.Omega.{arith}
use Rattle.table.specs.Blocks.{layout}
use Rattle.log_verdict.specs.Checking.{line_refused}
use Rattle.checker.proofs.Checked.{wrong_is, neither_stops}
use Rattle.checker.proofs.lines.check_by_kind.Goals as goal

pub returns-in-None-clause-means : goal.returns-in-None-clause-means
returns-in-None-clause-means c =
    rw (← c.kind_of.ensures, c.in-None.is)
    (wrong_is c.wrong.ensures ∙ neither_stops layout c.args.table.now c.args.text.now c.args.line.now c.args.due (omega arith) line_refused)
