-- `checker::lines::Check::check_lines` meets its contract: from where the check stands, what is left of the log gives what all of it does.
use mathlib.Core.Path.{◌≡◌}
use lib.ListN.{length}
use Rattle.table.specs.Blocks.{layout}
use Rattle.line.specs.Split.{lines_in}
use Rattle.log_verdict.specs.InPieces.{check_lines_in64}
use Rattle.checker.proofs.lines.Check.check_lines.Given as goal

abbrev pub invariant-loop-rest : goal.invariant-loop-rest
invariant-loop-rest l = check_lines_in64 layout l.self (lines_in l.rest) ≡ check_lines_in64 layout l.initial.self (lines_in l.log)

abbrev pub decreases-loop-rest : goal.decreases-loop-rest
decreases-loop-rest l = length l.rest
