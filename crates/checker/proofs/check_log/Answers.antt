-- `checker::check_log` meets its contract: 64 bits count the lines of any log that a slice holds.
use mathlib.Core.Path.{ap, ◌∙◌}
use mathlib.Core.List.{List, []}
use Prim.Native.Nat.{ℕ}
use native.Mathlib.Omega.{arith}
use Rattle.table.specs.Blocks.{layout}
use Rattle.line.specs.Split.{lines_in}
use Rattle.log_verdict.specs.Checking.{CheckState, right_so_far, conclude}
use Rattle.log_verdict.specs.InPieces.{check_lines_in64}
use Rattle.log_verdict.proofs.InPieces.{whole_in64}
use Rattle.checker.proofs.check_log.Goals as goal

pub returns : goal.returns
returns c =
    c.verdict.ensures
    ∙ ap conclude c.check_lines.ensures
    ∙ ap (λ (s : CheckState). conclude (check_lines_in64 layout s (lines_in c.args.log.now))) (c.on_table-check.ensures ∙ ap (λ (t : List ℕ). right_so_far t [] 1) c.fresh_table-table.ensures)
    ∙ whole_in64 layout c.args.log.now (omega arith)
