-- `checker::lines::Check::check_lines` meets its contract: from where the check stands, what is left of the log gives what all of it does.
use Rattle.line.proofs.Written.{some_to_come, none_to_come}
use Rattle.table.specs.Blocks.{layout}
use Rattle.checker.proofs.Checked.{checked_first, checked_all}
use Rattle.checker.proofs.lines.Check.check_lines.Goals as goal

pub loop-rest-preserved : goal.loop-rest-preserved
loop-rest-preserved c =
    rw c.first_line.ensures.rest
    (checked_first layout c.loop-rest.self c.loop-rest.rest.now (some_to_come c.loop-rest.rest.now c.is_empty.ensures c.loop-rest-test.true)
    (rw c.first_line.ensures.line at c.check_line.ensures) c.loop-rest.invariant)

pub returns : goal.returns
returns c = checked_all layout (none_to_come c.loop-rest.rest.now c.is_empty.ensures c.loop-rest-test.false) c.loop-rest.invariant
