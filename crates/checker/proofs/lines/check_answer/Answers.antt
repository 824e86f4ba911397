-- `checker::lines::check_answer` meets its contract: none is due, or the first that is has other bytes, or is this one.
use mathlib.Core.Path.{◌∙◌}
use native.Mathlib.Omega.{arith}
use Rattle.laws.proofs.Tests.{was_true, was_false}
use Rattle.table.specs.Blocks.{layout}
use Rattle.checker.proofs.Checked.{wrong_is, answer_extra, answer_other, answer_due}
use Rattle.checker.proofs.lines.check_answer.Goals as goal

pub returns-then-due-clause-means : goal.returns-then-due-clause-means
returns-then-due-clause-means c t =
    wrong_is c.wrong.ensures ∙ answer_extra layout t c.args.text.now c.args.line.now c.args.due (omega arith) c.if-due.true

pub returns-then-not-same_line-clause-means : goal.returns-then-not-same_line-clause-means
returns-then-not-same_line-clause-means c t =
    wrong_is c.wrong-then-not-same_line.ensures
    ∙ answer_other layout t c.args.text.now c.args.line.now c.args.due (omega arith) c.if-due.false c.requires
    (was_false (rw c.first_line.ensures.line at c.same_line.ensures) c.if-not-same_line.true)

pub returns-clause-means : goal.returns-clause-means
returns-clause-means c t =
    answer_due layout t c.args.text.now c.args.line.now c.args.due (omega arith) c.if-due.false c.requires
    (was_true (rw c.first_line.ensures.line at c.same_line.ensures) c.if-not-same_line.false) (rw c.first_line.ensures.rest at c.next.ensures)
