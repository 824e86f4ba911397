-- `checker::lines::check_question` meets its contract: an answer is due, or the question is asked.
use mathlib.Core.Path.{◌∙◌}
use native.Mathlib.Omega.{arith}
use Rattle.table.specs.Blocks.{layout}
use Rattle.checker.proofs.Checked.{wrong_is, question_early, question_asked}
use Rattle.checker.proofs.lines.check_question.Goals as goal

pub returns-then-due-clause-means : goal.returns-then-due-clause-means
returns-then-due-clause-means c =
    wrong_is c.wrong.ensures ∙ question_early layout c.args.table.now c.args.text.now c.args.line.now c.args.due (omega arith) c.if-due.true (omega arith)

pub returns-clause-means : goal.returns-clause-means
returns-clause-means c =
    question_asked layout c.args.table.now c.args.text.now c.args.line.now c.args.due (omega arith) c.if-due.false
    c.log_line-written.ensures.means c.log_line-written.ensures.fits c.next.ensures
