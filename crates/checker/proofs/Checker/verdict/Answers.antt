-- `checker::Checker::verdict` meets its contract: where no byte is kept nothing is checked, else the line is.
use mathlib.Core.Path.{ap, ◌∙◌}
use Rattle.table.specs.Blocks.{layout}
use Rattle.log_verdict.specs.Checking.{conclude}
use Rattle.line.proofs.Lines.{empty_kept, some_kept}
use Rattle.checker.proofs.Checked.{last_none, last_checked}
use Rattle.checker.proofs.Checker.verdict.Goals as goal
use Rattle.checker.proofs.Checker.verdict.Goals.{then-not-is_empty, else-not-is_empty}

pub returns : goal.returns
returns c =
    c.verdict.ensures ∙ ap conclude
    (rw (← c.self.view_is)
    (elim c.if-not-is_empty.branch [
      | then-not-is_empty w ↦ w.check-is ∙ rw w.bytes.ensures.value at w.check_line.ensures
          ∙ last_checked layout (record { state = c.self.inside.check; line = c.self.inside.kept }) (some_kept c.self.inside.kept c.is_empty.ensures w.if-not-is_empty.true)
      | else-not-is_empty w ↦ w.check-is
          ∙ last_none layout (record { state = c.self.inside.check; line = c.self.inside.kept }) (empty_kept c.self.inside.kept c.is_empty.ensures w.if-not-is_empty.false)
    ]))
