-- `checker::lines::checked_line` meets its contract: by how the check stands.
use mathlib.Core.Path.{refl}
use Rattle.table.specs.Blocks.{layout}
use Rattle.checker.proofs.Checked.{checked_next, checked_still}
use Rattle.checker.proofs.lines.checked_line.Goals as goal

pub returns-in_default-clause-means : goal.returns-in_default-clause-means
returns-in_default-clause-means c =
    checked_still layout c.args.table.now c.args.text.now c.args.line.now refl c.in_default.is c.requires

pub returns-clause-means : goal.returns-clause-means
returns-clause-means c = checked_next layout c.args.table.now c.args.text.now c.args.line.now refl c.in-Ok.is c.check_by_kind.ensures.means
