-- `checker::lines::take_piece` meets its contract: a line that has not ended is kept, one that has is checked.
use mathlib.Core.Path.{refl}
use Rattle.table.specs.Blocks.{layout}
use Rattle.log_verdict.specs.InPieces.{CheckReader}
use Rattle.checker.specs.Meant.{state_in}
use Rattle.checker.proofs.Checked.{used_is, took_some, took_open, took_ended, took}
use Rattle.checker.proofs.lines.take_piece.Goals as goal

pub returns-in-Some-clause-uses : goal.returns-in-Some-clause-uses
returns-in-Some-clause-uses c =
    took_some layout (record { state = state_in c.args.state c.args.table.now c.args.text.now; line = c.args.kept.now }) c.args.piece.now c.in-Some.ensures

pub returns-in-Some-clause-means : goal.returns-in-Some-clause-means
returns-in-Some-clause-means c =
    let reader : CheckReader = record { state = state_in c.in_text-before.result c.args.table.now c.args.text.now; line = c.args.kept.now } in
    rw (← c.in_text-before.ensures.means c.args.table.now)
    (took (used_is layout reader c.args.piece.now c.in-Some.ensures)
    (took_ended layout reader c.args.piece.now c.in-Some.ensures refl (rw c.bytes.ensures.value at c.checked_line-after.ensures.means) c.clear.ensures))

pub returns-in-None-clause-means : goal.returns-in-None-clause-means
returns-in-None-clause-means c =
    let reader : CheckReader = record { state = state_in c.in_text-before.result c.args.table.now c.args.text.now; line = c.args.kept.now } in
    rw (← c.in_text-before.ensures.means c.args.table.now)
    (took (used_is layout reader c.args.piece.now c.in-None.ensures) (took_open layout reader c.args.piece.now c.in-None.ensures refl))
