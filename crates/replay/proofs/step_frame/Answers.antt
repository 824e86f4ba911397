-- `replay::step_frame` meets its contract: each arm is the equation of `guard`'s function.
use mathlib.Core.Path.{sym, ap, ◌∙◌}
use Rattle.model.specs.Tables.{effect}
use Rattle.table.specs.Blocks.{layout}
use Rattle.line.specs.declared.Frame.{Frame}
use Rattle.line.specs.Line.{framed}
use Rattle.replay.proofs.step_frame.Goals as goal

pub returns-in-Command : goal.returns-in-Command
returns-in-Command c =
    c.command.ensures
    ∙ ap (λ (f : Frame). effect layout c.args.table.now (framed f c.args.frame.now) c.args.answers.now) (sym c.in-Command.is)

pub returns-in-Finish : goal.returns-in-Finish
returns-in-Finish c =
    c.finish.ensures
    ∙ ap (λ (f : Frame). effect layout c.args.table.now (framed f c.args.frame.now) c.args.answers.now) (sym c.in-Finish.is)

pub returns-in-Drained : goal.returns-in-Drained
returns-in-Drained c =
    c.drained.ensures
    ∙ ap (λ (f : Frame). effect layout c.args.table.now (framed f c.args.frame.now) c.args.answers.now) (sym c.in-Drained.is)
