-- `frame::set_good` meets its contract: the queue's format, and then the model's test of width and height.
use mathlib.Core.Path.{◌≡◌, sym, ap, ◌∙◌}
use native.Mathlib.Omega.{arith}
use borrow.Author.Tests.{eq-eqb, ne_eqb}
use Rattle.laws.proofs.Tests.{never, and_holds, was_true}
use Rattle.model.specs.Commands.{good_extent}
use Rattle.model.specs.Frames.{format_sent}
use Rattle.frame.specs.Frame.{good_set}
use Rattle.frame.proofs.set_good.Goals as goal
use Rattle.frame.proofs.set_good.Goals.{then-payload_u32-format, else-payload_u32-format}

pub returns-then-extent_good : goal.returns-then-extent_good
unfolding good_set
returns-then-extent_good c =
    elim c.if-payload_u32-format.branch [
      | then-payload_u32-format w ↦
          let same : c.payload_u32.result ≡ c.args.format = omega arith in
          and_holds _ _ _ (eq-eqb (format_sent c.args.frame.now) c.args.format (sym c.payload_u32.ensures ∙ same))
          (and_holds _ _ _ (was_true (w.extent_good.ensures ∙ ap good_extent w.frame_width.ensures) (sym w.value-is ∙ c.if-extent_good.true))
          (c.extent_good-then-extent_good.ensures ∙ ap good_extent c.frame_height.ensures))
      | else-payload_u32-format w ↦ never (sym c.if-extent_good.true ∙ w.value-is ∙ ne_eqb _ _ (λ e. omega arith))
    ]
