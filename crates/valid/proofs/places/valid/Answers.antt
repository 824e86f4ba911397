-- `valid::places::valid` meets its contract: the blocks are tested with their figures, and then what stands around the figures, and the total.
use mathlib.Core.Path.{◌≡◌, refl, sym, ap, ◌∙◌}
use mathlib.Core.Bool.{◌&&◌}
use native.Mathlib.Omega.{arith}
use lib.ListN.{get_or}
use lib.Dec.{eqb}
use Rattle.laws.specs.Parts.{part}
use Rattle.laws.proofs.Tests.{and_left, was_true}
use Rattle.table.specs.Figures.{total_at, figures_size}
use Rattle.valid.proofs.Chains.{next_made, next_left}
use Rattle.valid.proofs.PlaceStands.{unused_test, right_test, right_sum, right_blocks, gap_zero, total_right}
use Rattle.valid.proofs.places.valid.Goals as goal
use Rattle.valid.proofs.places.valid.Goals.{Joined-all_zero, then-blocks_valid, else-blocks_valid, then-all_zero, else-all_zero}

-- the blocks and the gap
first_tests : (c : Joined-all_zero) → c.if-blocks_valid.value ≡ right_blocks c.args.t.now && gap_zero c.args.t.now
first_tests c =
    elim c.if-blocks_valid.branch [
      | then-blocks_valid w ↦ next_made c.blocks_valid.ensures w.if-blocks_valid.true (w.value-is ∙ w.all_zero.ensures ∙ unused_test c.args.t.now c.requires 4128 1 (omega arith))
      | else-blocks_valid w ↦ next_left _ c.blocks_valid.ensures w.if-blocks_valid.false w.value-is
    ]

-- and the total
total_tested : (c : Joined-all_zero) → c.if-all_zero.value ≡ (right_blocks c.args.t.now && gap_zero c.args.t.now) && total_right c.args.t.now
total_tested c =
    elim c.if-all_zero.branch [
      | then-all_zero w ↦
          let blocks = and_left (right_blocks c.args.t.now) _ (was_true (first_tests c) w.if-all_zero.true) in
          next_made (first_tests c) w.if-all_zero.true
          (w.value-is ∙ w.total_stands.ensures
          ∙ ap (eqb (get_or (part total_at figures_size c.args.t.now) 0 0)) (right_sum c.args.t.now c.requires (λ i. (c.type_inv.t i).fits) blocks))
      | else-all_zero w ↦ next_left _ (first_tests c) w.if-all_zero.false w.value-is
    ]

pub returns-then-total_stands : goal.returns-then-total_stands
returns-then-total_stands c =
    next_made (total_tested (goal.at.returns-then-total_stands c).Joined-all_zero) c.if-total_stands.true
    (c.all_zero-then-total_stands.ensures ∙ unused_test c.args.t.now c.requires 4146 14 (omega arith))
    ∙ sym (right_test c.args.t.now c.requires (λ i. (c.type_inv.t i).fits))

pub returns-else-total_stands : goal.returns-else-total_stands
returns-else-total_stands c =
    next_left _ (total_tested (goal.at.returns-else-total_stands c).Joined-all_zero) c.if-total_stands.false refl
    ∙ sym (right_test c.args.t.now c.requires (λ i. (c.type_inv.t i).fits))
