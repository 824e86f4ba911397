-- `valid::places::place_valid` meets its contract: once the words stand for a place, its rules, its mark and its figure are tested.
use mathlib.Core.Path.{◌≡◌, refl, ap, ◌∙◌}
use mathlib.Core.Bool.{◌&&◌, and_assoc}
use lib.Dec.{eqb}
use Rattle.laws.proofs.Tests.{and_left, was_true}
use Rattle.laws.proofs.Same.{same_true}
use Rattle.model.specs.Device.{pending_at}
use Rattle.model.specs.WellFormed.{good_place}
use Rattle.table.specs.Figures.{place_mark}
use Rattle.table.specs.Blocks.{decode_place}
use Rattle.valid.specs.Rules.{place_stands, place_spent, place_valid, place_right}
use Rattle.valid.proofs.Chains.{next_made, next_left}
use Rattle.valid.proofs.PlaceStands.{decoded_sized, number_spent, valid_words, mark_exact}
use Rattle.valid.proofs.places.place_valid.Goals as goal
use Rattle.valid.proofs.places.place_valid.Goals.{then-place_stands, else-place_stands, then-place_well, else-place_well, Joined-is_spent, then-is_spent, else-is_spent}

-- its words are those of a place that keeps the rules
well : (c : Joined-is_spent) → c.if-place_stands.value ≡ place_stands c.args.b.now && good_place (decode_place c.args.b.now)
well c =
    elim c.if-place_stands.branch [
      | then-place_stands w ↦
          let words = same_true _ _ (was_true c.place_stands.ensures w.if-place_stands.true) in
          next_made c.place_stands.ensures w.if-place_stands.true (w.value-is ∙ w.place_well.ensures (decode_place c.args.b.now) (decoded_sized c.args.b.now) words)
      | else-place_stands w ↦ next_left _ c.place_stands.ensures w.if-place_stands.false w.value-is
    ]

-- the number of its stream is spent
number_tested : (c : Joined-is_spent) → c.if-place_well.value ≡ place_valid c.args.spent.now c.args.b.now
unfolding place_valid
number_tested c =
    let three = and_assoc (place_stands c.args.b.now) (good_place (decode_place c.args.b.now)) (place_spent c.args.spent.now c.args.b.now) in
    elim c.if-place_well.branch [
      | then-place_well w ↦
          let stands = and_left (place_stands c.args.b.now) _ (was_true (well c) w.if-place_well.true) in
          next_made (well c) w.if-place_well.true (w.value-is ∙ number_spent c.args.spent.now c.args.b.now c.if-b-eq0.false stands w.is_spent.ensures) ∙ three
      | else-place_well w ↦ next_left _ (well c) w.if-place_well.false w.value-is ∙ three
    ]

-- and its mark is that of the place
marked : (c : Joined-is_spent) → c.if-is_spent.value ≡ place_valid c.args.spent.now c.args.b.now && eqb c.args.mark (place_mark (decode_place c.args.b.now))
marked c =
    elim c.if-is_spent.branch [
      | then-is_spent w ↦
          let valid = was_true (number_tested c) w.if-is_spent.true in
          next_made (number_tested c) w.if-is_spent.true
          (w.value-is ∙ ap (eqb c.args.mark) (mark_exact c.args.spent.now c.args.b.now c.requires valid (w.mark_of.ensures (decode_place c.args.b.now))))
      | else-is_spent w ↦ next_left _ (number_tested c) w.if-is_spent.false w.value-is
    ]

pub returns-then-mark-mark_of : goal.returns-then-mark-mark_of
unfolding place_right
returns-then-mark-mark_of c =
    let mark = marked (goal.at.returns-then-mark-mark_of c).Joined-is_spent in
    let words = valid_words c.args.spent.now c.args.b.now (and_left (place_valid c.args.spent.now c.args.b.now) _ (was_true mark c.if-mark-mark_of.true)) in
    next_made mark c.if-mark-mark_of.true (ap (eqb c.args.figure) (c.pending_in.ensures (decode_place c.args.b.now) (decoded_sized c.args.b.now) words))
    ∙ and_assoc (place_valid c.args.spent.now c.args.b.now) _ _

pub returns-else-mark-mark_of : goal.returns-else-mark-mark_of
unfolding place_right
returns-else-mark-mark_of c =
    next_left _ (marked (goal.at.returns-else-mark-mark_of c).Joined-is_spent) c.if-mark-mark_of.false refl
    ∙ and_assoc (place_valid c.args.spent.now c.args.b.now) _ (eqb c.args.figure (pending_at (decode_place c.args.b.now)))
