-- `valid::places::place_stands` meets its contract: the test of a live block is that of its four parts, in order.
use mathlib.Core.Path.{◌≡◌, sym, ◌∙◌}
use mathlib.Core.Bool.{Bool, ◌&&◌, and_assoc}
use mathlib.Core.List.{List}
use Prim.Native.Nat.{ℕ}
use lib.ListN.{length, take}
use Rattle.laws.specs.Lists.{same}
use Rattle.laws.specs.Parts.{part, zeros}
use Rattle.queue.specs.Words.{queue_words, decode_queue}
use Rattle.valid.specs.Rules.{head_stands}
use Rattle.valid.proofs.Chains.{next_made, next_left}
use Rattle.valid.proofs.PlaceStands.{stands_live}
use Rattle.valid.proofs.places.place_stands.Goals as goal
use Rattle.valid.proofs.places.place_stands.Goals.{Joined-queue_stands, then-head_stands, else-head_stands, then-queue_stands, else-queue_stands}

abbrev queue_stands : ℕ → List ℕ → Bool
queue_stands a b = same (part a 84 b) (queue_words (decode_queue (part a 84 b)))

-- the head and the inputs
head_inputs : (c : Joined-queue_stands) → c.if-head_stands.value ≡ head_stands (take 8 c.args.b.now) && queue_stands 8 c.args.b.now
head_inputs c =
    elim c.if-head_stands.branch [
      | then-head_stands w ↦ next_made c.head_stands.ensures w.if-head_stands.true (w.value-is ∙ w.queue_stands.ensures)
      | else-head_stands w ↦ next_left _ c.head_stands.ensures w.if-head_stands.false w.value-is
    ]

-- and the outputs
three_parts : (c : Joined-queue_stands) → c.if-queue_stands.value ≡ (head_stands (take 8 c.args.b.now) && queue_stands 8 c.args.b.now) && queue_stands 92 c.args.b.now
three_parts c =
    elim c.if-queue_stands.branch [
      | then-queue_stands w ↦ next_made (head_inputs c) w.if-queue_stands.true (w.value-is ∙ w.queue_stands-then-queue_stands.ensures)
      | else-queue_stands w ↦ next_left _ (head_inputs c) w.if-queue_stands.false w.value-is
    ]

pub returns-then-queue_stands-2 : goal.returns-then-queue_stands-2
returns-then-queue_stands-2 c =
    let b = c.args.b.now in
    let rest = same (part 176 336 b) (zeros (length (part 176 336 b))) in
    next_made (three_parts (goal.at.returns-then-queue_stands-2 c).Joined-queue_stands) c.if-queue_stands-2.true c.all_zero-then-queue_stands-2.ensures
    ∙ and_assoc (head_stands (take 8 b) && queue_stands 8 b) (queue_stands 92 b) rest
    ∙ and_assoc (head_stands (take 8 b)) (queue_stands 8 b) (queue_stands 92 b && rest)
    ∙ sym (stands_live b c.told-b c.if-b-ne1.false)
