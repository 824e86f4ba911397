-- `valid::queues::queue_well` meets its contract: its three tests, by what the words say of the queue.
use mathlib.Core.Path.{◌≡◌, refl, ap, ◌∙◌}
use mathlib.Core.Bool.{◌&&◌, and_assoc}
use Rattle.laws.specs.Lists.{distinct}
use Rattle.model.specs.Device.{Queue}
use Rattle.model.specs.Commands.{good_extent}
use Rattle.model.specs.WellFormed.{distinct_slots}
use Rattle.queue.specs.Words.{queue_words}
use Rattle.queue.proofs.Records.{width_word, height_word}
use Rattle.valid.proofs.Chains.{next_made, next_left}
use Rattle.valid.proofs.Elements.{slots_read, slots_numbers}
use Rattle.valid.proofs.queues.queue_well.Goals as goal
use Rattle.valid.proofs.queues.queue_well.Goals.{Joined-extent_good, then-extent_good, else-extent_good}

-- the width and the height
extents : (c : Joined-extent_good) (Q : Queue) → c.args.q.now ≡ queue_words Q → c.if-extent_good.value ≡ good_extent Q.width && good_extent Q.height
extents c Q e =
    let width = c.extent_good.ensures ∙ ap good_extent (width_word _ Q e) in
    elim c.if-extent_good.branch [
      | then-extent_good w ↦ next_made width w.if-extent_good.true (w.value-is ∙ w.extent_good-then-extent_good.ensures ∙ ap good_extent (height_word _ Q e))
      | else-extent_good w ↦ next_left _ width w.if-extent_good.false w.value-is
    ]

pub returns-then-extent_good-2 : goal.returns-then-extent_good-2
returns-then-extent_good-2 c Q e =
    next_made (extents (goal.at.returns-then-extent_good-2 c).Joined-extent_good Q e) c.if-extent_good-2.true
    (c.numbers_distinct.ensures ∙ ap distinct (slots_numbers _ Q c.requires e (slots_read _ c.requires c.as_chunks.ensures.front)))
    ∙ and_assoc (good_extent Q.width) (good_extent Q.height) (distinct_slots Q.slots)

pub returns-else-extent_good-2 : goal.returns-else-extent_good-2
returns-else-extent_good-2 c Q e =
    next_left (distinct_slots Q.slots) (extents (goal.at.returns-else-extent_good-2 c).Joined-extent_good Q e) c.if-extent_good-2.false refl
    ∙ and_assoc (good_extent Q.width) (good_extent Q.height) (distinct_slots Q.slots)
