-- `stream::try_queue_resource` meets its contract: a bad frame, an input while draining and an absent number refuse, and otherwise the slot is found.
use mathlib.Core.Path.{sym, ap, ◌∙◌}
use Prim.Native.Nat.{ℕ}
use borrow.Author.Rules.{rules}
use Rattle.model.specs.Device.{queue_of}
use Rattle.queue.proofs.Finds.{found_within}
use Rattle.queue.specs.Search.{find_resource}
use Rattle.protocol.specs.QueueTypes.{queue_type_of}
use Rattle.laws.proofs.Tests.{was_true, was_false}
use Rattle.frame.proofs.Checks.{queue_bad}
use Rattle.stream.specs.Replied.{told}
use Rattle.stream.proofs.Steps.{queue_words_lem, failed}
use Rattle.stream.proofs.Tested.{queueing_draining, queueing_absent}
use Rattle.stream.proofs.try_queue_resource.Goals as goal

pub returns-then-not-sizes_good : goal.returns-then-not-sizes_good
returns-then-not-sizes_good c room b h =
    failed _
    (queue_bad (told c.args.asked c.args.frame.now b) b (queue_type_of c.args.q) (was_false c.sizes_good.ensures c.if-not-sizes_good.true))

pub returns-then-input_draining : goal.returns-then-input_draining
returns-then-input_draining c room b h =
    failed _
    (queueing_draining (told c.args.asked c.args.frame.now b) b (queue_type_of c.args.q) (was_true c.sizes_good.ensures c.if-not-sizes_good.false)
    (sym c.if-input_draining.true ∙ c.input_draining.ensures c.args.asked.stream b h))

pub returns-in_default : goal.returns-in_default
returns-in_default c room b h =
    let t = queue_type_of c.args.q in
    failed _
    (queueing_absent (told c.args.asked c.args.frame.now b) b t (was_true c.sizes_good.ensures c.if-not-sizes_good.false)
    (sym c.if-input_draining.false ∙ c.input_draining.ensures c.args.asked.stream b h)
    (sym (c.in_default.is) ∙ c.find_resource.ensures.found (queue_of t b) (queue_words_lem h t _ c.queue_start-at.ensures.start)
    ∙ ap (λ (n : ℕ). find_resource n (queue_of t b).slots) c.resource-number.ensures))

pub queue_slot-requires : goal.queue_slot-requires
queue_slot-requires c = (search rules, search rules, found_within 16 c.in-Some.is c.find_resource.ensures.within)

pub returns : goal.returns
returns c room b h =
    let t = queue_type_of c.args.q in
    let s = (queue_of t b).slots in
    c.queue_slot.ensures room b h (record {
      sizes = was_true c.sizes_good.ensures c.if-not-sizes_good.false;
      takes = sym (c.input_draining.ensures c.args.asked.stream b h) ∙ c.if-input_draining.false;
      found =
          sym (ap (λ (n : ℕ). find_resource n s) c.resource-number.ensures)
          ∙ sym (c.find_resource.ensures.found (queue_of t b) (queue_words_lem h t _ c.queue_start-at.ensures.start))
          ∙ c.in-Some.is;
    })
