-- `stream::try_create_resource` meets its contract: a bad frame, a number that is there and a full queue refuse, and otherwise the queue comes back with the new resource.
use mathlib.Core.Path.{sym, ◌∙◌}
use borrow.Author.Rules.{rules}
use Rattle.model.specs.Device.{queue_of}
use Rattle.queue.proofs.Finds.{found_within}
use Rattle.protocol.specs.QueueTypes.{queue_type_of}
use Rattle.laws.proofs.Tests.{was_true, was_false}
use Rattle.frame.proofs.Checks.{resource_bad}
use Rattle.stream.specs.Replied.{told}
use Rattle.stream.proofs.Steps.{queue_words_lem, queue_back, succeeded, failed}
use Rattle.stream.proofs.Tested.{creating_again, creating_full, creating_new}
use Rattle.stream.proofs.try_create_resource.Goals as goal

pub returns-then-not-resource_good : goal.returns-then-not-resource_good
returns-then-not-resource_good c b h =
    failed _
    (resource_bad (told c.args.asked c.args.frame.now b) b (queue_type_of c.args.q) (was_false c.resource_good.ensures c.if-not-resource_good.true))

pub returns-then-number_present : goal.returns-then-number_present
returns-then-number_present c b h =
    let t = queue_type_of c.args.q in
    failed _
    (creating_again (told c.args.asked c.args.frame.now b) b t (was_true c.resource_good.ensures c.if-not-resource_good.false) _ c.resource-number.ensures
    (sym c.if-number_present.true ∙ c.number_present.ensures (queue_of t b) (queue_words_lem h t _ c.queue_start-at.ensures.start)))

pub returns-in_default : goal.returns-in_default
returns-in_default c b h =
    let t = queue_type_of c.args.q in
    let here = queue_words_lem h t _ c.queue_start-at.ensures.start in
    failed _
    (creating_full (told c.args.asked c.args.frame.now b) b t (was_true c.resource_good.ensures c.if-not-resource_good.false) _ c.resource-number.ensures
    (sym c.if-number_present.false ∙ c.number_present.ensures (queue_of t b) here)
    (sym (c.in_default.is) ∙ c.find_free.ensures.found (queue_of t b) here))

pub set_created-requires : goal.set_created-requires
set_created-requires c = (search rules, found_within 16 c.in-Some.is c.find_free.ensures.within)

pub returns : goal.returns
returns c b h =
    let t = queue_type_of c.args.q in
    let here = queue_words_lem h t _ c.queue_start-at.ensures.start in
    succeeded c.args.asked.ticket _
    (creating_new (told c.args.asked c.args.frame.now b) b t (was_true c.resource_good.ensures c.if-not-resource_good.false) _ c.resource-number.ensures
    (sym c.if-number_present.false ∙ c.number_present.ensures (queue_of t b) here)
    _ (sym (c.in-Some.is) ∙ c.find_free.ensures.found (queue_of t b) here))
    (queue_back h t _ c.queue_start-at.ensures.start _ _ (c.set_created.ensures (queue_of t b)))
    c.succeed.ensures
