-- `stream::try_destroy_all` meets its contract: a Queued buffer refuses, and otherwise the queue comes back with its slots free.
use mathlib.Core.Path.{sym, ◌∙◌}
use Rattle.std.specs.Prelude.{Some}
use Rattle.model.specs.Device.{queue_of, with_queue, with_slots, free_all}
use Rattle.protocol.specs.QueueTypes.{queue_type_of}
use Rattle.stream.specs.Replied.{told}
use Rattle.stream.proofs.Steps.{queue_words_lem, queue_back, succeeded, failed}
use Rattle.stream.proofs.Tested.{freeing_busy, freeing_idle}
use Rattle.stream.proofs.try_destroy_all.Goals as goal

pub returns-then-any_queued : goal.returns-then-any_queued
returns-then-any_queued c f b h =
    let t = queue_type_of c.args.q in
    failed _
    (freeing_busy (told c.args.asked f b) b t
    (sym c.if-any_queued.true ∙ c.any_queued.ensures (queue_of t b) (queue_words_lem h t _ c.queue_start-from.ensures.start)))

pub returns : goal.returns
returns c f b h =
    let t = queue_type_of c.args.q in
    let y = with_slots (free_all (queue_of t b).slots) (queue_of t b) in
    succeeded c.args.asked.ticket (Some (with_queue t y b))
    (freeing_idle (told c.args.asked f b) b t
    (sym c.if-any_queued.false ∙ c.any_queued.ensures (queue_of t b) (queue_words_lem h t _ c.queue_start-from.ensures.start)))
    (queue_back h t _ c.queue_start-from.ensures.start _ y (c.free_all.ensures (queue_of t b)))
    c.succeed.ensures
