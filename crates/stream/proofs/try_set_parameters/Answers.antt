-- `stream::try_set_parameters` meets its contract: a bad frame or a Queued buffer refuses, and otherwise the queue comes back with the parameters of the frame.
use mathlib.Core.Path.{sym, ap, ◌∙◌}
use Rattle.std.specs.Prelude.{Some}
use Prim.Native.Nat.{ℕ}
use Rattle.model.specs.Device.{queue_of, with_queue}
use Rattle.model.specs.Frames.{frame_width, frame_height, frame_rate}
use Rattle.model.specs.Commands.{with_parameters}
use Rattle.protocol.specs.QueueTypes.{queue_type_of}
use Rattle.frame.specs.Frame.{good_set}
use Rattle.laws.proofs.Tests.{was_true, was_false}
use Rattle.frame.proofs.Checks.{set_bad}
use Rattle.stream.specs.Replied.{told}
use Rattle.stream.proofs.Steps.{queue_words_lem, queue_back, succeeded, failed}
use Rattle.stream.proofs.Tested.{setting_busy, setting_idle}
use Rattle.stream.proofs.try_set_parameters.Goals as goal

pub returns-then-not-set_good : goal.returns-then-not-set_good
returns-then-not-set_good c b h =
    let t = queue_type_of c.args.q in
    failed _
    (set_bad (told c.args.asked c.args.frame.now b) b t
    (was_false (c.set_good.ensures ∙ ap (λ (k : ℕ). good_set k c.args.frame.now) (c.queue_format.ensures c.args.asked.stream b h.held)) c.if-not-set_good.true))

pub returns-then-any_queued : goal.returns-then-any_queued
returns-then-any_queued c b h =
    let t = queue_type_of c.args.q in
    failed _
    (setting_busy (told c.args.asked c.args.frame.now b) b t
    (was_true (c.set_good.ensures ∙ ap (λ (k : ℕ). good_set k c.args.frame.now) (c.queue_format.ensures c.args.asked.stream b h.held)) c.if-not-set_good.false)
    (sym c.if-any_queued.true ∙ c.any_queued.ensures (queue_of t b) (queue_words_lem h t _ c.queue_start-at.ensures.start)))

pub returns : goal.returns
returns c b h =
    let t = queue_type_of c.args.q in
    let y = with_parameters (frame_width c.args.frame.now) (frame_height c.args.frame.now) (frame_rate c.args.frame.now) (queue_of t b) in
    succeeded c.args.asked.ticket (Some (with_queue t y b))
    (setting_idle (told c.args.asked c.args.frame.now b) b t
    (was_true (c.set_good.ensures ∙ ap (λ (k : ℕ). good_set k c.args.frame.now) (c.queue_format.ensures c.args.asked.stream b h.held)) c.if-not-set_good.false)
    (sym c.if-any_queued.false ∙ c.any_queued.ensures (queue_of t b) (queue_words_lem h t _ c.queue_start-at.ensures.start)))
    (queue_back h t _ c.queue_start-at.ensures.start _ y (c.keep_parameters.ensures (queue_of t b)))
    c.succeed.ensures
