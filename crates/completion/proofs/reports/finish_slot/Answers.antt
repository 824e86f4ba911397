-- `completion::finish_slot` meets its contract: by whether the buffer is Queued, the flags are good and an input is Queued.
use mathlib.Core.Path.{refl, sym, ◌∙◌}
use Rattle.model.specs.Device.{queue_of}
use Rattle.protocol.specs.QueueTypes.{queue_type_of}
use Rattle.stream.proofs.Steps.{queue_words_lem, slots_distinct}
use Rattle.completion.proofs.Ends.{refused_done, finish_idle, finish_eos, finish_early}
use Rattle.completion.proofs.reports.finish_slot.Goals as goal

pub returns-then-not-slot_queued : goal.returns-then-not-slot_queued
returns-then-not-slot_queued c b m h found =
    let q = queue_type_of c.args.queue in
    refused_done (refl, refl) h
    (finish_idle c.args.report.stream m c.args.report.flags c.args.report.timestamp b q c.args.k (slots_distinct h q) found
    (sym (c.slot_queued.ensures (queue_of q b) (queue_words_lem h q _ c.queue_start-at.ensures.start)) ∙ c.if-not-slot_queued.true))

pub returns-then-bad_eos : goal.returns-then-bad_eos
returns-then-bad_eos c b m h found =
    let q = queue_type_of c.args.queue in
    refused_done (refl, refl) h
    (finish_eos c.args.report.stream m c.args.report.flags c.args.report.timestamp b q c.args.k (slots_distinct h q) found
    (sym (c.slot_queued.ensures (queue_of q b) (queue_words_lem h q _ c.queue_start-at.ensures.start)) ∙ c.if-not-slot_queued.false)
    (sym (c.bad_eos.ensures c.args.report.stream b h) ∙ c.if-bad_eos.true))

pub returns-then-early_eos : goal.returns-then-early_eos
returns-then-early_eos c b m h found =
    let q = queue_type_of c.args.queue in
    refused_done (refl, refl) h
    (finish_early c.args.report.stream m c.args.report.flags c.args.report.timestamp b q c.args.k (slots_distinct h q) found
    (sym (c.slot_queued.ensures (queue_of q b) (queue_words_lem h q _ c.queue_start-at.ensures.start)) ∙ c.if-not-slot_queued.false)
    (sym (c.bad_eos.ensures c.args.report.stream b h) ∙ c.if-bad_eos.false)
    (sym (c.early_eos.ensures c.args.report.stream b h) ∙ c.if-early_eos.true))

pub returns : goal.returns
returns c b m h found =
    let q = queue_type_of c.args.queue in
    c.answer_slot.ensures b m h found
    (sym (c.slot_queued.ensures (queue_of q b) (queue_words_lem h q _ c.queue_start-at.ensures.start)) ∙ c.if-not-slot_queued.false)
    (sym (c.bad_eos.ensures c.args.report.stream b h) ∙ c.if-bad_eos.false)
    (sym (c.early_eos.ensures c.args.report.stream b h) ∙ c.if-early_eos.false)
