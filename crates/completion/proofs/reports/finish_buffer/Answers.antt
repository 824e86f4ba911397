-- `completion::finish_buffer` meets its contract: by what the search finds.
use mathlib.Core.Path.{refl, sym, ◌∙◌}
use borrow.Author.Rules.{rules}
use Rattle.model.specs.Device.{queue_of}
use Rattle.protocol.specs.QueueTypes.{queue_type_of}
use Rattle.stream.proofs.Steps.{queue_words_lem}
use Rattle.queue.proofs.Finds.{found_within}
use Rattle.completion.proofs.Ends.{refused_done, finish_absent}
use Rattle.completion.proofs.reports.finish_buffer.Goals as goal

pub returns-in_default : goal.returns-in_default
returns-in_default c b h =
    let q = queue_type_of c.args.queue in
    refused_done (refl, refl) h
    (finish_absent c.args.report.stream c.args.report.resource c.args.report.flags c.args.report.timestamp b q
    (sym (c.find_resource.ensures.found (queue_of q b) (queue_words_lem h q _ c.queue_start-at.ensures.start)) ∙ c.in_default.is))

pub finish_slot-requires : goal.finish_slot-requires
finish_slot-requires c = (search rules, found_within 16 c.in-Some.is c.find_resource.ensures.within, search rules)

pub returns : goal.returns
returns c b h =
    let q = queue_type_of c.args.queue in
    c.finish_slot.ensures b c.args.report.resource h
    (sym (c.find_resource.ensures.found (queue_of q b) (queue_words_lem h q _ c.queue_start-at.ensures.start)) ∙ c.in-Some.is)
