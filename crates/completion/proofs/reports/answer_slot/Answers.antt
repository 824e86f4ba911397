-- `completion::answer_slot` meets its contract: the answers first, then the words.
use mathlib.Core.Path.{refl}
use Rattle.protocol.specs.QueueTypes.{queue_type_of}
use Rattle.stream.proofs.Steps.{slots_distinct}
use Rattle.completion.proofs.Ends.{answered_done, finish_taken}
use Rattle.completion.proofs.reports.answer_slot.Goals as goal

pub returns : goal.returns
returns c b m h found waits eos early =
    let q = queue_type_of c.args.queue in
    answered_done _ _
    (finish_taken c.args.report.stream m c.args.report.flags c.args.report.timestamp b q c.args.k (slots_distinct h q) found waits eos early)
    (c.finish_words.ensures c.args.report.stream b m h found)
    (c.finish_answers-written.ensures.written c.args.report.stream b _ h refl refl)
