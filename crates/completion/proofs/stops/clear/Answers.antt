-- `completion::clear` meets its contract: answers first, then changes.
use Rattle.std.specs.Prelude.{Some}
use Rattle.protocol.specs.QueueTypes.{queue_type_of}
use Rattle.stream.proofs.Steps.{replied_by}
use Rattle.completion.specs.Done.{clear_answers, clear_leaves}
use Rattle.completion.proofs.Ends.{clear_is}
use Rattle.completion.proofs.stops.clear.Goals as goal

pub returns : goal.returns
returns c f b h =
    let q = queue_type_of c.args.q in
    replied_by (clear_answers c.args.asked.stream c.args.asked.ticket q b) (Some (clear_leaves q b)) (clear_is c.args.asked.stream c.args.asked.ticket f b q)
    (c.clear_words.ensures _ b h) (c.clear_answers-written.ensures _ b h)
