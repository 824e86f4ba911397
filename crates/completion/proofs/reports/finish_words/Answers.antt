-- `completion::finish_words` meets its contract: the drain first, then the buffer.
use mathlib.Core.Path.{ap, ◌∙◌}
use mathlib.Core.Bool.{Bool}
use lib.ListN.{set}
use Rattle.model.specs.Device.{dequeued, resource, Stream, occupied, with_slots}
use Rattle.model.specs.Commands.{without_ended}
use Rattle.model.specs.Reports.{has_eos}
use Rattle.queue.specs.Search.{slot_at, number_in}
use Rattle.table.specs.Blocks.{place_words}
use Rattle.protocol.specs.QueueTypes.{queue_type_of}
use Rattle.stream.proofs.Steps.{slots_distinct}
use Rattle.completion.proofs.Ends.{queue_ended, finish_leaves_lem}
use Rattle.completion.proofs.reports.finish_words.Goals as goal

pub returns : goal.returns
returns c n b m h found =
    let q = queue_type_of c.args.queue in
    queue_ended h (has_eos c.args.flags) q _ c.queue_start-at.ensures.start _ _
    (λ x. with_slots (set x.slots c.args.k (resource (number_in (slot_at c.args.k x.slots)) dequeued)) x)
    (c.end_drain.ensures n b h.held ∙ ap (λ (e : Bool). place_words (occupied n (without_ended e b))) c.has_eos-ends.ensures)
    c.set_dequeued.ensures
    ∙ ap (λ (x : Stream). place_words (occupied n x)) (finish_leaves_lem m c.args.flags c.args.k b q (slots_distinct h q) found)
