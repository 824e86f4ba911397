-- `completion::clear_words` meets its contract: the drain first, then the queue.
use mathlib.Core.Path.{ap, ◌∙◌}
use mathlib.Core.Bool.{Bool}
use Rattle.model.specs.Device.{is_input, occupied}
use Rattle.model.specs.Commands.{without_ended, cleared}
use Rattle.table.specs.Blocks.{place_words}
use Rattle.protocol.specs.QueueTypes.{queue_type_of}
use Rattle.completion.proofs.Ends.{queue_ended}
use Rattle.completion.proofs.stops.clear_words.Goals as goal

pub returns : goal.returns
returns c n b h =
    let q = queue_type_of c.args.queue in
    queue_ended h (is_input q) q _ c.queue_start-at.ensures.start _ _ cleared
    (c.end_drain.ensures n b h.held ∙ ap (λ (e : Bool). place_words (occupied n (without_ended e b))) c.is_input-ends.ensures)
    c.stop_all.ensures
