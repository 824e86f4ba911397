-- `completion::input_queued` meets its contract: by the input queue.
use Rattle.model.specs.Device.{input}
use Rattle.stream.proofs.Steps.{queue_words_lem}
use Rattle.completion.proofs.reports.input_queued.Goals as goal

pub returns : goal.returns
returns c n b h =
    c.any_queued.ensures b.inputs (queue_words_lem h input _ c.queue_start-at.ensures.start)
