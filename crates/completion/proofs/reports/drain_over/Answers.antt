-- `completion::drain_over` meets its contract: by the inputs and the outputs.
use mathlib.Core.Path.{sym, ap, ◌∙◌}
use mathlib.Core.Bool.{not}
use Rattle.model.specs.Device.{output}
use Rattle.stream.proofs.Steps.{queue_words_lem}
use Rattle.completion.proofs.Ends.{input_waits, inputs_done}
use Rattle.completion.proofs.reports.drain_over.Goals as goal

pub returns-else-not-input_queued : goal.returns-else-not-input_queued
returns-else-not-input_queued c n b h =
    ap not c.if-not-input_queued.false ∙ input_waits b (sym (c.input_queued.ensures n b h) ∙ c.if-not-input_queued.false)

pub returns-then-not-input_queued : goal.returns-then-not-input_queued
returns-then-not-input_queued c n b h =
    c.no_resource.ensures b.outputs (queue_words_lem h output _ c.queue_start-at.ensures.start)
    ∙ inputs_done b (sym (c.input_queued.ensures n b h) ∙ c.if-not-input_queued.true)
