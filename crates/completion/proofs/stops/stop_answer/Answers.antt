-- `completion::stop_answer` meets its contract: its bytes are those of what it reads.
use mathlib.Core.Path.{sym, ◌∙◌}
use Rattle.model.specs.Device.{input}
use Rattle.completion.proofs.Ends.{buffer_next, wrote_buffer}
use Rattle.completion.proofs.stops.stop_answer.Goals as goal

pub returns : goal.returns
returns c =
    record {
      next = buffer_next _ _ _ _ input (c.put_buffer.ensures input);
      written = λ Q t i e p u. wrote_buffer _ 1 t (c.slot_ticket-ticket.ensures Q e ∙ sym p) (c.slot_timestamp-timestamp.ensures Q e ∙ sym u)
          (c.put_buffer.ensures t);
    }
