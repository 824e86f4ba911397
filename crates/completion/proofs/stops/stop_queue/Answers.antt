-- `completion::stop_queue` meets its contract: a good stream's numbers are distinct.
use Rattle.model.specs.Device.{queue_of}
use Rattle.model.proofs.WellFormed.{of_distinct}
use Rattle.protocol.specs.QueueTypes.{queue_type_of}
use Rattle.stream.proofs.Steps.{queue_words_lem, slots_distinct}
use Rattle.completion.proofs.stops.stop_queue.Goals as goal

pub returns : goal.returns
returns c =
    record {
      bound = c.stop_answers.ensures.bound;
      written = λ n b h.
          let q = queue_type_of c.args.queue in
          c.stop_answers.ensures.written (queue_of q b) q (of_distinct (queue_of q b).slots (slots_distinct h q)) (queue_words_lem h q _ c.queue_start-start.ensures.start);
    }
