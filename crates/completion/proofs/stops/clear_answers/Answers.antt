-- `completion::clear_answers` meets its contract: three runs of answers, one after the other.
use mathlib.Core.Path.{refl}
use mathlib.Core.List.{[], ◌∷◌, ◌++◌}
use Rattle.model.specs.Device.{is_input, buffers}
use Rattle.model.specs.Answers.{success}
use Rattle.model.specs.Commands.{stopped_answers, drain_ended, drain_answers}
use Rattle.protocol.specs.QueueTypes.{queue_type_of}
use Rattle.answer.specs.Answer.{answer_to}
use Rattle.answer.proofs.Laws.{wrote_plain}
use Rattle.completion.proofs.Ends.{wrote_more, wrote_ended}
use Rattle.completion.proofs.stops.clear_answers.Goals as goal

pub returns : goal.returns
returns c n b h =
    let q = queue_type_of c.args.queue in
    let ended = drain_answers c.args.asked.stream (drain_ended (is_input q) b) in
    let itself = answer_to c.args.asked.ticket c.args.asked.stream success ∷ [] in
    wrote_more (stopped_answers c.args.asked.stream q (buffers q b)) (ended ++ itself) (c.stop_queue-stopped.ensures.written n b h)
    (wrote_more ended itself
    (wrote_ended c.args.asked.stream _ (is_input q) b c.is_input-ends.ensures (c.ended_answer-ended.ensures.written n b h)) (wrote_plain c.args.asked.ticket c.args.asked.stream success refl c.put_typed.ensures))
