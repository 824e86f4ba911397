-- `completion::destroy_answers` meets its contract: four runs of answers, one after the other.
use mathlib.Core.Path.{refl}
use mathlib.Core.List.{[], ◌∷◌, ◌++◌}
use Rattle.model.specs.Device.{input, output, buffers}
use Rattle.model.specs.Answers.{success}
use Rattle.model.specs.Commands.{stopped_answers, drain_answers}
use Rattle.answer.specs.Answer.{answer_to}
use Rattle.answer.proofs.Laws.{wrote_plain}
use Rattle.completion.proofs.Ends.{wrote_more}
use Rattle.completion.proofs.stops.destroy_answers.Goals as goal

pub returns : goal.returns
returns c n b h =
    let outputs = stopped_answers c.args.asked.stream output (buffers output b) in
    let drain = drain_answers c.args.asked.stream b.draining in
    let itself = answer_to c.args.asked.ticket c.args.asked.stream success ∷ [] in
    wrote_more (stopped_answers c.args.asked.stream input (buffers input b)) (outputs ++ (drain ++ itself)) (c.stop_queue-inputs.ensures.written n b h)
    (wrote_more outputs (drain ++ itself) (c.stop_queue-outputs.ensures.written n b h)
    (wrote_more drain itself (c.ended_answer-drain.ensures.written n b h) (wrote_plain c.args.asked.ticket c.args.asked.stream success refl c.put_typed.ensures)))
