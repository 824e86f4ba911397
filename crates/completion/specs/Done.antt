-- What a report on a live stream's block does, and what a clear and a destroy answer and leave. A bridge between the code and the model: it
-- need not be read to believe the contracts of the exported functions.
use Rattle.std.specs.Prelude.{ℕ, ◌≡◌, List, [], ◌∷◌, ◌++◌}
use Rattle.model.specs.Device.{QueueType, input, output, is_input, Stream, queue_of, with_queue, buffers}
use Rattle.model.specs.Answers.{success, Answer}
use Rattle.model.specs.Replies.{Reply}
use Rattle.model.specs.Commands.{stopped_answers, drain_ended, without_ended, drain_answers, cleared}
use Rattle.answer.specs.Answer.{answer_to}
use Rattle.stream.specs.Replied.{Replied}

-- the report has the reply's refusal number or 0, the block its record, and the room its answers
pub record Done (n : ℕ) (v : Reply) (block room room' : List ℕ) (refusal written : ℕ) : Type 0 where
  pub refusal_is : refusal ≡ v.refusal
  pub replied : Replied n v block room room' written

-- the answers of a clear under the ticket t
abbrev pub clear_answers : ℕ → ℕ → QueueType → Stream → List Answer
clear_answers n t q b = stopped_answers n q (buffers q b) ++ (drain_answers n (drain_ended (is_input q) b) ++ answer_to t n success ∷ [])

-- the record that it leaves
abbrev pub clear_leaves : QueueType → Stream → Stream
clear_leaves q b = with_queue q (cleared (queue_of q b)) (without_ended (is_input q) b)

-- the answers of a destroy under the ticket t
abbrev pub destroy_answers : ℕ → ℕ → Stream → List Answer
destroy_answers n t b =
    stopped_answers n input (buffers input b)
    ++ (stopped_answers n output (buffers output b) ++ (drain_answers n b.draining ++ answer_to t n success ∷ []))
