-- What the writers' arguments stand for in the model.
use Rattle.std.specs.Prelude.{◌≡◌, List, [], ◌∷◌, ℕ}
use Rattle.model.specs.Device.{QueueType, Stream, queue_of}
use Rattle.model.specs.Answers.{Response, Answer, word_bytes}
use Rattle.model.specs.Commands.{format_of}
use Rattle.answer.specs.declared.Parameters.{Parameters}

-- a response to a stream, under a ticket
abbrev pub answer_to : ℕ → ℕ → Response → Answer
answer_to ticket stream response = record { ticket = ticket; stream = stream; response = response }

-- the bytes of an answer that is a code and the stream number
unfoldable pub plain_bytes : ℕ → ℕ → ℕ → List ℕ
plain_bytes ticket code stream = word_bytes (ticket ∷ 8 ∷ code ∷ stream ∷ [])

-- what is kept of the queue of type t of the stream b
pub record NumbersOf (t : QueueType) (b : Stream) (kept : Parameters) : Type 0 where
  pub is_format : kept.format ≡ format_of t b
  pub is_width : kept.width ≡ (queue_of t b).width
  pub is_height : kept.height ≡ (queue_of t b).height
  pub is_rate : kept.rate ≡ (queue_of t b).rate
