-- What a step of one stream gives, and what a command is told.
use Rattle.std.specs.Prelude.{ℕ, List, [], ◌∷◌}
use Rattle.std.specs.Prelude.{Option}
use Rattle.model.specs.Device.{Stream}
use Rattle.model.specs.Answers.{ErrorCode, Response, failure, Answer}

-- a refusal number or 0, the answers, and the record that the stream is left with
pub record Reply : Type 0 where
  pub refusal : ℕ
  pub answers : List Answer
  pub next : Option Stream

-- a host refusal: no answer, the record stays
abbrev pub refuse : ℕ → Option Stream → Reply
refuse k self = record { refusal = k; answers = []; next = self }

-- result 0: answers, and the next record
abbrev pub reply : List Answer → Option Stream → Reply
reply l next = record { refusal = 0; answers = l; next = next }

-- what a command is told: the stream number in it, its ticket, its frame, and the stream's record
pub record Request : Type 0 where
  pub stream : ℕ
  pub ticket : ℕ
  pub frame : List ℕ
  pub self : Option Stream

-- the command's own answer
abbrev pub own : Request → Response → Answer
own c r = record { ticket = c.ticket; stream = c.stream; response = r }

-- an error answer: the record stays
abbrev pub fail : Request → ErrorCode → Reply
fail c e = reply (own c (failure e) ∷ []) c.self
