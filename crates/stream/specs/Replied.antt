-- What a function on a live stream's block and the answer room asks for and does. A bridge between the code and the model: it need not be
-- read to believe the contracts of the exported functions.
use Rattle.std.specs.Prelude.{ℕ, ◌≡◌, true, List, Some, Result, Ok, Err}
use Rattle.laws.specs.Stores.{Wrote}
use Rattle.model.specs.Device.{Stream, occupied, place}
use Rattle.model.specs.Answers.{bytes_of}
use Rattle.model.specs.Replies as model
use Rattle.model.specs.Replies.{Reply, fail}
use Rattle.model.specs.WellFormed.{good_stream}
use Rattle.protocol.specs.declared.codes.ErrorCode.{ErrorCode}
use Rattle.protocol.specs.Codes.{error_meant}
use Rattle.table.specs.Blocks.{place_words}
use Rattle.stream.specs.declared.Asked.{Asked}

-- the words are those of the live stream n with the record b
pub record BlockOf (n : ℕ) (words : List ℕ) (b : Stream) : Type 0 where
  pub good : good_stream b ≡ true
  pub held : words ≡ place_words (occupied n b)

-- the words are those of a live stream n
pub record LiveBlock (n : ℕ) (words : List ℕ) : Type 0 where
  pub stream : Stream
  pub holds : BlockOf n words stream

-- what a command to it is told
abbrev pub request_to : ℕ → ℕ → List ℕ → Stream → model.Request
request_to n t f b = record { stream = n; ticket = t; frame = f; self = Some b }

-- the same as the code has it
abbrev pub told : Asked → List ℕ → Stream → model.Request
told a f b = request_to a.stream a.ticket f b

-- the block holds the reply's record, and its answers were written from the start of the room
pub record Replied (n : ℕ) (v : Reply) (block room room' : List ℕ) (written : ℕ) : Type 0 where
  pub words : block ≡ place_words (place n v.next)
  pub bytes : Wrote room room' 0 written (bytes_of v.answers)

-- the reply is an error, which is not written yet, and block and room are as they were
pub record Failed (c : model.Request) (v : Reply) (block block' room room' : List ℕ) (e : ErrorCode) : Type 0 where
  pub error : v ≡ fail c (error_meant e)
  pub block_stays : block' ≡ block
  pub room_stays : room' ≡ room

-- the command's reply, which may be an error, was written, or the command failed
abbrev pub Tried : model.Request → Reply → List ℕ → List ℕ → List ℕ → List ℕ → Result ℕ ErrorCode → Type 0
Tried c v block block' room room' (Ok written) = Replied c.stream v block' room room' written
Tried c v block block' room room' (Err e) = Failed c v block block' room room' e
