-- Answers: what they say, their bytes, and the answers read out of bytes.
use Rattle.std.specs.Prelude.{ℕ, zero, suc, ◌+◌, List, [], ◌∷◌, ◌++◌, length, take, drop}
use Rattle.field.specs.Field.{little_endian}
use Rattle.model.specs.Device.{QueueType}
use Rattle.model.specs.Frames.{word}

-- the guest's errors
pub data ErrorCode : Type 0 where
  invalid_operation out_of_memory invalid_stream invalid_resource invalid_parameter unsupported_control : ErrorCode

-- their numbers
abbrev pub code : ErrorCode → ℕ
code invalid_operation = 0x0300
code out_of_memory = 0x0301
code invalid_stream = 0x0302
code invalid_resource = 0x0303
code invalid_parameter = 0x0304
code unsupported_control = 0x0305

-- plain success; a buffer of a queue with its timestamp and flags; a drain that ended; parameters in words; an error. A buffer's queue is
-- not written, and a drain's bytes are those of plain success: the constructors keep apart what the bytes do not.
pub data Response : Type 0 where
  success : Response
  buffer_done : QueueType → (timestamp flags : ℕ) → Response
  drain_done : Response
  parameters : List ℕ → Response
  failure : ErrorCode → Response

-- an answer: the ticket that it goes to, the stream, and what it says
pub record Answer : Type 0 where
  pub ticket : ℕ
  pub stream : ℕ
  pub response : Response

-- 32-bit words, one after the other
abbrev pub word_bytes : List ℕ → List ℕ
word_bytes [] = []
word_bytes (v ∷ vs) = little_endian 4 v ++ word_bytes vs

-- the type of a response, the first word of its header
abbrev pub response_type : Response → ℕ
response_type success = 0x0200
response_type (buffer_done q ts flags) = 0x0202
response_type drain_done = 0x0200
response_type (parameters ws) = 0x0203
response_type (failure e) = code e

-- what stands behind its header: of a buffer the timestamp, the flags and size 0
abbrev pub payload : Response → List ℕ
payload success = []
payload (buffer_done q ts flags) = little_endian 8 ts ++ word_bytes (flags ∷ 0 ∷ [])
payload drain_done = []
payload (parameters ws) = word_bytes ws
payload (failure e) = []

-- the bytes of a response to a stream: the header, which is the type and the stream number, and the payload
unfoldable pub response_bytes : ℕ → Response → List ℕ
response_bytes n r = word_bytes (response_type r ∷ n ∷ []) ++ payload r

-- the bytes of an answer's response
abbrev pub response_of : Answer → List ℕ
response_of a = response_bytes a.stream a.response

-- answers as they are written: ticket, byte count, response
abbrev pub bytes_of : List Answer → List ℕ
bytes_of [] = []
bytes_of (a ∷ l) = little_endian 4 a.ticket ++ (little_endian 4 (length (response_of a)) ++ (response_of a ++ bytes_of l))

-- an answer as it stands in the room
pub record Written : Type 0 where
  pub ticket : ℕ
  pub response : List ℕ

-- at most k answers out of bytes
unfoldable pub read_from : ℕ → List ℕ → List Written
read_from zero s = []
read_from (suc k) [] = []
read_from (suc k) (b ∷ s) =
    record { ticket = word (b ∷ s) 0; response = take (word (b ∷ s) 4) (drop 8 (b ∷ s)) } ∷ read_from k (drop (8 + word (b ∷ s) 4) (b ∷ s))

-- answers as they stand in the room, written again
abbrev pub rewritten : List Written → List ℕ
rewritten [] = []
rewritten (w ∷ l) = little_endian 4 w.ticket ++ (little_endian 4 (length w.response) ++ (w.response ++ rewritten l))

-- the answers in bytes: no more than there are bytes
abbrev pub answers_in : List ℕ → List Written
answers_in s = read_from (length s) s
