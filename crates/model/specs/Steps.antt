-- Steps on a device, lists of steps, and what the host sees of them. A step, its ticket and its result are document 01's words.
use Rattle.std.specs.Prelude.{ℕ, Bool, true, false, cond, not, ◌&&◌, ◌||◌, List, [], ◌∷◌, length, eqb, ltb}
use Rattle.std.specs.Prelude.{Option, None, Some}
use Rattle.laws.specs.Tests.{within}
use Rattle.laws.specs.Lists.{any_of}
use Rattle.field.specs.Field.{field}
use Rattle.model.specs.Numbers.{table_words, answer_room, header_bytes, stream_numbers}
use Rattle.model.specs.Device.{Stream, Device, record_of, no_place, is_spent, put_back}
use Rattle.model.specs.Frames.{word, stream_id}
use Rattle.model.specs.Answers.{Answer, bytes_of, Written, answers_in}
use Rattle.model.specs.Replies.{Reply}
use Rattle.model.specs.Commands.{Surroundings, on_command}
use Rattle.model.specs.Reports.{on_finish, on_drained}

-- what a step asks, with its arguments. Finish and drained are document 01's names for the two reports of the back end.
pub data Act : Type 0 where
  command : (ticket : ℕ) (frame : List ℕ) → Act
  finish : (stream queue_type resource flags timestamp : ℕ) → Act
  drained : (stream : ℕ) → Act

-- a step of a list: what it asks, and the bytes of the answer room that it is lent
pub record Step : Type 0 where
  pub act : Act
  pub room : List ℕ

-- the stream number in a step; a command without a whole header has none
unfoldable pub stream_of : Act → Option ℕ
stream_of (command t f) = cond (ltb (length f) header_bytes) None (Some (stream_id f))
stream_of (finish n qt r flags ts) = Some n
stream_of (drained n) = Some n

-- One stream

-- a step of the stream n on its own record
unfoldable pub serve : Surroundings → ℕ → Option Stream → Act → Reply
serve around n self (command t f) = on_command around (record { stream = n; ticket = t; frame = f; self = self })
serve around n self (finish m qt r flags ts) = on_finish n qt r flags ts self
serve around n self (drained m) = on_drained n self

-- The device

-- what a step gives on a device: a refusal number or 0, the answers, and the device that is left
pub record DeviceReply : Type 0 where
  pub refusal : ℕ
  pub answers : List Answer
  pub device : Device

-- refused: nothing written, the device stays
abbrev pub refused : ℕ → Device → DeviceReply
refused k d = record { refusal = k; answers = []; device = d }

-- what a step of n sees of a device besides its own stream. A number may not be taken where it is above the last or spent.
abbrev pub around : Device → ℕ → Surroundings
around d n = record { full = no_place d.places; unusable = not (ltb n stream_numbers) || is_spent n d.spent }

-- the record of the stream n is looked up, served and put back
abbrev pub perform_of : Device → Act → Option ℕ → DeviceReply
perform_of d a None = refused 4 d
perform_of d a (Some n) =
    let v : Reply = serve (around d n) n (record_of n d.places) a in
    record { refusal = v.refusal; answers = v.answers; device = put_back n v.next d }

-- a step on a device, for the stream number in it
abbrev pub perform : Device → Act → DeviceReply
perform d a = perform_of d a (stream_of a)

-- The host's first tests: 1, 3 and 2, in this order, of the table's words, the room's bytes and the table's validity; 0 if none hits
unfoldable pub host_refusal : ℕ → ℕ → Bool → ℕ
host_refusal words room valid = cond (ltb words table_words) 1 (cond (ltb room answer_room) 3 (cond valid 0 2))

-- a step on a device whose table is there and valid
unfoldable pub step_on : Device → Step → DeviceReply
step_on d s =
    let k = host_refusal table_words (length s.room) true in
    cond (eqb k 0) (perform d s.act) (refused k d)

-- Lists

-- a step of a list with what the host gets back: its result (refusal number or 0, bytes written) and the bytes written. It is no event of the
-- draft's event queue.
pub record Event : Type 0 where
  pub step : Step
  pub refusal : ℕ
  pub written : ℕ
  pub bytes : List ℕ

-- the event of a step on a device
abbrev pub event_of : Step → DeviceReply → Event
event_of s o = record { step = s; refusal = o.refusal; written = length (bytes_of o.answers); bytes = bytes_of o.answers }

-- a list of steps, each on the device that the last one left
abbrev pub events_of : Device → List Step → List Event
events_of d [] = []
events_of d (s ∷ ss) = event_of s (step_on d s) ∷ events_of (step_on d s).device ss

-- the device at its end
abbrev pub final : Device → List Step → Device
final d [] = d
final d (s ∷ ss) = final (step_on d s).device ss

-- What an event shows. The numbers of 01 are written here again, and not taken from the device's definitions, so that a mistake there shows.

-- the answers that it wrote
abbrev pub answers_of : Event → List Written
answers_of e = answers_in e.bytes

-- an error answer: its type is one of 0x0300 to 0x0305
abbrev pub is_error : Written → Bool
is_error w = within (word w.response 0) 0x0300 0x0305

-- accepted, as document 01 has it: the result is 0 and no error answer is written
unfoldable pub accepted : Event → Bool
accepted e = eqb e.refusal 0 && not (any_of is_error (answers_of e))

-- the owner, if there is one, is n
abbrev pub is_owner : ℕ → Option ℕ → Bool
is_owner n None = false
is_owner n (Some m) = eqb m n

-- whose step it is, by the numbers of 01 and not by the device's own reading: the stream number in it, none in a command under 8 bytes
unfoldable pub owner_of : Act → Option ℕ
owner_of (command t f) = cond (ltb (length f) 8) None (Some (field 4 f 4))
owner_of (finish n qt r flags ts) = Some n
owner_of (drained n) = Some n

-- a step belongs to its owner
unfoldable pub belongs : ℕ → Event → Bool
belongs n e = is_owner n (owner_of e.step.act)

-- a command of type 0x0101
abbrev pub is_creation : Act → Bool
is_creation (command t f) = eqb (word f 0) 0x0101
is_creation (finish n qt r flags ts) = false
is_creation (drained n) = false

-- an answer of type 0x0301
abbrev pub says_full : Written → Bool
says_full w = eqb (word w.response 0) 0x0301

-- 'out of memory' in document 01's sense for condition 3: a creation answered 0x0301
unfoldable pub out_of_memory_at : Event → Bool
out_of_memory_at e = is_creation e.step.act && any_of says_full (answers_of e)
