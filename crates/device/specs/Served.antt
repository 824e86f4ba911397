-- What a step does to the words of a device and to the answer room, behind the host's first tests.
use Rattle.std.specs.Prelude.{ℕ, ◌^◌, ◌<◌, ◌≡◌, true, List, length, set, Result, Ok, Err}
use Rattle.laws.specs.Lists.{all_of}
use Rattle.laws.specs.Stores.{Wrote}
use Rattle.model.specs.Numbers.{stream_places}
use Rattle.model.specs.Device.{Place, Device, record_of, put_back}
use Rattle.model.specs.Answers.{bytes_of}
use Rattle.model.specs.Replies.{Reply, fail}
use Rattle.model.specs.Steps.{Act, command, around, serve}
use Rattle.model.specs.WellFormed.{well_formed}
use Rattle.protocol.specs.declared.codes.ErrorCode.{ErrorCode}
use Rattle.protocol.specs.Codes.{error_meant}
use Rattle.stream.specs.declared.Asked.{Asked}
use Rattle.table.specs.Figures.{place_mark}
use Rattle.table.specs.Blocks.{encode, unsettled}
use Rattle.table.specs.Search.{has_all_slots}

-- the words are those of the well-formed device d
pub record Encodes (words : List ℕ) (d : Device) : Type 0 where
  pub good : well_formed d ≡ true
  pub held : words ≡ encode d

-- one block of d is now that of the place p, and the figures are not yet settled
pub record Unsettled (words : List ℕ) (d : Device) (k : ℕ) (p : Place) : Type 0 where
  pub eight : length d.places ≡ stream_places
  pub sizes : all_of has_all_slots d.places ≡ true
  pub sized : has_all_slots p ≡ true
  pub mark_fits : place_mark p < 2 ^ 32
  pub held : words ≡ unsettled (set d.places k p) d

-- the words are those of some well-formed device
pub record DeviceWords (words : List ℕ) : Type 0 where
  pub device : Device
  pub encodes : Encodes words device

-- what the stream n of d replies to a step
abbrev pub reply_of : Device → ℕ → Act → Reply
reply_of d n a = serve (around d n) n (record_of n d.places) a

-- the step has its refusal number or 0, the reply's record is put back into the device, and its answers stand from the start of the room
pub record Served (d : Device) (n : ℕ) (a : Act) (left room room' : List ℕ) (refusal written : ℕ) : Type 0 where
  pub refusal_is : refusal ≡ (reply_of d n a).refusal
  pub words : left ≡ encode (put_back n (reply_of d n a).next d)
  pub bytes : Wrote room room' 0 written (bytes_of (reply_of d n a).answers)

-- the command's reply is an error, which is not written yet, and words and room are as they were
pub record Erred (d : Device) (a : Asked) (f words words' room room' : List ℕ) (e : ErrorCode) : Type 0 where
  pub error : reply_of d a.stream (command a.ticket f) ≡ fail (record { stream = a.stream; ticket = a.ticket; frame = f; self = record_of a.stream d.places }) (error_meant e)
  pub words_stay : words' ≡ words
  pub room_stays : room' ≡ room

-- a command was served, an error written too, or is such an error
abbrev pub Attempted : Device → Asked → (frame words words' room room' : List ℕ) → Result ℕ ErrorCode → Type 0
Attempted d a f words words' room room' (Ok written) = Served d a.stream (command a.ticket f) words' room room' 0 written
Attempted d a f words words' room room' (Err e) = Erred d a f words words' room room' e
