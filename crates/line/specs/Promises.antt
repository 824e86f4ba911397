-- What holds of lines and of logs. Each statement is proved in proofs/, `ShowsEvents` and the example over every layout that meets the laws;
-- crates/replay closes them over this device's.
use Rattle.std.specs.Prelude.{ℕ, ◌≤◌, ◌<◌, ◌≡◌, Bool, true, List, [], ◌∷◌, ◌++◌, map, length, take}
use Rattle.laws.specs.Parts.{pieces, zeros}
use Rattle.field.specs.Field.{little_endian}
use Rattle.model.specs.Numbers.{answer_room}
use Rattle.model.specs.Device.{fresh}
use Rattle.model.specs.Steps.{Act, command, finish, drained, Step, Event, events_of}
use Rattle.model.specs.WellFormed.{good_act}
use Rattle.model.specs.Tables.{Layout, effect}
use Rattle.line.specs.Hex.{hex_text}
use Rattle.line.specs.Line.{Line, step_line, refused_line, no_frame, line_of}
use Rattle.line.specs.Split.{longest_line, kept, lines_in, split}
use Rattle.line.specs.Log.{refusal_line, Whole, shown, stepped, log_output}
use Rattle.line.specs.Reading.{start, calls_output, all_used, all_offers, lines_read}

-- Lines

-- an over-long line is no frame
abbrev pub OverLong : Type 0
OverLong = (line : List ℕ) → longest_line < length line → line_of line ≡ no_frame

-- what is kept of a line decides what it stands for
abbrev pub KeptDecides : Type 0
KeptDecides = (line : List ℕ) → line_of (kept line) ≡ line_of line

-- a step's numbers and bytes are in the host's types
abbrev pub good_line : Line → Bool
good_line (step_line a) = good_act a
good_line (refused_line k) = true

abbrev pub StepsAreGood : Type 0
StepsAreGood = (line : List ℕ) → good_line (line_of line) ≡ true

-- the bytes of a step's frame
abbrev pub frame_bytes : Act → List ℕ
frame_bytes (command ticket frame) = 0x00 ∷ (little_endian 4 ticket ++ frame)
frame_bytes (finish stream queue_type resource flags timestamp) =
    0x01 ∷ (little_endian 4 stream ++ (little_endian 4 queue_type ++ (little_endian 4 resource ++ (little_endian 4 flags ++ little_endian 8 timestamp))))
frame_bytes (drained stream) = 0x02 ∷ little_endian 4 stream

-- every step that fits has a line, in lower case, that stands for it
abbrev pub EveryStep : Type 0
EveryStep = (a : Act) → good_act a ≡ true → length (frame_bytes a) ≤ 4189 → line_of (hex_text (frame_bytes a)) ≡ step_line a

-- A step of the log

-- what is shown does not depend on what stood in the answer room
abbrev pub RoomFree : Layout → Type 0
RoomFree L = (t : List ℕ) (a : Act) (room room' : List ℕ) → answer_room ≤ length room → answer_room ≤ length room' → stepped (effect L t a room) ≡ stepped (effect L t a room')

-- what a step writes to the room is whole answers
abbrev pub WritesAnswers : Layout → Type 0
WritesAnswers L = (t : List ℕ) (a : Act) (room : List ℕ) → good_act a ≡ true → Whole (take (effect L t a room).written (effect L t a room).room)

-- A whole log

-- a call uses no more than its piece has, and a byte or more where it has any
abbrev pub UsesSome : Type 0
UsesSome = (line piece : List ℕ) → ((split line piece).used ≤ length piece) × (0 < length piece → 0 < (split line piece).used)

-- the lines that calls on any pieces read are those of the bytes that they use, each as far as it is kept
abbrev pub AnyLines : Type 0
AnyLines = (ps : List (List ℕ)) → lines_read [] ps ≡ map kept (lines_in (all_used ps))

-- calls on any pieces write what the log of the bytes that they use writes
abbrev pub AnyCalls : Layout → Type 0
AnyCalls L = (ps : List (List ℕ)) → calls_output L (start L) ps ≡ log_output L (all_used ps)

-- however a log is cut into pieces, the calls on them write what the whole log writes
abbrev pub AnyCutting : Layout → Type 0
AnyCutting L = (ps : List (List ℕ)) → calls_output L (start L) (all_offers ps) ≡ log_output L (pieces (λ (p : List ℕ). p) ps)

-- the steps of lines, as a list of condition 3
abbrev pub steps_in : List Line → List Step
steps_in [] = []
steps_in (step_line a ∷ lines) = record { act = a; room = zeros answer_room } ∷ steps_in lines
steps_in (refused_line k ∷ lines) = steps_in lines

-- what lines write, where these are the events of their steps
abbrev pub lines_shown : List Line → List Event → List ℕ
lines_shown [] es = []
lines_shown (step_line a ∷ lines) [] = []
lines_shown (step_line a ∷ lines) (e ∷ es) = shown e.refusal e.bytes ++ lines_shown lines es
lines_shown (refused_line k ∷ lines) es = refusal_line k ++ lines_shown lines es

-- what a log writes by the events of its steps from a fresh device
abbrev pub events_output : List ℕ → List ℕ
events_output log =
    let lines = map line_of (lines_in log) in
    lines_shown lines (events_of fresh (steps_in lines))

-- a log writes what the events of its steps show, the same over every layout that meets the laws
abbrev pub ShowsEvents : Layout → Type 0
ShowsEvents L = (log : List ℕ) → log_output L log ≡ events_output log
