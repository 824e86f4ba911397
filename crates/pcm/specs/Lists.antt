-- Lists of messages to a PCM stream, and what the host sees of them.
use Rattle.std.specs.Prelude.{Bool, true, cond, ◌&&◌, ◌||◌, List, [], ◌∷◌, ℕ, length, take, eqb, ltb}
use Rattle.field.specs.Field.{field}
use Rattle.pcm.specs.Numbers.{set_format_code, prepare_code, stop_code}
use Rattle.pcm.specs.Lifecycle.{is_transition}
use Rattle.pcm.specs.Control.{PcmConfig, code_in, status_of, on_control, pcm_control}

-- a message of a list: the configured numbers, its bytes, and the answer room that it is lent
pub record PcmMessage : Type 0 where
  pub config : PcmConfig
  pub bytes : List ℕ
  pub room : List ℕ

-- a message with what the host gets back: refusal number or 0, the state, and the bytes written
pub record PcmEvent : Type 0 where
  pub message : PcmMessage
  pub refusal : ℕ
  pub state : ℕ
  pub answer : List ℕ

-- the event of a message in state s
abbrev pub pcm_event : ℕ → PcmMessage → PcmEvent
pcm_event s m =
    let e = pcm_control m.config s m.bytes m.room in
    record { message = m; refusal = e.refusal; state = e.state; answer = take e.written e.room }

-- a list of messages, each in the state that the one before left
abbrev pub pcm_events : ℕ → List PcmMessage → List PcmEvent
pcm_events s [] = []
pcm_events s (m ∷ ms) = pcm_event s m ∷ pcm_events (pcm_event s m).state ms

-- the state at its end
abbrev pub pcm_final : ℕ → List PcmMessage → ℕ
pcm_final s [] = s
pcm_final s (m ∷ ms) = pcm_final (pcm_event s m).state ms

-- What an event shows. The refusals, the room and the good status are written here again, and not taken from the definitions of the device, so that
-- a mistake there shows.

-- the status at the start of the answer
abbrev pub status_in : PcmEvent → ℕ
status_in e = field 4 e.answer 0

-- not refused, and the status is OK
unfoldable pub succeeds : PcmEvent → Bool
succeeds e = eqb e.refusal 0 && eqb (status_in e) 0x8000

-- it is refused exactly where the room is short; else its status is the one that the tests in their order give
unfoldable pub right_status : ℕ → PcmEvent → Bool
right_status s e =
    let m = e.message in
    cond (ltb (length m.room) 264)
    (eqb e.refusal 3)
    (eqb e.refusal 0 && eqb (status_in e) (status_of (on_control m.config s m.bytes)))

-- it takes a transition of the machine where it succeeds, and else the state stays
unfoldable pub right_state : ℕ → PcmEvent → Bool
right_state s e = cond (succeeds e) (is_transition s (code_in e.message.bytes) e.state) (eqb e.state s)

-- the states from s on are a walk of the machine, with the statuses that belong to it
abbrev pub is_walk : ℕ → List PcmEvent → Bool
is_walk s [] = true
is_walk s (e ∷ es) = (right_status s e && right_state s e) && is_walk e.state es

-- the codes of the messages that succeeded, in their order
abbrev pub taken_codes : List PcmEvent → List ℕ
taken_codes [] = []
taken_codes (e ∷ es) = cond (succeeds e) (code_in e.message.bytes ∷ taken_codes es) (taken_codes es)

-- the codes after which it is settled whether the stream is ready to play: set format, prepare, stop
abbrev pub settles_ready : ℕ → Bool
settles_ready k = eqb k set_format_code || (eqb k prepare_code || eqb k stop_code)
