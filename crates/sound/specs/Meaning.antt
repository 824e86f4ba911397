-- What the numbers and types of the code stand for in the model.
use Rattle.std.specs.Prelude.{◌≡◌, ◌<◌, ◌≤◌, List, ℕ, Result, Ok, Err, MatchResult}
use Rattle.std.specs.Prelude.{Option, None, Some}
use Rattle.pcm.specs.Numbers.{PcmError, bad_msg, not_supp, chmap_info_code, set_format_code, prepare_code, start_code, stop_code, pause_code, unpause_code, pcm_fresh, pcm_set, pcm_prepared, pcm_running, pcm_paused, pcm_stopped}
use Rattle.pcm.specs.Control.{PcmConfig, PcmReply, goes_to, rejects, PcmEffect}
use Rattle.sound.specs.declared.ControlOutcome.{ControlOutcome}
use Rattle.sound.specs.declared.ControlRefusal.{ControlRefusal}
use Rattle.sound.specs.declared.ControlRefusal.TheVariants.{InvalidState, ShortRoom}
use Rattle.sound.specs.declared.lifecycle.PcmState.{PcmState}
use Rattle.sound.specs.declared.lifecycle.PcmState.TheVariants.{Fresh, Set, Prepared, Running, Paused, Stopped}
use Rattle.sound.specs.declared.lifecycle.PcmRequest.{PcmRequest}
use Rattle.sound.specs.declared.lifecycle.PcmRequest.TheVariants.{ChannelMap, SetFormat, Prepare, Start, Stop, Pause, Unpause}
use Rattle.sound.specs.declared.message.StreamConfig.{StreamConfig}
use Rattle.sound.specs.declared.message.StatusError.{StatusError}
use Rattle.sound.specs.declared.message.StatusError.TheVariants.{BadMessage, NotSupported}

-- the configured numbers, in the order of the draft's struct
abbrev pub config_of : ℕ → ℕ → ℕ → ℕ → PcmConfig
config_of channels_min channels_max formats rates = record { channels_min = channels_min; channels_max = channels_max; formats = formats; rates = rates }

-- the same of the code's struct
abbrev pub pcm_config_of : StreamConfig → PcmConfig
pcm_config_of c = config_of c.channels_min c.channels_max c.formats c.rates

-- what a call gives back, and the room at its exit
abbrev pub as_pcm_effect : ControlOutcome → List ℕ → PcmEffect
as_pcm_effect r room = record { refusal = r.refusal; state = r.state; written = r.written; room = room }

-- a state's number
abbrev pub state_number : PcmState → ℕ
state_number Fresh = pcm_fresh
state_number Set = pcm_set
state_number Prepared = pcm_prepared
state_number Running = pcm_running
state_number Paused = pcm_paused
state_number Stopped = pcm_stopped

-- a request's code
abbrev pub request_code : PcmRequest → ℕ
request_code ChannelMap = chmap_info_code
request_code SetFormat = set_format_code
request_code Prepare = prepare_code
request_code Start = start_code
request_code Stop = stop_code
request_code Pause = pause_code
request_code Unpause = unpause_code

-- the state of a number, or that there is none
abbrev pub IsStateOf : ℕ → Result PcmState ControlRefusal → Type 0
IsStateOf n r = MatchResult r (λ s. (state_number s ≡ n) × (n ≤ pcm_stopped)) (λ e. (pcm_stopped < n) × (e ≡ InvalidState))

-- the request of a code, or that there is none
abbrev pub IsRequestOf : ℕ → Result PcmRequest StatusError → Type 0
IsRequestOf n r = MatchResult r (λ q. request_code q ≡ n) (λ e. (unpause_code < n) × (e ≡ BadMessage))

-- the model's error
abbrev pub pcm_error_of : StatusError → PcmError
pcm_error_of BadMessage = bad_msg
pcm_error_of NotSupported = not_supp

-- the error of a check that failed
abbrev pub error_in : {A : Type 0} → Result A StatusError → Option PcmError
error_in (Ok x) = None
error_in (Err e) = Some (pcm_error_of e)

-- what a message comes to
abbrev pub pcm_reply_of : Result PcmState StatusError → PcmReply
pcm_reply_of (Ok s) = goes_to (state_number s)
pcm_reply_of (Err e) = rejects (pcm_error_of e)

-- a refusal's number
abbrev pub refusal_number : ControlRefusal → ℕ
refusal_number InvalidState = 2
refusal_number ShortRoom = 3

-- what is given back in state s: a refusal writes nothing and gives the state back
abbrev pub outcome_of : ℕ → Result ControlOutcome ControlRefusal → ControlOutcome
outcome_of s (Ok r) = r
outcome_of s (Err e) = record { refusal = refusal_number e; state = s; written = 0 }
