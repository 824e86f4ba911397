-- What is promised of every list of messages to a PCM stream.
use Rattle.std.specs.Prelude.{◌≡◌, true, List, [], ◌∷◌, ◌++◌, ℕ}
use Rattle.laws.specs.Tests.{within}
use Rattle.laws.specs.Lists.{keep, stands_in}
use Rattle.pcm.specs.Numbers.{set_format_code, prepare_code, pcm_fresh, pcm_running, pcm_paused, pcm_stopped}
use Rattle.pcm.specs.Control.{is_state}
use Rattle.pcm.specs.Cases.{life_codes, life}
use Rattle.pcm.specs.Lists.{PcmMessage, pcm_events, pcm_final, is_walk, taken_codes, settles_ready}

-- of the codes of set format, prepare and stop the last is a prepare, and a set format stands before it
pub record ReadyToPlay (codes : List ℕ) : Type 0 where
  pub earlier : List ℕ
  pub last_prepares : keep settles_ready codes ≡ earlier ++ prepare_code ∷ []
  pub format_before : stands_in set_format_code earlier ≡ true

pub record PcmPromises : Type 0 where
  -- From any of the six states, whatever each message, its room and its configured numbers: the states are a walk of the machine, a message takes
  -- a transition exactly where it is not refused and its status is OK, and each status is the one that the order of tests gives.
  pub walks : (s : ℕ) (ms : List PcmMessage) → is_state s ≡ true → is_walk s (pcm_events s ms) ≡ true
  -- Wherever a list from fresh leaves the stream running or paused, it was prepared since it was last stopped or set, and set before that.
  pub ready : (ms : List PcmMessage) → within (pcm_final pcm_fresh ms) pcm_running pcm_paused ≡ true → ReadyToPlay (taken_codes (pcm_events pcm_fresh ms))
  -- The lifecycle of 001, in its own order, is taken step by step, from fresh to stopped.
  pub lives : taken_codes (pcm_events pcm_fresh life) ≡ life_codes
  pub ends : pcm_final pcm_fresh life ≡ pcm_stopped
