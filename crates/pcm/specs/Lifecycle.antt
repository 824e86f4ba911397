-- The life of a PCM stream as a small machine: document 001, "PCM control requests", with what document 02, request 10, lets each state take.
-- Transferring data, which the lifecycle of 001 names too, is no control request and leaves the state.
use Rattle.std.specs.Prelude.{Bool, cond, ◌&&◌, List, [], ◌∷◌, ℕ, eqb}
use Rattle.std.specs.Prelude.{Option, None, Some}
use Rattle.laws.specs.Lists.{any_of}
use Rattle.pcm.specs.Numbers.{set_format_code, prepare_code, start_code, stop_code, pause_code, unpause_code, pcm_fresh, pcm_set, pcm_prepared, pcm_running, pcm_paused, pcm_stopped}

infix 80 ◌by◌to◌
-- a transition: out of a state, by a request, to a state
pub record Transition : Type 0 where
  pub out : ℕ
  pub request : ℕ
  pub into : ℕ

-- a transition as it is written below
abbrev pub ◌by◌to◌ : ℕ → ℕ → ℕ → Transition
s by k to n = record { out = s; request = k; into = n }

-- the machine
abbrev pub lifecycle : List Transition
lifecycle =
    pcm_fresh by set_format_code to pcm_set
    ∷ pcm_set by set_format_code to pcm_set
    ∷ pcm_set by prepare_code to pcm_prepared
    ∷ pcm_prepared by set_format_code to pcm_set
    ∷ pcm_prepared by start_code to pcm_running
    ∷ pcm_running by stop_code to pcm_stopped
    ∷ pcm_running by pause_code to pcm_paused
    ∷ pcm_paused by stop_code to pcm_stopped
    ∷ pcm_paused by unpause_code to pcm_running
    ∷ pcm_stopped by set_format_code to pcm_set
    ∷ pcm_stopped by prepare_code to pcm_prepared
    ∷ []

-- the state that a request leads to by some transitions; none where it is out of order
abbrev pub next_in : ℕ → ℕ → List Transition → Option ℕ
next_in s k [] = None
next_in s k (t ∷ ts) = cond (eqb t.out s && eqb t.request k) (Some t.into) (next_in s k ts)

-- the same in the machine
unfoldable pub next_state : ℕ → ℕ → Option ℕ
next_state s k = next_in s k lifecycle

-- the machine goes from s by k to n
unfoldable pub is_transition : ℕ → ℕ → ℕ → Bool
is_transition s k n = any_of (λ (t : Transition). eqb t.out s && (eqb t.request k && eqb t.into n)) lifecycle
