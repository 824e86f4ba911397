-- Each message takes a step of the machine, with the status that belongs to it; so every list is a walk.
use mathlib.Core.Path.{◌≡◌, refl, sym, ap, ◌∙◌, subst}
use mathlib.Core.Bool.{true, false}
use Rattle.std.specs.Prelude.{Option, None, Some, unwrap_or}
use mathlib.Core.List.{List, [], ◌∷◌}
use Prim.Native.Nat.{ℕ, ◌<◌, ◌^◌}
use lib.Dec.{ltb, lit<}
use lib.ListN.{length, drop}
use lib.Seq.{take-append_seam}
use Rattle.laws.specs.Lists.{is_none}
use Rattle.laws.proofs.Tests.{both, never}
use Rattle.laws.proofs.InOrder.{tests_cases}
use Rattle.laws.proofs.Lists.{decide, eqb_same}
use Rattle.field.specs.Field.{field}
use Rattle.field.proofs.Laws.{field_back}
use Rattle.pcm.specs.Numbers.{bad_msg, not_supp, control_room}
use Rattle.pcm.specs.Lifecycle.{next_state}
use Rattle.pcm.specs.Control.{code_in, PcmConfig, PcmReply, goes_to, rejects, status_of, state_after, on_control, control_answer, is_state, control_refusal, pcm_control}
use Rattle.pcm.specs.Lists.{PcmMessage, PcmEvent, pcm_event, pcm_events, succeeds, right_status, right_state, is_walk}
use Rattle.pcm.proofs.Machine.{next_is_state, next_is_transition}

-- What a message comes to

-- where it is taken, the machine leads there
abbrev Leads : ℕ → ℕ → PcmReply → Type 0
Leads s k (goes_to n) = next_state s k ≡ Some n
Leads s k (rejects e) = Unit {0}

leads : (config : PcmConfig) (s : ℕ) (m : List ℕ) → Leads s (code_in m) (on_control config s m)
unfolding on_control
leads config s m =
    tests_cases (Leads s (code_in m)) rejects _ (λ e. tt)
    (λ h₁ h₂ h₃ h₄ h₅ h₆ h₇ h₈ h₉ h₁₀. led (next_state s (code_in m)) refl h₇)
  where
    led : (o : Option ℕ) → next_state s (code_in m) ≡ o → is_none (next_state s (code_in m)) ≡ false → Leads s (code_in m) (goes_to (unwrap_or (next_state s (code_in m)) s))
    led None is h = never (sym (ap is_none is) ∙ h)
    led (Some n) is h = subst (λ (o : Option ℕ). Leads s (code_in m) (goes_to (unwrap_or o s))) (sym is) is

-- The status of an answer is read back from its bytes
status_below : (v : PcmReply) → status_of v < 256 ^ 4
status_below (goes_to n) = lit< tt
status_below (rejects bad_msg) = lit< tt
status_below (rejects not_supp) = lit< tt

status_back : (m : List ℕ) (v : PcmReply) → field 4 (control_answer m (status_of v)) 0 ≡ status_of v
unfolding control_answer
status_back m v = field_back 4 (status_of v) _ (status_below v)

-- Events

-- by a transition where it succeeds, and else nowhere
pub data Moved (s : ℕ) (e : PcmEvent) : Type 0 where
  moves : succeeds e ≡ true → next_state s (code_in e.message.bytes) ≡ Some e.state → Moved s e
  remains : succeeds e ≡ false → e.state ≡ s → Moved s e

module _ (s : ℕ) (m : PcmMessage) where
  -- of a message that is lent too short a room
  abbrev short_event : PcmEvent
  short_event = record { message = m; refusal = 3; state = s; answer = [] }

  event_short : ltb (length m.room) 264 ≡ true → pcm_event s m ≡ short_event
  unfolding pcm_control control_refusal
  event_short h =
      let short : ltb (length m.room) control_room ≡ true = h in rw short

  short_moved : Moved s short_event
  unfolding succeeds
  short_moved = remains refl refl

  short_status : ltb (length m.room) 264 ≡ true → right_status s short_event ≡ true
  unfolding right_status
  short_status h = rw h

  -- of another
  abbrev served_event : PcmReply → PcmEvent
  served_event v = record { message = m; refusal = 0; state = state_after s v; answer = control_answer m.bytes (status_of v) }

  event_served : is_state s ≡ true → ltb (length m.room) 264 ≡ false → pcm_event s m ≡ served_event (on_control m.config s m.bytes)
  unfolding pcm_control control_refusal
  event_served known h =
      let v = on_control m.config s m.bytes in
      let bytes = control_answer m.bytes (status_of v) in
      let long : ltb (length m.room) control_room ≡ false = h in
      rw (long, known) (λ i. record { message = m; refusal = 0; state = state_after s v; answer = take-append_seam bytes (drop (length bytes) m.room) i })

  served_moved : (v : PcmReply) → Leads s (code_in m.bytes) v → Moved s (served_event v)
  unfolding succeeds
  served_moved (goes_to n) is = moves (rw (status_back m.bytes (goes_to n))) is
  served_moved (rejects bad_msg) is = remains (rw (status_back m.bytes (rejects bad_msg))) refl
  served_moved (rejects not_supp) is = remains (rw (status_back m.bytes (rejects not_supp))) refl

  served_status : ltb (length m.room) 264 ≡ false → right_status s (served_event (on_control m.config s m.bytes)) ≡ true
  unfolding right_status
  served_status h = rw (h, status_back m.bytes (on_control m.config s m.bytes)) (eqb_same (status_of (on_control m.config s m.bytes)))

  -- of any
  pub moved : is_state s ≡ true → Moved s (pcm_event s m)
  moved known =
      decide (ltb (length m.room) 264)
      (λ h. subst (Moved s) (sym (event_short h)) short_moved)
      (λ h. subst (Moved s) (sym (event_served known h)) (served_moved (on_control m.config s m.bytes) (leads m.config s m.bytes)))

  right_status_lem : is_state s ≡ true → right_status s (pcm_event s m) ≡ true
  right_status_lem known =
      decide (ltb (length m.room) 264)
      (λ h. subst (λ (e : PcmEvent). right_status s e ≡ true) (sym (event_short h)) (short_status h))
      (λ h. subst (λ (e : PcmEvent). right_status s e ≡ true) (sym (event_served known h)) (served_status h))

-- what moved is in its right state, which is one of the six
right_state_lem : (s : ℕ) (e : PcmEvent) → Moved s e → right_state s e ≡ true
unfolding right_state
right_state_lem s e (moves h is) = rw h (next_is_transition s (code_in e.message.bytes) e.state is)
right_state_lem s e (remains h is) = rw (h, is) (eqb_same s)

still_state : (s : ℕ) (e : PcmEvent) → is_state s ≡ true → Moved s e → is_state e.state ≡ true
still_state s e known (moves h is) = next_is_state s (code_in e.message.bytes) e.state is
still_state s e known (remains h is) = rw is known

-- Lists

pub walks : (s : ℕ) (ms : List PcmMessage) → is_state s ≡ true → is_walk s (pcm_events s ms) ≡ true
walks s [] known = refl
walks s (m ∷ ms) known =
    let step = moved s m known in
    both (both (right_status_lem s m known) (right_state_lem s (pcm_event s m) step)) (walks (pcm_event s m).state ms (still_state s (pcm_event s m) known step))
