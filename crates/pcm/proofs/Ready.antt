-- What runs or pauses was given a format and prepared.
use mathlib.Core.Path.{◌≡◌, refl, sym, ◌∙◌}
use mathlib.Core.Bool.{Bool, true, false, cond, not, ◌&&◌, or-true}
use Rattle.std.specs.Prelude.{Some}
use mathlib.Core.List.{List, [], ◌∷◌, ◌++◌, append_assoc, append-nil}
use Prim.Native.Nat.{ℕ}
use native.Mathlib.Omega.{arith}
use lib.Dec.{eqb}
use borrow.Author.Tests.{eqb-true, not-true}
use Rattle.laws.specs.Tests.{within}
use Rattle.laws.specs.Lists.{keep, stands_in}
use Rattle.laws.proofs.Tests.{never, and_left, and_right, within_true, within_bounds}
use Rattle.laws.proofs.Lists.{decide, each_map, each_all, keep_append, any_append}
use Rattle.pcm.specs.Numbers.{set_format_code, prepare_code, stop_code, pcm_fresh, pcm_set, pcm_prepared, pcm_running, pcm_paused, pcm_stopped}
use Rattle.pcm.specs.Lifecycle.{Transition, lifecycle, next_state}
use Rattle.pcm.specs.Control.{code_in, is_state}
use Rattle.pcm.specs.Lists.{PcmMessage, pcm_event, pcm_events, pcm_final, taken_codes, settles_ready}
use Rattle.pcm.specs.Promises.{ReadyToPlay}
use Rattle.pcm.proofs.Machine.{OfTransition, by_transition, next_is_state}
use Rattle.pcm.proofs.Walks.{Moved, moves, remains, moved}

-- what a state says of the codes that were taken on the way to it
record Came (s : ℕ) (codes : List ℕ) : Type 0 where
  -- not fresh: a set format was taken
  formatted : eqb s pcm_fresh ≡ false → stands_in set_format_code (keep settles_ready codes) ≡ true
  -- prepared, running or paused
  readied : within s pcm_prepared pcm_paused ≡ true → ReadyToPlay codes

-- of a fresh stream nothing is said
came_fresh : Came pcm_fresh []
unfolding within
came_fresh = record { formatted = λ e. never e; readied = λ e. never (sym e) }

-- One more code

-- it is kept where it settles, and a set format stays
keep_more : (k : ℕ) (codes : List ℕ) → keep settles_ready (codes ++ k ∷ []) ≡ keep settles_ready codes ++ keep settles_ready (k ∷ [])
keep_more k codes = keep_append settles_ready codes (k ∷ [])

format_stays : (k : ℕ) (codes : List ℕ) → stands_in set_format_code (keep settles_ready codes) ≡ true → stands_in set_format_code (keep settles_ready (codes ++ k ∷ [])) ≡ true
format_stays k codes h = rw (keep_more k codes, any_append (λ x. eqb x set_format_code) (keep settles_ready codes) (keep settles_ready (k ∷ [])), h)

module _ (s : ℕ) (codes : List ℕ) (c : Came s codes) where
  -- a set format
  by_format : Came pcm_set (codes ++ set_format_code ∷ [])
  unfolding within
  by_format = record {
    formatted = λ _. rw (keep_more set_format_code codes, any_append (λ x. eqb x set_format_code) (keep settles_ready codes) (set_format_code ∷ [])) (or-true (stands_in set_format_code (keep settles_ready codes)));
    readied = λ e. never (sym e);
  }

  module _ (format : eqb s pcm_fresh ≡ false) where
    -- a prepare, and a stop
    by_prepare : Came pcm_prepared (codes ++ prepare_code ∷ [])
    by_prepare = record {
      formatted = λ _. format_stays prepare_code codes (c.formatted format);
      readied = λ _. record { earlier = keep settles_ready codes; last_prepares = keep_more prepare_code codes; format_before = c.formatted format };
    }

    by_stop : Came pcm_stopped (codes ++ stop_code ∷ [])
    unfolding within
    by_stop = record { formatted = λ _. format_stays stop_code codes (c.formatted format); readied = λ e. never (sym e) }

    -- another code, in a state that has been prepared
    by_other : (k n : ℕ) → settles_ready k ≡ false → within s pcm_prepared pcm_paused ≡ true → Came n (codes ++ k ∷ [])
    by_other k n other playing =
        let ready = c.readied playing in record {
          formatted = λ _. format_stays k codes (c.formatted format);
          readied = λ _. record {
            earlier = ready.earlier;
            last_prepares = keep_more k codes ∙ rw other (append-nil (keep settles_ready codes)) ∙ ready.last_prepares;
            format_before = ready.format_before;
          };
        }

-- One transition of the machine

-- a set format leads to set; all others start from a state that is not fresh, and those that neither prepare nor stop from one that has been prepared
abbrev keeps_to : Transition → Bool
keeps_to t =
    cond (eqb t.request set_format_code)
    (eqb t.into pcm_set)
    (not (eqb t.out pcm_fresh)
    && cond (eqb t.request prepare_code)
    (eqb t.into pcm_prepared)
    (cond (eqb t.request stop_code) (eqb t.into pcm_stopped) (within t.out pcm_prepared pcm_paused)))

module _ (t : Transition) (codes : List ℕ) (c : Came t.out codes) where
  step_kept : keeps_to t ≡ true → Came t.into (codes ++ t.request ∷ [])
  step_kept h =
      decide (eqb t.request set_format_code)
      (λ f. rw (eqb-true t.request set_format_code f, eqb-true t.into pcm_set (simp f at h)) (by_format t.out codes c))
      (λ f. let g : not (eqb t.out pcm_fresh) && _ ≡ true = simp f at h in
      let format = not-true _ (and_left _ _ g) in
      let rest = and_right (not (eqb t.out pcm_fresh)) _ g in
      decide (eqb t.request prepare_code)
      (λ p. rw (eqb-true t.request prepare_code p, eqb-true t.into pcm_prepared (simp p at rest)) (by_prepare t.out codes c format))
      (λ p. decide (eqb t.request stop_code)
      (λ d. rw (eqb-true t.request stop_code d, eqb-true t.into pcm_stopped (simp (p, d) at rest)) (by_stop t.out codes c format))
      (λ d. by_other t.out codes c format t.request t.into (rw (f, p, d)) (simp (p, d) at rest))))

-- what a transition has to keep to, as a property of its three numbers
abbrev Kept : ℕ → ℕ → ℕ → Type 0
Kept s k n = (codes : List ℕ) → Came s codes → Came n (codes ++ k ∷ [])

came_next : (s k n : ℕ) → next_state s k ≡ Some n → Kept s k n
unfolding within
came_next =
    by_transition Kept
    (each_map (λ t. keeps_to t ≡ true) (OfTransition Kept) (λ t h codes c. step_kept t codes c h) lifecycle (each_all keeps_to lifecycle refl))

-- Lists

came : (s : ℕ) (codes : List ℕ) (ms : List PcmMessage) → is_state s ≡ true → Came s codes → Came (pcm_final s ms) (codes ++ taken_codes (pcm_events s ms))
came s codes [] known c = rw (append-nil codes) c
came s codes (m ∷ ms) known c = go (moved s m known) (λ t before. came t before ms)
  where
    go : Moved s (pcm_event s m)
        → ((t : ℕ) (before : List ℕ) → is_state t ≡ true → Came t before → Came (pcm_final t ms) (before ++ taken_codes (pcm_events t ms)))
        → Came (pcm_final (pcm_event s m).state ms) (codes ++ taken_codes (pcm_event s m ∷ pcm_events (pcm_event s m).state ms))
    go (moves h is) rest =
        let k = code_in m.bytes in
        let t = (pcm_event s m).state in
        rw (h, ← (append_assoc codes (k ∷ []) (taken_codes (pcm_events t ms)))) (rest t (codes ++ k ∷ []) (next_is_state s k t is) (came_next s k t is codes c))
    go (remains h is) rest = rw (h, is) (rest s codes known c)

pub ready : (ms : List PcmMessage) → within (pcm_final pcm_fresh ms) pcm_running pcm_paused ≡ true → ReadyToPlay (taken_codes (pcm_events pcm_fresh ms))
ready ms h =
    let b = within_bounds (pcm_final pcm_fresh ms) pcm_running pcm_paused h in
    (came pcm_fresh [] ms refl came_fresh).readied (within_true (pcm_final pcm_fresh ms) pcm_prepared pcm_paused (omega (arith, b.0)) b.1)
