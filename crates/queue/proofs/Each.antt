-- A loop that changes each slot by f, from the first on: what the slots are when i of them are changed.
use mathlib.Core.Path.{◌≡◌, refl, sym, ap, ◌∙◌}
use mathlib.Core.Bool.{true, false}
use mathlib.Core.List.{List, [], ◌∷◌, map}
use Prim.Native.Nat.{ℕ, zero, suc, ◌+◌, ◌<◌}
use native.Mathlib.Nat.{le_of_suc-le-suc, not-suc-le-zero}
use native.Mathlib.Numerals.{add-one}
use lib.ListN.{length, set}
use lib.Seq.{set-get_or}
use Rattle.laws.proofs.Tests.{never}
use Rattle.model.specs.Device.{created, queued, dequeued, Slot, free, resource, stop_all, free_all}
use Rattle.queue.specs.Search.{slot_at, is_queued, number_in}
use Rattle.queue.specs.Changes.{stopped_slot}

module _ (f : Slot → Slot) where
  -- f at the first i places
  unfoldable pub up_to : ℕ → List Slot → List Slot
  up_to zero s = s
  up_to (suc i) [] = []
  up_to (suc i) (x ∷ s) = f x ∷ up_to i s

  pub up_none : (s : List Slot) → up_to 0 s ≡ s
  unfolding up_to
  up_none s = refl

  -- the slot at i is not changed yet
  pub up_at : (i : ℕ) (s : List Slot) → slot_at i (up_to i s) ≡ slot_at i s
  unfolding up_to
  up_at zero s = refl
  up_at (suc i) [] = refl
  up_at (suc i) (x ∷ s) = up_at i s

  up_next : (i : ℕ) (s : List Slot) → i < length s → set (up_to i s) i (f (slot_at i s)) ≡ up_to (suc i) s
  unfolding up_to
  up_next i [] h = absurd (not-suc-le-zero h)
  up_next zero (x ∷ s) h = refl
  up_next (suc i) (x ∷ s) h = ap (λ (l : List Slot). f x ∷ l) (up_next i s (le_of_suc-le-suc h))

  pub up_more : (i : ℕ) (s : List Slot) → i < length s → set (up_to i s) i (f (slot_at i (up_to i s))) ≡ up_to (i + 1) s
  up_more i s h = ap (λ (x : Slot). set (up_to i s) i (f x)) (up_at i s) ∙ up_next i s h ∙ ap (λ (n : ℕ). up_to n s) (sym (add-one i))

  pub up_all : (s : List Slot) → up_to (length s) s ≡ map f s
  unfolding up_to
  up_all [] = refl
  up_all (x ∷ s) = ap (λ (l : List Slot). f x ∷ l) (up_all s)

pub stop_each : (s : List Slot) → map stopped_slot s ≡ stop_all s
stop_each [] = refl
stop_each (free ∷ s) = ap (λ (l : List Slot). free ∷ l) (stop_each s)
stop_each (resource r p ∷ s) = ap (λ (l : List Slot). stopped_slot (resource r p) ∷ l) (stop_each s)

pub free_each : (s : List Slot) → map (λ x. free) s ≡ free_all s
free_each [] = refl
free_each (x ∷ s) = ap (λ (l : List Slot). free ∷ l) (free_each s)

-- a slot that is stopped: a Queued one is Dequeued, and any other stays
pub stop_queued : (x : Slot) → is_queued x ≡ true → resource (number_in x) dequeued ≡ stopped_slot x
stop_queued free e = never (sym e)
stop_queued (resource r created) e = never (sym e)
stop_queued (resource r (queued t ts)) e = refl
stop_queued (resource r dequeued) e = never (sym e)

stop_other : (x : Slot) → is_queued x ≡ false → stopped_slot x ≡ x
stop_other free e = refl
stop_other (resource r created) e = refl
stop_other (resource r (queued t ts)) e = never e
stop_other (resource r dequeued) e = refl

pub stop_none : (k : ℕ) (s : List Slot) → is_queued (slot_at k s) ≡ false → set s k (stopped_slot (slot_at k s)) ≡ s
stop_none k s e = ap (set s k) (stop_other (slot_at k s) e) ∙ set-get_or s k free
