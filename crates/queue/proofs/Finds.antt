-- What was found lies within its bound, and what the slots from a place on say of all.
use mathlib.Core.Path.{◌≡◌, refl, sym, ap, ◌∙◌, subst}
use mathlib.Core.Bool.{Bool, true, false, not}
use mathlib.Core.List.{List, [], ◌∷◌}
use Prim.Native.Nat.{ℕ, ◌+◌, ◌<◌}
use native.Mathlib.Numerals.{add-one}
use lib.ListN.{length, drop}
use lib.Seq.{drop-cons}
use Rattle.laws.specs.Lists.{all_of, is_empty}
use Rattle.laws.specs.Tests.{all_below}
use Rattle.laws.proofs.Tests.{never}
use Rattle.laws.proofs.Pieces.{all_places}
use Rattle.model.specs.Device.{created, queued, dequeued, Slot, free, resource, buffer, queued_in, no_resource}
use Rattle.std.specs.Prelude.{Option, Some, IfSome}
use Rattle.queue.specs.Search.{slot_at, is_free, is_queued, number_in, ticket_in, timestamp_in}

-- a place that was found
pub found_within : {r : Option ℕ} {k : ℕ} (n : ℕ) → r ≡ Some k → IfSome r (λ i. i < n) → k < n
found_within n e h = subst (λ (x : Option ℕ). IfSome x (λ i. i < n)) e h

-- no slot holds a resource where each of them is free, by their places
pub free_places : (s : List Slot) → length s ≡ 16 → no_resource s ≡ all_below 16 (λ k. is_free (slot_at k s))
free_places s h = each_free s ∙ all_places is_free free s ∙ ap (λ (n : ℕ). all_below n (λ k. is_free (slot_at k s))) h
  where
    each_free : (l : List Slot) → no_resource l ≡ all_of is_free l
    each_free [] = refl
    each_free (free ∷ l) = each_free l
    each_free (resource m p ∷ l) = refl

-- no buffer is Queued where no slot has one, by their places
pub queued_places : (s : List Slot) → length s ≡ 16 → (r : Bool) → not r ≡ all_below 16 (λ k. not (is_queued (slot_at k s))) → r ≡ not (is_empty (queued_in s))
queued_places s h r e = turned r (e ∙ ap (λ (n : ℕ). all_below n (λ k. not (is_queued (slot_at k s)))) (sym h) ∙ sym (none_queued s ∙ all_places (λ x. not (is_queued x)) free s))
  where
    turned : {a : Bool} (b : Bool) → not b ≡ a → b ≡ not a
    turned true e = ap not e
    turned false e = ap not e

    none_queued : (l : List Slot) → is_empty (queued_in l) ≡ all_of (λ x. not (is_queued x)) l
    none_queued [] = refl
    none_queued (free ∷ l) = none_queued l
    none_queued (resource m created ∷ l) = none_queued l
    none_queued (resource m (queued t ts) ∷ l) = refl
    none_queued (resource m dequeued ∷ l) = none_queued l

-- the slots from i on are the slot at i and those behind it
module _ (s : List Slot) (i : ℕ) (h : i < length s) where
  pub slots_from : drop i s ≡ slot_at i s ∷ drop (i + 1) s
  slots_from = drop-cons s i free h ∙ ap (λ (n : ℕ). slot_at i s ∷ drop n s) (sym (add-one i))

  pub queued_here : is_queued (slot_at i s) ≡ true → queued_in (drop i s) ≡ buffer (number_in (slot_at i s)) (ticket_in (slot_at i s)) (timestamp_in (slot_at i s)) ∷ queued_in (drop (i + 1) s)
  queued_here e = ap queued_in slots_from ∙ go (slot_at i s) e
    where
      go : (x : Slot) → is_queued x ≡ true → queued_in (x ∷ drop (i + 1) s) ≡ buffer (number_in x) (ticket_in x) (timestamp_in x) ∷ queued_in (drop (i + 1) s)
      go free e = never (sym e)
      go (resource m created) e = never (sym e)
      go (resource m (queued t ts)) e = refl
      go (resource m dequeued) e = never (sym e)

  pub queued_later : is_queued (slot_at i s) ≡ false → queued_in (drop i s) ≡ queued_in (drop (i + 1) s)
  queued_later e = ap queued_in slots_from ∙ go (slot_at i s) e
    where
      go : (x : Slot) → is_queued x ≡ false → queued_in (x ∷ drop (i + 1) s) ≡ queued_in (drop (i + 1) s)
      go free e = refl
      go (resource m created) e = refl
      go (resource m (queued t ts)) e = never e
      go (resource m dequeued) e = refl
