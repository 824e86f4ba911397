-- What std's calls over the numbers below a bound answer, said of the tests of those numbers.
use mathlib.Core.Path.{◌≡◌, sym, ap, ◌∙◌, subst}
use mathlib.Core.Bool.{Bool, true, false, not}
use Prim.Native.Nat.{ℕ, zero, suc, ◌<◌}
use native.Mathlib.Numerals.{add-one}
use native.Mathlib.Nat.{zero-add}
use native.Mathlib.Omega.{arith}
use lib.ListN.{length, get_or}
use Rattle.std.specs.Bool.{MatchBool}
use Rattle.std.specs.List.{range_with_len, AllWithin, HoldsAt}
use Rattle.std.proofs.lemmas.List.FromFn.{length-range_with_len, get_or-range_with_len}
use Rattle.laws.specs.Tests.{all_below}
use Rattle.laws.proofs.Tests.{all_none, all_more, all_fails}

all_to : (p : ℕ → Bool) (n : ℕ) → ((k : ℕ) → k < n → p k ≡ true) → all_below n p ≡ true
all_to p zero h = all_none p
all_to p (suc n) h = rw (← add-one n) (all_more p n (all_to p n (λ k l. h k (omega arith))) (h n (omega arith)))

module _ (p : ℕ → Bool) (n : ℕ) where
  -- what holds at the place k of the numbers below n holds of k
  at_place : (P : ℕ → Type 0) (k : ℕ) → k < n → ((d : ℕ) → P (get_or (range_with_len 0 n) k d)) → P k
  at_place P k l h = subst P (get_or-range_with_len 0 n k 0 l ∙ zero-add k) (h 0)

  -- what `all` answers
  pub all_from : (r : Bool) → MatchBool r (AllWithin (λ k. p k ≡ true) (range_with_len 0 n) 0 (length (range_with_len 0 n))) ((k : ℕ) × (k < length (range_with_len 0 n)) × HoldsAt (λ k. p k ≡ false) (range_with_len 0 n) k) → r ≡ all_below n p
  all_from true h = sym (all_to p n (λ k l. at_place (λ i. p i ≡ true) k l (λ d. h k d (omega arith) (rw (length-range_with_len 0 n) l))))
  all_from false h =
      let l : h.0 < n = rw (length-range_with_len 0 n) at h.1 in
      sym (all_fails p n h.0 l (at_place (λ i. p i ≡ false) h.0 l h.2))

  -- what `any` answers
  pub any_from : (r : Bool) → MatchBool r ((k : ℕ) × (k < length (range_with_len 0 n)) × HoldsAt (λ k. p k ≡ true) (range_with_len 0 n) k) (AllWithin (λ k. p k ≡ false) (range_with_len 0 n) 0 (length (range_with_len 0 n))) → not r ≡ all_below n (λ k. not (p k))
  any_from true h =
      let l : h.0 < n = rw (length-range_with_len 0 n) at h.1 in
      sym (all_fails (λ k. not (p k)) n h.0 l (ap not (at_place (λ i. p i ≡ true) h.0 l h.2)))
  any_from false h = sym (all_to (λ k. not (p k)) n (λ k l. ap not (at_place (λ i. p i ≡ false) k l (λ d. h k d (omega arith) (rw (length-range_with_len 0 n) l)))))
