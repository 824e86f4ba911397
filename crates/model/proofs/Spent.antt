-- Laws of the spent numbers.
use Prim.Native.Nat.{ℕ, ◌<◌, ◌≤◌}
use native.Mathlib.Omega.{arith}
use mathlib.Core.Path.{◌≡◌, refl, sym, ap, ◌∙◌, subst}
use mathlib.Core.Bool.{Bool, true, false}
use Rattle.std.specs.Prelude.{Option, None, Some}
use mathlib.Core.List.{List}
use lib.ListN.{length, length-set, length-replicate, replicate, set, get_or-replicate, get_or-eq_default}
use lib.Seq.{get_or-set_same, get_or-set_other, set_out, set-get_or, set-set}
use lib.Dec.{eqb, ltb}
use borrow.Author.Tests.{eqb-true, ltb-true, ltb-false}
use Rattle.laws.proofs.Tests.{never}
use Rattle.laws.proofs.Lists.{decide, eqb_same}
use Rattle.model.specs.Numbers.{stream_numbers}
use Rattle.model.specs.Device.{Stream, is_spent, spend, is_new, spent_after}

-- a number that is not kept is not spent, and so a number that is spent is one of those kept
pub none_beyond : (n : ℕ) (s : List Bool) → length s ≤ n → is_spent n s ≡ false
unfolding is_spent
none_beyond n s h = get_or-eq_default s false h

pub spent_below : (n : ℕ) (s : List Bool) → is_spent n s ≡ true → n < length s
spent_below n s e = decide (ltb n (length s)) (λ h. ltb-true n (length s) h) (λ h. never (sym e ∙ none_beyond n s (ltb-false n (length s) h)))

module _ (n : ℕ) (s : List Bool) where
  pub spend_length : length (spend n s) ≡ length s
  unfolding spend
  spend_length = length-set s n true

  -- it is spent, and of any other number nothing changes
  pub spend_same : n < length s → is_spent n (spend n s) ≡ true
  unfolding is_spent spend
  spend_same h = get_or-set_same s n true false h

  pub spend_other : (m : ℕ) → eqb n m ≡ false → is_spent m (spend n s) ≡ is_spent m s
  unfolding is_spent spend
  spend_other m h = get_or-set_other s n m true false (λ e. never (sym (eqb_same n) ∙ ap (eqb n) (sym e) ∙ h))

  -- what is spent stays spent
  pub spend_keeps : (m : ℕ) → is_spent m s ≡ true → is_spent m (spend n s) ≡ true
  spend_keeps m e =
      decide (eqb n m)
      (λ h. subst (λ (x : ℕ). is_spent x (spend n s) ≡ true) (eqb-true n m h) (spend_same (subst (λ (x : ℕ). x < length s) (sym (eqb-true n m h)) (spent_below m s e))))
      (λ h. spend_other m h ∙ e)

  -- spent twice is spent once; a number that is not kept cannot be
  pub spend_again : spend n (spend n s) ≡ spend n s
  unfolding spend
  spend_again = set-set s n true true

  pub spend_beyond : length s ≤ n → spend n s ≡ s
  unfolding spend
  spend_beyond h = set_out s n true h

  pub spend_spent : is_spent n s ≡ true → spend n s ≡ s
  unfolding is_spent spend
  spend_spent h = ap (λ (b : Bool). set s n b) (sym h) ∙ set-get_or s n false

-- no number is spent at first
pub none_spent : (n : ℕ) → is_spent n (replicate stream_numbers false) ≡ false
unfolding is_spent
none_spent n =
    decide (ltb n stream_numbers)
    (λ h. get_or-replicate {A = Bool} stream_numbers n false false (ltb-true n stream_numbers h))
    (λ h. none_beyond n (replicate stream_numbers false) (omega (arith, ltb-false n stream_numbers h, length-replicate {A = Bool} stream_numbers false)))

-- a step that leaves the record as it was brings none, and spends nothing
pub not_new : (r : Option Stream) → is_new r r ≡ false
not_new None = refl
not_new (Some b) = refl

pub spent_self : (n : ℕ) (r : Option Stream) (s : List Bool) → spent_after n r r s ≡ s
spent_self n r s = simp (not_new r)
