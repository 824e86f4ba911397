-- What `ascending` gives is sorted, and has the elements of its list, each as often: two theorems, by induction on the list over `insert_by`.
use mathlib.Core.Path.{◌≡◌, refl, sym, ap, ◌∙◌}
use mathlib.Core.Bool.{Bool, true}
use mathlib.Core.List.{List, [], ◌∷◌, ◌++◌}
use Prim.Native.Nat.{ℕ, suc}
use native.Mathlib.Omega.{arith}
use lib.Dec.{ltb, leb}
use lib.ListN.{length, length-append}
use borrow.Author.Tests.{leb-true, le-leb, ltb-true, ltb-false, not-true}
use Rattle.laws.specs.Lists.{keep, all_of, how_many}
use Rattle.laws.specs.Ascending.{below, not_below, insert_by, ascending, sorted}
use Rattle.laws.proofs.Tests.{both, and_left, and_right}
use Rattle.laws.proofs.Lists.{decide, keep_ascending, all_append, all_keep, all_implied, all_kept, how_many_length, length_split}

module _ {A : Type 0} (key : A → ℕ) where
  abbrev from : ℕ → A → Bool
  from k y = leb k (key y)

  sorted_keep : (p : A → Bool) (l : List A) → sorted key l ≡ true → sorted key (keep p l) ≡ true
  sorted_keep p [] h = refl
  sorted_keep p (x ∷ l) h =
      let rest = sorted_keep p l (and_right (all_of (from (key x)) l) (sorted key l) h) in
      decide (p x) (λ e. simp (e, all_keep (from (key x)) p l (and_left (all_of (from (key x)) l) (sorted key l) h), rest)) (λ e. simp (e, rest))

  -- two sorted lists, all of the first up to k and all of the second from k
  sorted_append : (k : ℕ) (l m : List A) → all_of (λ y. leb (key y) k) l ≡ true → all_of (from k) m ≡ true → sorted key l ≡ true → sorted key m ≡ true
      → sorted key (l ++ m) ≡ true
  sorted_append k [] m lo hi s t = t
  sorted_append k (x ∷ l) m lo hi s t =
      let x≤k = leb-true (key x) k (and_left (leb (key x) k) (all_of (λ y. leb (key y) k) l) lo) in
      let after : all_of (from (key x)) m ≡ true = all_implied (from k) (from (key x)) (λ y e. le-leb (key x) (key y) (omega (arith, leb-true k (key y) e))) m hi in
      both
      (all_append (from (key x)) l m ∙ both (and_left (all_of (from (key x)) l) (sorted key l) s) after)
      (sorted_append k l m (and_right (leb (key x) k) (all_of (λ y. leb (key y) k) l) lo) hi (and_right (all_of (from (key x)) l) (sorted key l) s) t)

  sorted_insert_by : (x : A) (l : List A) → sorted key l ≡ true → sorted key (insert_by key x l) ≡ true
  unfolding insert_by below not_below
  sorted_insert_by x l h =
      let k = key x in
      let lo = all_kept (below key k) (λ y. leb (key y) k) (λ y e. le-leb (key y) k (omega (arith, ltb-true (key y) k e))) l in
      let hi = all_kept (not_below key k) (from k) (λ y e. le-leb k (key y) (ltb-false (key y) k (not-true (ltb (key y) k) e))) l in
      sorted_append k (keep (below key k) l) (x ∷ keep (not_below key k) l) lo (both (le-leb k k (omega arith)) hi)
      (sorted_keep (below key k) l h) (both hi (sorted_keep (not_below key k) l h))

  length_insert_by : (x : A) (l : List A) → length (insert_by key x l) ≡ suc (length l)
  unfolding insert_by below not_below
  length_insert_by x l = omega (arith, length-append (keep (below key (key x)) l) (x ∷ keep (not_below key (key x)) l), length_split (below key (key x)) l)

  pub length_ascending : (l : List A) → length (ascending key l) ≡ length l
  length_ascending [] = refl
  length_ascending (x ∷ l) = length_insert_by x (ascending key l) ∙ ap suc (length_ascending l)

  -- what all elements pass, all pass when sorted
  pub all_ascending : (p : A → Bool) (l : List A) → all_of p l ≡ true → all_of p (ascending key l) ≡ true
  unfolding insert_by
  all_ascending p [] h = refl
  all_ascending p (x ∷ l) h =
      let s = ascending key l in
      let rest = all_ascending p l (and_right (p x) (all_of p l) h) in
      all_append p (keep (below key (key x)) s) (x ∷ keep (not_below key (key x)) s)
      ∙ both (all_keep p (below key (key x)) s rest) (both (and_left (p x) (all_of p l) h) (all_keep p (not_below key (key x)) s rest))

  -- the result is sorted
  pub ascending_sorted : (l : List A) → sorted key (ascending key l) ≡ true
  ascending_sorted [] = refl
  ascending_sorted (x ∷ l) = sorted_insert_by x (ascending key l) (ascending_sorted l)

  -- it has the same elements, duplicates counted: of each kind p as many as the list
  pub ascending_how_many : (l : List A) (p : A → Bool) → how_many p (ascending key l) ≡ how_many p l
  ascending_how_many l p =
      how_many_length p (ascending key l) ∙ ap length (keep_ascending key p l) ∙ length_ascending (keep p l) ∙ sym (how_many_length p l)

-- a list of the edges, with a number that is there twice
in_order_lem : ascending (λ (n : ℕ). n) (9 ∷ 4294967295 ∷ 0 ∷ 9 ∷ []) ≡ 0 ∷ 9 ∷ 9 ∷ 4294967295 ∷ []
unfolding insert_by below not_below
in_order_lem = refl
