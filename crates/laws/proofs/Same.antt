-- Laws of `same`, the test whether two lists of numbers are equal: it is true of equal lists only, and goes piece by piece.
use mathlib.Core.Path.{◌≡◌, refl, sym, ap, ◌∙◌}
use mathlib.Core.Bool.{true, false, ◌&&◌, and_assoc, false≢true}
use mathlib.Core.List.{List, [], ◌∷◌, ◌++◌}
use Prim.Native.Nat.{ℕ, ◌<◌, ◌≤◌}
use native.Mathlib.Omega.{arith}
use lib.Dec.{eqb}
use lib.ListN.{length, get_or, take, drop, take-append-drop}
use lib.Seq.{length-take-le, ext_get_or}
use borrow.Author.Tests.{eqb-true}
use Rattle.laws.specs.Lists.{same}
use Rattle.laws.specs.Parts.{zeros}
use Rattle.laws.proofs.Tests.{ne_true, both, and_left, and_right}
use Rattle.laws.proofs.Lists.{eqb_same}
use Rattle.laws.proofs.Parts.{zero_length, zero_at}

pub same_refl : (a : List ℕ) → same a a ≡ true
unfolding same
same_refl [] = refl
same_refl (x ∷ xs) = both (eqb_same x) (same_refl xs)

pub same_true : (a b : List ℕ) → same a b ≡ true → a ≡ b
unfolding same
same_true [] [] e = refl
same_true [] (y ∷ ys) e = absurd (false≢true e)
same_true (x ∷ xs) [] e = absurd (false≢true e)
same_true (x ∷ xs) (y ∷ ys) e =
    let h : x ≡ y = eqb-true x y (and_left (eqb x y) (same xs ys) e) in
    let t : xs ≡ ys = same_true xs ys (and_right (eqb x y) (same xs ys) e) in
    cc

pub same_eq : (a b : List ℕ) → a ≡ b → same a b ≡ true
same_eq a b e = rw e (same_refl b)

pub same_ne : (a b : List ℕ) → (a ≡ b → ⊥) → same a b ≡ false
same_ne a b h = ne_true (same a b) (λ e. h (same_true a b e))

-- zeros: where each number is 0, and then each is
module _ (l : List ℕ) where
  pub zero_true : ((j : ℕ) → j < length l → get_or l j 0 ≡ 0) → same l (zeros (length l)) ≡ true
  zero_true f =
      same_eq l (zeros (length l))
      (ext_get_or 0 l (zeros (length l)) (sym (zero_length (length l))) (λ i h. f i h ∙ sym (zero_at (length l) i h)))

  pub zero_here : (i : ℕ) → i < length l → same l (zeros (length l)) ≡ true → get_or l i 0 ≡ 0
  zero_here i h e = ap (λ (x : List ℕ). get_or x i 0) (same_true l (zeros (length l)) e) ∙ zero_at (length l) i h

-- lists side by side, and a list that is cut at n
pub same_append : (a c b d : List ℕ) → length a ≡ length c → same (a ++ b) (c ++ d) ≡ same a c && same b d
unfolding same
same_append [] [] b d h = refl
same_append [] (y ∷ ys) b d h = absurd (omega arith)
same_append (x ∷ xs) [] b d h = absurd (omega arith)
same_append (x ∷ xs) (y ∷ ys) b d h = rw (same_append xs ys b d (omega arith)) (sym (and_assoc (eqb x y) (same xs ys) (same b d)))

pub same_cut : (l a b : List ℕ) (n : ℕ) → n ≤ length l → length a ≡ n → same l (a ++ b) ≡ same (take n l) a && same (drop n l) b
same_cut l a b n h e =
    ap (λ (x : List ℕ). same x (a ++ b)) (sym (take-append-drop n l))
    ∙ same_append (take n l) a (drop n l) b (length-take-le n l h ∙ sym e)
