-- Laws of tests: both of two, of numbers, and of the bounded tests in the form that a loop which counts up wants (nothing yet, one more, the way out).
use mathlib.Core.Path.{◌≡◌, refl, sym, ◌∙◌}
use mathlib.Core.Bool.{Bool, true, false, not, ◌&&◌, ◌||◌, and-false, and-eq-true_iff, true≢false, false≢true}
use Rattle.std.specs.Prelude.{Option, None, Some, MatchOption}
use Prim.Native.Nat.{ℕ, zero, suc, ◌+◌, ◌≤◌, ◌<◌}
use native.Mathlib.Numerals.{add-one}
use native.Mathlib.Decide.{le_ind}
use native.Mathlib.Omega.{arith}
use lib.Dec.{leb, ltb}
use borrow.Author.Tests.{le-leb, lt-leb, leb-true, le-ltb, ltb-false, not-true}
use Rattle.laws.specs.Tests.{within, all_below, lowest_below}

-- a test is not true and false
pub never : {P : Type 0} → ◌≡◌ {A = Bool} true false → P
never e = absurd (true≢false e)

-- a test that is not true is false
pub ne_true : (t : Bool) → (t ≡ true → ⊥) → t ≡ false
ne_true true h = absurd (h refl)
ne_true false h = refl

-- two tests of which each holds where the other does are one
pub tests_same : (a b : Bool) → (a ≡ true → b ≡ true) → (b ≡ true → a ≡ true) → a ≡ b
tests_same true b to from = sym (to refl)
tests_same false b to from = sym (ne_true b (λ e. false≢true (from e)))

-- both of two tests
pub both : {a b : Bool} → a ≡ true → b ≡ true → a && b ≡ true
both p q = rw (p, q)

pub and_left : (a b : Bool) → a && b ≡ true → a ≡ true
and_left a b e = ((and-eq-true_iff a b).0 e).0

pub and_right : (a b : Bool) → a && b ≡ true → b ≡ true
and_right a b e = ((and-eq-true_iff a b).0 e).1

-- a chain of tests fails at the first that fails, and goes on past one that holds
pub and_fails : (a b : Bool) → a ≡ false → false ≡ a && b
and_fails a b e = rw e

pub and_holds : (a b r : Bool) → a ≡ true → r ≡ b → r ≡ a && b
and_holds a b r e h = rw e h

-- what a callee tested, where the code goes on by it
pub was_true : {r t : Bool} → r ≡ t → r ≡ true → t ≡ true
was_true p q = sym p ∙ q

pub was_false : {r t : Bool} → r ≡ t → r ≡ false → t ≡ false
was_false p q = sym p ∙ q

-- one of two tests hits, or neither does
pub either : (a b r : Bool) → not a && not b ≡ false → (a || (b || r)) ≡ true
either true b r h = refl
either false true r h = refl
either false false r h = absurd (true≢false h)

pub neither : (a b r : Bool) → not a && not b ≡ true → (a || (b || r)) ≡ r
neither true b r h = absurd (false≢true h)
neither false true r h = absurd (false≢true h)
neither false false r h = refl

-- not above is at most
pub leb_not_ltb : (a b : ℕ) → leb a b ≡ not (ltb b a)
leb_not_ltb a b =
    tests_same (leb a b) (not (ltb b a)) (λ e. rw (le-ltb b a (leb-true a b e))) (λ e. le-leb a b (ltb-false b a (not-true (ltb b a) e)))

-- a number from lo to hi
module _ (x lo hi : ℕ) where
  pub within_true : lo ≤ x → x ≤ hi → within x lo hi ≡ true
  unfolding within
  within_true l h = both (le-leb lo x l) (le-leb x hi h)

  pub within_below : x < lo → within x lo hi ≡ false
  unfolding within
  within_below h = rw (lt-leb lo x h)

  pub within_above : hi < x → within x lo hi ≡ false
  unfolding within
  within_above h = rw (lt-leb x hi h) (and-false (leb lo x))

  pub within_bounds : within x lo hi ≡ true → (lo ≤ x) × (x ≤ hi)
  unfolding within
  within_bounds e = (leb-true lo x (and_left (leb lo x) (leb x hi) e), leb-true x hi (and_right (leb lo x) (leb x hi) e))

-- the lowest number that passes
module _ (p : ℕ → Bool) where
  pub lowest_none : lowest_below 0 p ≡ None
  unfolding lowest_below
  lowest_none = refl

  pub lowest_more : (i : ℕ) → lowest_below i p ≡ None → p i ≡ false → lowest_below (i + 1) p ≡ None
  unfolding lowest_below
  lowest_more i h e = rw (add-one i) (rw (h, e))

  lowest_hit : (i : ℕ) → lowest_below i p ≡ None → p i ≡ true → lowest_below (suc i) p ≡ Some i
  unfolding lowest_below
  lowest_hit i h e = rw (h, e)

  lowest_on : (i n : ℕ) → lowest_below n p ≡ Some i → lowest_below (suc n) p ≡ Some i
  unfolding lowest_below
  lowest_on i n h = rw h

  pub lowest_found : (n i : ℕ) → i < n → lowest_below i p ≡ None → p i ≡ true → lowest_below n p ≡ Some i
  lowest_found n i h e t = le_ind (λ (m : ℕ). lowest_below m p ≡ Some i) (lowest_hit i e t) (λ m _ r. lowest_on i m r) n h

  found : (n k : ℕ) → lowest_below n p ≡ Some k → (k < n) × (p k ≡ true)
  unfolding lowest_below
  found zero k e = absurd (let z : ◌≡◌ {A = ℕ} 0 1 = cc in omega arith)
  found (suc n) k e = go (lowest_below n p) refl (p n) refl (found n k)
    where
      go : (r : Option ℕ) → lowest_below n p ≡ r → (b : Bool) → p n ≡ b → (lowest_below n p ≡ Some k → (k < n) × (p k ≡ true)) → (k < suc n) × (p k ≡ true)
      go (Some j) h b g ih = let w = ih (h ∙ (rw h at e)) in (omega arith, w.1)
      go None h true g ih = let m : n ≡ k = let w : Some n ≡ Some k = rw (h, g) at e in cc in (omega arith, rw (← m) g)
      go None h false g ih = absurd (let z : ◌≡◌ {A = ℕ} 0 1 = let w : None ≡ Some k = rw (h, g) at e in cc in omega arith)

  none_to : (n : ℕ) → ((k : ℕ) → k < n → p k ≡ false) → lowest_below n p ≡ None
  none_to zero h = lowest_none
  none_to (suc n) h = rw (← add-one n) (lowest_more n (none_to n (λ k l. h k (omega arith))) (h n (omega arith)))

  -- what a search of the numbers below n finds, as std's `find` over a range says it
  pub lowest_from : (n : ℕ) (r : Option ℕ) → MatchOption r ((k : ℕ) → 0 ≤ k → k < n → p k ≡ false) (λ i. (0 ≤ i) × (i < n) × (p i ≡ true) × ((k : ℕ) → 0 ≤ k → k < i → p k ≡ false)) → r ≡ lowest_below n p
  lowest_from n None h = sym (none_to n (λ k l. h k (omega arith) l))
  lowest_from n (Some i) h = sym (lowest_found n i h.1 (none_to i (λ k l. h.3 k (omega arith) l)) h.2)

  -- what was found lies below the bound and passes the test
  pub lowest_below_lem : (n k : ℕ) → lowest_below n p ≡ Some k → k < n
  lowest_below_lem n k e = (found n k e).0

  pub lowest_holds : (n k : ℕ) → lowest_below n p ≡ Some k → p k ≡ true
  lowest_holds n k e = (found n k e).1

-- two tests that agree below the bound
pub lowest_ext : (p q : ℕ → Bool) (n : ℕ) → ((i : ℕ) → i < n → p i ≡ q i) → lowest_below n p ≡ lowest_below n q
unfolding lowest_below
lowest_ext p q zero h = refl
lowest_ext p q (suc n) h = rw (lowest_ext p q n (λ i l. h i (omega arith)), h n (omega arith))

-- p holds at each number below a bound
module _ (p : ℕ → Bool) where
  pub all_none : all_below 0 p ≡ true
  unfolding all_below
  all_none = refl

  pub all_more : (i : ℕ) → all_below i p ≡ true → p i ≡ true → all_below (i + 1) p ≡ true
  unfolding all_below
  all_more i h e = rw (add-one i) (rw (h, e))

  all_miss : (i : ℕ) → p i ≡ false → all_below (suc i) p ≡ false
  unfolding all_below
  all_miss i e = rw e (and-false (all_below i p))

  all_on : (n : ℕ) → all_below n p ≡ false → all_below (suc n) p ≡ false
  unfolding all_below
  all_on n h = rw h

  -- one that fails is enough
  pub all_fails : (n i : ℕ) → i < n → p i ≡ false → all_below n p ≡ false
  all_fails n i h e = le_ind (λ (m : ℕ). all_below m p ≡ false) (all_miss i e) (λ m _ r. all_on m r) n h

-- two tests that agree below the bound
pub all_ext : (p q : ℕ → Bool) (n : ℕ) → ((i : ℕ) → i < n → p i ≡ q i) → all_below n p ≡ all_below n q
unfolding all_below
all_ext p q zero h = refl
all_ext p q (suc n) h = rw (all_ext p q n (λ i l. h i (omega arith)), h n (omega arith))

-- two tests at each number below the bound
pub below_both : (p q : ℕ → Bool) (n : ℕ) → all_below n (λ i. p i && q i) ≡ all_below n p && all_below n q
unfolding all_below
below_both p q zero = refl
below_both p q (suc n) = rw (below_both p q n) (turned (all_below n p) (all_below n q) (p n) (q n))
  where
    turned : (a b c d : Bool) → (a && b) && (c && d) ≡ (a && c) && (b && d)
    turned false b c d = refl
    turned true b false d = and-false b
    turned true b true d = refl
