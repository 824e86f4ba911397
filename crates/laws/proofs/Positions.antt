-- Where the first element that passes a test stands: by the places before it, and one place further on.
use Prim.Native.Nat.{ℕ, zero, suc, ◌<◌, ◌≤◌}
use native.Mathlib.Omega.{arith}
use mathlib.Core.Path.{◌≡◌, refl, sym, ap, ◌∙◌, subst}
use mathlib.Core.Bool.{Bool, true, false, cond}
use Rattle.std.specs.Prelude.{Option, None, Some, MatchOption}
use Rattle.std.specs.Option.{option_or}
use mathlib.Core.List.{List, [], ◌∷◌, map}
use lib.ListN.{length, get_or}
use Rattle.laws.specs.Lists.{position, later}
use Rattle.laws.specs.Tests.{lowest_below}
use Rattle.laws.proofs.Lists.{decide}
use Rattle.laws.proofs.Tests.{lowest_found, lowest_below_lem, lowest_holds, lowest_from, lowest_ext}

-- what was found in a list is found one place later in a list with one element more
pub later_some : (o : Option ℕ) (k : ℕ) → later o ≡ Some k → (j : ℕ) × (o ≡ Some j) × (k ≡ suc j)
later_some None k e = absurd (let z : ◌≡◌ {A = ℕ} 0 1 = cc in omega arith)
later_some (Some j) k e = (j, refl, cc)

pub later_none : (o : Option ℕ) → later o ≡ None → o ≡ None
later_none None e = refl
later_none (Some j) e = cc

-- by a test that agrees
pub position_ext : {A : Type 0} (p q : A → Bool) → ((x : A) → p x ≡ q x) → (l : List A) → position p l ≡ position q l
position_ext p q h [] = refl
position_ext p q h (x ∷ l) = simp (h x, position_ext p q h l)

-- of elements that are changed first
pub position_map : {A B : Type 0} (p : B → Bool) (f : A → B) (l : List A) → position p (map f l) ≡ position (λ x. p (f x)) l
position_map p f [] = refl
position_map p f (x ∷ l) = ap (λ (o : Option ℕ). cond (p (f x)) (Some 0) (later o)) (position_map p f l)

module _ {A : Type 0} (p : A → Bool) (d : A) where
  lowest_front : (q : ℕ → Bool) (n : ℕ) → lowest_below (suc n) q ≡ cond (q 0) (Some 0) (later (lowest_below n (λ i. q (suc i))))
  unfolding lowest_below
  lowest_front q zero = refl
  lowest_front q (suc n) = ap (λ (o : Option ℕ). option_or o (cond (q (suc n)) (Some (suc n)) None)) (lowest_front q n) ∙ of (q 0) (lowest_below n (λ i. q (suc i))) (q (suc n))
    where
      of : (a : Bool) (o : Option ℕ) (c : Bool) → option_or (cond a (Some 0) (later o)) (cond c (Some (suc n)) None) ≡ cond a (Some 0) (later (option_or o (cond c (Some n) None)))
      of true o c = refl
      of false (Some j) c = refl
      of false None true = refl
      of false None false = refl

  position_lowest : (l : List A) → position p l ≡ lowest_below (length l) (λ i. p (get_or l i d))
  unfolding lowest_below
  position_lowest [] = refl
  position_lowest (x ∷ l) = ap (λ (o : Option ℕ). cond (p x) (Some 0) (later o)) (position_lowest l) ∙ sym (lowest_front (λ i. p (get_or (x ∷ l) i d)) (length l))

  -- a loop that looks at the places one after the other: what it found, and that it found nothing
  module _ (l : List A) (n : ℕ) (long : length l ≡ n) where
    at_places : position p l ≡ lowest_below n (λ i. p (get_or l i d))
    at_places = position_lowest l ∙ ap (λ (m : ℕ). lowest_below m (λ i. p (get_or l i d))) long

    pub position_at : (i : ℕ) → i < n → lowest_below i (λ j. p (get_or l j d)) ≡ None → p (get_or l i d) ≡ true → position p l ≡ Some i
    position_at i h e t = at_places ∙ lowest_found (λ j. p (get_or l j d)) n i h e t

    pub position_none : lowest_below n (λ j. p (get_or l j d)) ≡ None → position p l ≡ None
    position_none e = at_places ∙ e

    -- what std's `find` over the numbers of the places finds, by a test q that at each place tells whether its element passes
    pub position_from : (q : ℕ → Bool) → ((i : ℕ) → i < n → q i ≡ p (get_or l i d)) → (r : Option ℕ)
        → MatchOption r ((k : ℕ) → 0 ≤ k → k < n → q k ≡ false) (λ i. (0 ≤ i) × (i < n) × (q i ≡ true) × ((k : ℕ) → 0 ≤ k → k < i → q k ≡ false)) → r ≡ position p l
    position_from q agree r h = lowest_from q n r h ∙ lowest_ext q (λ i. p (get_or l i d)) n agree ∙ sym at_places

    -- what was found is a place, and its element passes
    pub position_below : (k : ℕ) → position p l ≡ Some k → k < n
    position_below k e = lowest_below_lem (λ i. p (get_or l i d)) n k (sym at_places ∙ e)

    pub position_holds : (k : ℕ) → position p l ≡ Some k → p (get_or l k d) ≡ true
    position_holds k e = lowest_holds (λ i. p (get_or l i d)) n k (sym at_places ∙ e)

-- a list that agrees up to what was found: the same is found there
pub position_agrees : {A : Type 0} (p : A → Bool) (d : A) (l m : List A) (k : ℕ) → length l ≡ length m → position p l ≡ Some k → ((i : ℕ) → i ≤ k → get_or l i d ≡ get_or m i d)
    → position p m ≡ Some k
position_agrees p d [] m k long e h = absurd (let z : ◌≡◌ {A = ℕ} 0 1 = cc in omega arith)
position_agrees p d (x ∷ l) [] k long e h = absurd (omega arith)
position_agrees p d (x ∷ l) (y ∷ m) k long e h =
    let same : x ≡ y = h 0 (omega arith) in
    subst (λ z. position p (z ∷ m) ≡ Some k) same
    (decide (p x)
    (λ t. simp t (simp t at e))
    (λ t.
    let w = later_some (position p l) k (simp t at e) in
    simp t (ap later (position_agrees p d l m w.0 (omega arith) w.1 (λ i b. h (suc i) (omega (arith, w.2, b)))) ∙ ap Some (sym w.2))))
