-- Lists picked by a test, tests of any or all of their elements, counts, and numbers that stand once.
use Rattle.std.specs.Prelude.{ℕ, zero, suc, ◌+◌, Bool, true, false, cond, not, ◌&&◌, List, [], ◌∷◌, ◌++◌, eqb}
use Rattle.std.specs.Prelude.{Option, None, Some}

module _ {A : Type 0} where
  -- the elements that pass a test, in their order
  abbrev pub keep : (A → Bool) → List A → List A
  keep p [] = []
  keep p (x ∷ xs) = cond (p x) (x ∷ keep p xs) (keep p xs)

  -- one element or more passes the test
  abbrev pub any_of : (A → Bool) → List A → Bool
  any_of p [] = false
  any_of p (x ∷ xs) = cond (p x) true (any_of p xs)

  -- each element passes the test
  abbrev pub all_of : (A → Bool) → List A → Bool
  all_of p [] = true
  all_of p (x ∷ xs) = p x && all_of p xs

  -- each element has the property
  abbrev pub Each : (A → Type 0) → List A → Type 0
  Each P [] = Unit {0}
  Each P (x ∷ xs) = P x × Each P xs

  -- how many elements pass a test
  abbrev pub how_many : (A → Bool) → List A → ℕ
  how_many p [] = 0
  how_many p (x ∷ xs) = cond (p x) 1 0 + how_many p xs

  -- there is no element
  abbrev pub is_empty : List A → Bool
  is_empty [] = true
  is_empty (x ∷ xs) = false

  -- there is no value
  abbrev pub is_none : Option A → Bool
  is_none None = true
  is_none (Some x) = false

  -- the value as a list of one, and no value as the empty list
  abbrev pub to_list : Option A → List A
  to_list None = []
  to_list (Some x) = x ∷ []

-- a place one further on
abbrev pub later : Option ℕ → Option ℕ
later None = None
later (Some k) = Some (suc k)

module _ {A : Type 0} where
  -- the place of the first element that passes a test, counted from 0
  abbrev pub position : (A → Bool) → List A → Option ℕ
  position p [] = None
  position p (x ∷ xs) = cond (p x) (Some 0) (later (position p xs))

-- two lists of numbers are equal: as long, and with the same number at each place
unfoldable pub same : List ℕ → List ℕ → Bool
same [] [] = true
same [] (y ∷ ys) = false
same (x ∷ xs) [] = false
same (x ∷ xs) (y ∷ ys) = eqb x y && same xs ys

-- the numbers of those elements that have one, in their order
module _ {A : Type 0} where
  abbrev pub numbers_in : (A → Option ℕ) → List A → List ℕ
  numbers_in key [] = []
  numbers_in key (x ∷ xs) = to_list (key x) ++ numbers_in key xs

-- the number stands in the list
abbrev pub stands_in : ℕ → List ℕ → Bool
stands_in n l = any_of (λ m. eqb m n) l

-- no number stands twice
abbrev pub distinct : List ℕ → Bool
distinct [] = true
distinct (n ∷ l) = not (stands_in n l) && distinct l

-- the sum of the numbers
abbrev pub total : List ℕ → ℕ
total [] = 0
total (v ∷ vs) = v + total vs

-- the numbers below n, ascending
abbrev pub numbers_below : ℕ → List ℕ
numbers_below zero = []
numbers_below (suc n) = numbers_below n ++ n ∷ []
