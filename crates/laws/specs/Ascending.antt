-- Sorting by a key, which is a number, and what sorted means.
use Rattle.std.specs.Prelude.{ℕ, Bool, true, not, ◌&&◌, List, [], ◌∷◌, ◌++◌, ltb, leb}
use Rattle.laws.specs.Lists.{keep, all_of}

module _ {A : Type 0} where
  -- the key of y is below k
  unfoldable pub below : (A → ℕ) → ℕ → A → Bool
  below key k y = ltb (key y) k

  -- the key of y is not below k
  unfoldable pub not_below : (A → ℕ) → ℕ → A → Bool
  not_below key k y = not (ltb (key y) k)

  -- x after the elements with a key below its own and before all others
  unfoldable pub insert_by : (A → ℕ) → A → List A → List A
  insert_by key x xs = keep (below key (key x)) xs ++ x ∷ keep (not_below key (key x)) xs

  -- the elements by ascending key: each is inserted into the others, sorted
  abbrev pub ascending : (A → ℕ) → List A → List A
  ascending key [] = []
  ascending key (x ∷ xs) = insert_by key x (ascending key xs)

  -- no key is above one that stands after it
  abbrev pub sorted : (A → ℕ) → List A → Bool
  sorted key [] = true
  sorted key (x ∷ xs) = all_of (λ y. leb (key x) (key y)) xs && sorted key xs
