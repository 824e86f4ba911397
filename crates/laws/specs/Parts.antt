-- A part of a list, a list with another part (in the form in which a lent part comes back), and pieces side by side.
use Rattle.std.specs.Prelude.{ℕ, zero, suc, List, [], ◌∷◌, ◌++◌, take, drop, replicate}

-- the n elements from a
abbrev pub part : {B : Type 0} → ℕ → ℕ → List B → List B
part a n l = take n (drop a l)

-- l with ys for the n elements from a
abbrev pub with_part : ℕ → ℕ → List ℕ → List ℕ → List ℕ
with_part a n l ys = take a l ++ (ys ++ drop n (drop a l))

-- n zeros. A name of its own keeps a long run of them from being written out wherever it stands.
unfoldable pub zeros : ℕ → List ℕ
zeros n = replicate n 0

module _ {A B : Type 0} where
  -- the elements written one after the other
  unfoldable pub pieces : (A → List B) → List A → List B
  pieces f [] = []
  pieces f (x ∷ l) = f x ++ pieces f l

  -- n elements read out of pieces of k, one after the other
  unfoldable pub read_pieces : (List B → A) → ℕ → ℕ → List B → List A
  read_pieces f k zero l = []
  read_pieces f k (suc n) l = f (take k l) ∷ read_pieces f k n (drop k l)
