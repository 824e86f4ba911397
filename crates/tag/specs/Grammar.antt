-- The grammar of RFC 3629, section 4, as a relation, and what ties the class and the test to it.
use Rattle.std.specs.Prelude.{◌≡◌, ◌↔◌, true, false, List, [], ◌∷◌, ℕ, zero, suc, ◌<◌}
use Rattle.laws.specs.Tests.{within}
use Rattle.tag.specs.Utf8.{tail_lo, tail_hi, row_at, begins, class_of, utf8}

-- n tails, the first within lo..hi and the others any tail, and then the rest
pub data Tails : ℕ → ℕ → ℕ → List ℕ → List ℕ → Type 0 where
  no_tails : {lo hi : ℕ} {s : List ℕ} → Tails zero lo hi s s
  tail_then : {n lo hi b : ℕ} {s rest : List ℕ} → within b lo hi ≡ true → Tails n tail_lo tail_hi s rest → Tails (suc n) lo hi (b ∷ s) rest

-- characters: a first octet of one of the nine rows, the tails of that row, and so on
pub data Characters : List ℕ → Type 0 where
  end : Characters []
  character : {b : ℕ} {s rest : List ℕ} (k : ℕ) → k < 9 →
      begins b (row_at k) ≡ true →
      Tails (row_at k).tails (row_at k).lo (row_at k).hi s rest →
      Characters rest → Characters (b ∷ s)

-- an octet is of class k exactly where it begins row k, and of class 9 exactly where it begins none
pub record Classes : Type 0 where
  pub of_row : (b k : ℕ) → k < 9 → (class_of b ≡ k) ↔ (begins b (row_at k) ≡ true)
  pub of_none : (b : ℕ) → (class_of b ≡ 9) ↔ ((k : ℕ) → k < 9 → begins b (row_at k) ≡ false)

-- the test decides the grammar
abbrev pub Decides : Type 0
Decides = (s : List ℕ) → (utf8 s ≡ true) ↔ Characters s
