-- Runs of stores.
use Rattle.std.specs.Prelude.{◌≡◌, List, ℕ, ◌+◌, length}
use Rattle.std.proofs.lemmas.List.Edits.{sets}

-- the bytes were stored in d from `at` on, which leaves e, and r is the place after them
pub record Wrote (d e : List ℕ) (at r : ℕ) (bytes : List ℕ) : Type 0 where
  pub next : r ≡ at + length bytes
  pub whole : e ≡ sets d at bytes
