-- Tests one after the other, as `a && b && c` makes them, and of each number in a range.
use mathlib.Core.Path.{◌≡◌, refl, ◌∙◌, ap}
use mathlib.Core.Bool.{Bool, true, false, ◌&&◌}
use Prim.Native.Nat.{ℕ}
use native.Mathlib.Nat.{zero-add}
use lib.ListN.{get_or}
use Rattle.std.specs.List.{list_all, range_with_len}
use Rattle.std.proofs.lemmas.List.Recursion.{same_from_clauses}
use Rattle.std.proofs.lemmas.List.FromFn.{length-range_with_len, get_or-range_with_len}
use Rattle.laws.specs.Lists.{all_of}
use Rattle.laws.specs.Tests.{all_below}
use Rattle.laws.proofs.Tests.{all_ext, and_holds, and_fails, was_true, was_false}
use Rattle.laws.proofs.Pieces.{all_places}

-- The tests so far came to r: the next is made where that is true, and else it is the answer

pub next_made : {a b r v : Bool} → r ≡ a → r ≡ true → v ≡ b → v ≡ a && b
next_made {a} {b} e t h = h ∙ and_holds a b b (was_true e t) refl

pub next_left : {a r v : Bool} (b : Bool) → r ≡ a → r ≡ false → v ≡ r → v ≡ a && b
next_left {a} b e f h = h ∙ f ∙ and_fails a b (was_false e f)

-- a test of each number in a range
pub all_in_range : (p : ℕ → Bool) (n : ℕ) → list_all p (range_with_len 0 n) ≡ all_below n p
all_in_range p n =
    same_from_clauses (list_all p) (all_of p) (λ x b. p x && b) refl (λ _ _. refl) (λ _ _. refl) (range_with_len 0 n)
    ∙ all_places p 0 (range_with_len 0 n)
    ∙ ap (λ (m : ℕ). all_below m (λ i. p (get_or (range_with_len 0 n) i 0))) (length-range_with_len 0 n)
    ∙ all_ext _ p n (λ i h. ap p (get_or-range_with_len 0 n i 0 h ∙ zero-add i))
