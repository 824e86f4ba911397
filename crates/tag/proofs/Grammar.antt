-- The class of an octet is the row that it begins, and the test `utf8` decides the grammar.
use mathlib.Core.Path.{◌≡◌, refl, sym, ◌∙◌}
use mathlib.Core.Bool.{Bool, true, false, cond, false≢true}
use mathlib.Core.List.{List, [], ◌∷◌}
use Prim.Native.Nat.{ℕ, zero, suc, ◌≤◌, ◌<◌}
use native.Mathlib.Nat.{le_of_suc-le-suc}
use native.Mathlib.Decide.{dec_lt}
use native.Mathlib.Omega.{arith}
use borrow.Author.Tests.{eqb-true, ltb-true}
use lib.Dec.{T, eqb, ltb, leb, eqb→eq, leb→le}
use lib.ListN.{length, get_or, replicate}
use Rattle.laws.specs.Tests.{within}
use Rattle.laws.proofs.Table.{every, every_at}
use Rattle.laws.proofs.Lists.{decide}
use Rattle.laws.proofs.Tests.{and_left, and_right, within_bounds}
use Rattle.tag.specs.Utf8.{Row, rows, no_row, row_at, tail_lo, tail_hi, begins, place_of, class_of, utf8_after, utf8}
use Rattle.tag.specs.Grammar.{Tails, Characters, Classes, Decides}
use Rattle.tag.specs.Grammar.Tails.{no_tails, tail_then}
use Rattle.tag.specs.Grammar.Characters.{end, character}
use Rattle.tag.proofs.Laws.{first_octet, tail_octet}

-- an octet begins the row whose place it has, and a place is at most how many rows there are
place_in : (b : ℕ) (rs : List Row) (k : ℕ) → place_of b rs ≡ k → k < length rs → begins b (get_or rs k no_row) ≡ true
place_in b [] k p h = absurd (omega arith)
place_in b (r ∷ rs) zero p h = decide (begins b r) (λ e. e) (λ e. absurd (let q : suc (place_of b rs) ≡ 0 = rw e at p in omega arith))
place_in b (r ∷ rs) (suc k) p h =
    decide (begins b r) (λ e. absurd (let q : 0 ≡ suc k = rw e at p in omega arith))
    (λ e. let q : suc (place_of b rs) ≡ suc k = rw e at p in place_in b rs k (omega arith) (le_of_suc-le-suc h))

place_top : (b : ℕ) (rs : List Row) → place_of b rs ≤ length rs
place_top b [] = omega arith
place_top b (r ∷ rs) = decide (begins b r) (λ e. rw e (omega arith)) (λ e. rw e (omega (arith, place_top b rs)))

-- an octet within a row's range is of that row's class: one test over the rows and the 256 octets
test : ℕ → ℕ → ℕ → Bool
test k a x = cond (begins a (row_at k)) (eqb (class_of a) k) true

tests : ℕ → ℕ → Bool
tests k x = every (test k) 0 (replicate 256 0)

row_class : (k : ℕ) → k < 9 → T (every (test k) 0 (replicate 256 0))
unfolding test tests class_of within
row_class k h = every_at tests (replicate 9 0) tt k h

row_top : (k : ℕ) → k < 9 → (row_at k).to ≤ 255
row_top k h = leb→le (row_at k).to 255 (every_at (λ k x. leb (row_at k).to 255) (replicate 9 0) tt k h)

class_in : (b k : ℕ) → k < 9 → class_of b ≡ k → begins b (row_at k) ≡ true
unfolding class_of
class_in b k h e = place_in b rows k e h

class_is : (b k : ℕ) → k < 9 → begins b (row_at k) ≡ true → class_of b ≡ k
unfolding test
class_is b k h e =
    eqb→eq (class_of b) k (rw e at (every_at (test k) (replicate 256 0) (row_class k h) b (omega (arith, row_top k h, (within_bounds b (row_at k).from (row_at k).to e).1))))

class_none : (b k : ℕ) → k < 9 → class_of b ≡ 9 → begins b (row_at k) ≡ false
class_none b k h n = decide (begins b (row_at k)) (λ e. absurd (omega (arith, class_is b k h e))) (λ e. e)

none_class : (b : ℕ) → ((k : ℕ) → k < 9 → begins b (row_at k) ≡ false) → class_of b ≡ 9
unfolding class_of
none_class b n = go (dec_lt (class_of b) 9)
  where
    go : Dec (class_of b < 9) → class_of b ≡ 9
    go (yes h) = absurd (false≢true (sym (n (class_of b) h) ∙ class_in b (class_of b) h refl))
    go (no h) = omega (arith, place_top b rows)

pub classes : Classes
classes = record {
  of_row = λ b k h. (class_in b k h, class_is b k h);
  of_none = λ b. (λ e k h. class_none b k h e, none_class b);
}

-- where no tail is missing, the range does not matter
no_tail : (lo hi : ℕ) (s : List ℕ) → utf8_after 0 lo hi s ≡ utf8 s
unfolding utf8_after utf8
no_tail lo hi [] = refl
no_tail lo hi (b ∷ s) = refl

-- tails are passed over
over : {n lo hi : ℕ} {s rest : List ℕ} → Tails n lo hi s rest → utf8_after n lo hi s ≡ utf8 rest
over {lo = lo} {hi = hi} {s = s} no_tails = no_tail lo hi s
over (tail_then {n} {lo} {hi} {b} {s} e t) = tail_octet b s n lo hi e ∙ over t

complete : {s : List ℕ} → Characters s → utf8 s ≡ true
unfolding utf8 utf8_after
complete end = refl
complete (character {b} {s} k h e t c) = first_octet b s tail_lo tail_hi k (class_is b k h e) h ∙ over t ∙ complete c

-- what passes with n tails missing is n tails and then characters
Rest : ℕ → ℕ → ℕ → List ℕ → Type 0
Rest n lo hi s = (rest : List ℕ) × Tails n lo hi s rest × Characters rest

from : (s : List ℕ) (n lo hi : ℕ) → utf8_after n lo hi s ≡ true → Rest n lo hi s
unfolding utf8_after Rest
from [] zero lo hi e = ([], no_tails, end)
from [] (suc n) lo hi e = absurd (let z = eqb-true (suc n) 0 e in omega arith)
from (b ∷ s) zero lo hi e =
    let k : ℕ = class_of b in
    let later = utf8_after (row_at k).tails (row_at k).lo (row_at k).hi s in
    let h : k < 9 = ltb-true k 9 (and_left (ltb k 9) later e) in
    let r = from s (row_at k).tails (row_at k).lo (row_at k).hi (and_right (ltb k 9) later e) in
    (b ∷ s, no_tails, character k h (class_in b k h refl) r.1 r.2)
from (b ∷ s) (suc n) lo hi e =
    let later = utf8_after n tail_lo tail_hi s in
    let r = from s n tail_lo tail_hi (and_right (within b lo hi) later e) in
    (r.0, tail_then (and_left (within b lo hi) later e) r.1, r.2)

sound : (s : List ℕ) → utf8 s ≡ true → Characters s
unfolding utf8 Rest
sound s e = let r = from s 0 tail_lo tail_hi e in same r.1 r.2
  where
    same : {rest : List ℕ} → Tails zero tail_lo tail_hi s rest → Characters rest → Characters s
    same no_tails c = c

pub decides : Decides
decides s = (sound s, complete)
