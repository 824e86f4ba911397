-- Laws of the definitions of UTF-8 and of the tag, each in the form that a step of the code wants.
use mathlib.Core.Path.{◌≡◌, refl, sym, ap, ◌∙◌}
use mathlib.Core.Bool.{Bool, true, false, ◌&&◌}
use mathlib.Core.List.{List, [], ◌∷◌, map}
use Prim.Native.Nat.{ℕ, zero, suc, ◌-◌, ◌≤◌, ◌<◌}
use native.Mathlib.Omega.{arith}
use borrow.Author.Tests.{lt-ltb, le-ltb, ne_eqb, eq-eqb}
use lib.Dec.{eqb, ltb}
use lib.ListN.{length, take, drop, drop_of_length-le}
use native.Mathlib.Decide.{dec_lt}
use Rattle.std.specs.Prelude.{cond, None, Some, position}
use Rattle.std.specs.Bool.{then_some}
use Rattle.std.specs.List.{slice_get, position_or_len}
use Rattle.std.proofs.lemmas.Option.{slice_get-map, slice_get-get_or, slice_get_past}
use Rattle.laws.specs.Tests.{within}
use Rattle.laws.proofs.Lists.{decide}
use Rattle.tag.specs.declared.DueTails.{DueTails}
use Rattle.tag.specs.declared.TheConstants.{ROWS}
use Rattle.tag.specs.Due.{goes_on}
use Rattle.field.specs.Field.{field}
use Rattle.tag.specs.Utf8.{Row, rows, no_row, row_at, tail_lo, tail_hi, class_of, utf8_after, utf8}
use Rattle.tag.specs.Tag.{create_length, create_type, nul_at, good_tag, tag_length, tag_in, carries_name, display_name}

-- one octet of the test: a first octet, a tail, one that is out of its range
module _ (b : ℕ) (s : List ℕ) where
  pub first_octet : (lo hi k : ℕ) → class_of b ≡ k → k < 9 → utf8_after 0 lo hi (b ∷ s) ≡ utf8_after (row_at k).tails (row_at k).lo (row_at k).hi s
  unfolding utf8_after
  first_octet lo hi k e h = rw (e, lt-ltb k 9 h)

  pub tail_octet : (n lo hi : ℕ) → within b lo hi ≡ true → utf8_after (suc n) lo hi (b ∷ s) ≡ utf8_after n tail_lo tail_hi s
  unfolding utf8_after
  tail_octet n lo hi e = rw e

  -- the same where the number of tails is one that the code tested
  pub tail_due : (n lo hi : ℕ) → (n ≡ 0 → ⊥) → within b lo hi ≡ true → utf8_after n lo hi (b ∷ s) ≡ utf8_after (n - 1) tail_lo tail_hi s
  tail_due zero lo hi z e = absurd (z refl)
  tail_due (suc n) lo hi z e = tail_octet n lo hi e ∙ ap (λ (m : ℕ). utf8_after m tail_lo tail_hi s) (omega arith)

  pub no_tail_due : (n lo hi : ℕ) → (n ≡ 0 → ⊥) → within b lo hi ≡ false → utf8_after n lo hi (b ∷ s) ≡ false
  unfolding utf8_after
  no_tail_due zero lo hi z e = absurd (z refl)
  no_tail_due (suc n) lo hi z e = rw e

-- the code's table has the grammar's rows: what is due behind the first octet of each
abbrev tails_of : Row → DueTails
tails_of r = record { missing = r.tails; lo = r.lo; hi = r.hi }

table : map tails_of rows ≡ ROWS
table = refl

-- a class looked up in it: the row's tails, or none
pub row_found : (lo hi b : ℕ) (s : List ℕ) → utf8_after 0 lo hi (b ∷ s) ≡ goes_on (slice_get ROWS (class_of b)) s
unfolding utf8_after
row_found lo hi b s = by_class (class_of b) (dec_lt (class_of b) 9) ∙ ap (λ t. goes_on (slice_get t (class_of b)) s) table
  where
    by_class : (k : ℕ) → Dec (k < 9) → (ltb k 9 && utf8_after (row_at k).tails (row_at k).lo (row_at k).hi s) ≡ goes_on (slice_get (map tails_of rows) k) s
    by_class k (yes h) = rw (lt-ltb k 9 h, slice_get-map tails_of rows k, slice_get-get_or rows k no_row h)
    by_class k (no h) = rw (le-ltb k 9 (omega arith), slice_get_past (map tails_of rows) k (omega arith))

-- the place of the first NUL, as std's `position` looks for it
pub nul_place : (t : List ℕ) → nul_at t ≡ position_or_len (λ b. eqb b 0) t
unfolding nul_at
nul_place [] = refl
nul_place (b ∷ bs) = decide (eqb b 0) (λ e. rw e) (λ e. rw (e, nul_place bs) (omega arith))

-- past the last octet
pub utf8_end : (s : List ℕ) (i n lo hi : ℕ) → length s ≤ i → utf8_after n lo hi (drop i s) ≡ eqb n 0
unfolding utf8_after
utf8_end s i n lo hi h = rw (drop_of_length-le s h)

-- the length of a tag, by the place of its first NUL
module _ (t : List ℕ) where
  bad_length : good_tag t ≡ false → None ≡ tag_length t
  unfolding tag_length
  bad_length h = ap (λ g. cond g (Some (nul_at t)) None) (sym h)

  pub tag_without_nul : position (λ b. eqb b 0) t ≡ None → None ≡ tag_length t
  unfolding good_tag
  tag_without_nul e = decide (ltb (nul_at t) (length t))
      (λ h. let k : ltb (position_or_len (λ b. eqb b 0) t) (length t) ≡ true = rw (← (nul_place t)) h in
      let w : Some (position_or_len (λ b. eqb b 0) t) ≡ None = rw k at e in cc)
      (λ h. bad_length (rw h))

  pub tag_by_nul : (n : ℕ) → position (λ b. eqb b 0) t ≡ Some n → then_some (utf8 (take n t)) n ≡ tag_length t
  unfolding tag_length good_tag
  tag_by_nul n e = decide (ltb (nul_at t) (length t))
      (λ h. let k : ltb (position_or_len (λ b. eqb b 0) t) (length t) ≡ true = rw (← (nul_place t)) h in
      let w : Some (position_or_len (λ b. eqb b 0) t) ≡ Some n = rw k at e in
      let same : nul_at t ≡ n = nul_place t ∙ cc in
      rw (h, same) (either (utf8 (take n t))))
      (λ h. let k : ltb (position_or_len (λ b. eqb b 0) t) (length t) ≡ false = rw (← (nul_place t)) h in
      let w : None ≡ Some n = rw k at e in cc)
    where
      either : (b : Bool) → then_some b n ≡ cond b (Some n) None
      either true = refl
      either false = refl

-- a good tag by its length, and the name in a frame that has one that is not empty
module _ (t : List ℕ) (n : ℕ) (e : tag_length t ≡ Some n) where
  pub good_of : good_tag t ≡ true
  unfolding tag_length
  good_of = decide (good_tag t) (λ g. g) (λ g. let w : None ≡ Some n = rw g at e in cc)

  pub nul_of : nul_at t ≡ n
  unfolding tag_length
  nul_of = let w : Some (nul_at t) ≡ Some n = rw good_of at e in cc

pub name_own : (frame site : List ℕ) → length frame ≡ create_length → field 4 frame 0 ≡ create_type
    → (n : ℕ) → tag_length (tag_in frame) ≡ Some n → (n ≡ 0 → ⊥) → take n (tag_in frame) ≡ display_name frame site
unfolding display_name carries_name
name_own frame site len kind n e z =
    rw (eq-eqb (length frame) create_length len, eq-eqb (field 4 frame 0) create_type kind, good_of (tag_in frame) n e, nul_of (tag_in frame) n e, ne_eqb n 0 z)
