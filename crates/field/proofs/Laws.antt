-- Laws of little-endian fields, each over the width: of reading by `field_split` and `field_padded`, of storing by `sets_split` and `sets_first`, of both by `field_little_endian`.
use mathlib.Core.Path.{◌≡◌, refl, sym, ap, ◌∙◌}
use mathlib.Core.List.{List, [], ◌∷◌, ◌++◌}
use mathlib.Core.Bool.{true}
use Prim.Native.Nat.{ℕ, zero, suc, ◌+◌, ◌-◌, ◌*◌, ◌/◌, ◌%◌, ◌^◌, ◌≤◌, ◌<◌}
use native.Mathlib.Nat.{add-suc, suc-add, add-zero, zero-add, mul_assoc, pow-suc, one-le-pow, mod-one, mod-eq_of_lt, mul_comm, div-one, div-div-eq-div-mul}
use native.Mathlib.Numerals.{add-one}
use native.Mathlib.Omega.{arith}
use lib.ListN.{length, get_or, take, drop, set, replicate, length-drop}
use lib.Dec.{ltb, lit<}
use borrow.Author.Tests.{ltb-true, lt-ltb}
use lib.Arith.{mod-mul, digits_mod, digits_div}
use lib.Seq.{get_or-drop, get_or-take, get_or-append-add, sets, take_at, length-take-le, paste, paste-suc}
use Rattle.std.specs.Int.{w64, from_le_bytes, to_le_bytes}
use Rattle.laws.specs.Lists.{all_of}
use Rattle.laws.specs.Parts.{with_part}
use Rattle.laws.proofs.Tests.{both}
use Rattle.laws.proofs.Lists.{all_get_d}
use Rattle.laws.proofs.Stores.{sets_append, sets_with_part}
use Rattle.field.specs.Field.{field, little_endian}

-- a field of a + b bytes is the field of its first a and, above it, that of the b after them
pub field_split : (a b : ℕ) (s : List ℕ) (at : ℕ) → field (a + b) s at ≡ field a s at + 256 ^ a * field b s (at + a)
unfolding field
field_split zero b s at = rw (zero-add b, add-zero at) (omega arith)
field_split (suc a) b s at =
    rw (suc-add a b) (rw (field_split a b s (suc at)) (rw (suc-add at a, add-suc at a, pow-suc, mul_comm (256 ^ a) 256) (rw (mul_assoc 256 (256 ^ a)) (omega arith))))

-- a field of one byte is the byte
pub field_one : (s : List ℕ) (at : ℕ) → field 1 s at ≡ get_or s at 0
unfolding field
field_one s at = omega arith

-- a field of a part is the field of the whole, further on
pub field_part : (w : ℕ) (s : List ℕ) (k n at : ℕ) → at + w ≤ n → field w (take n (drop k s)) at ≡ field w s (k + at)
unfolding field
field_part zero s k n at h = refl
field_part (suc w) s k n at h =
    let h₁ : at < n = omega arith in
    let h₂ : suc at + w ≤ n = omega arith in
    rw (field_part w s k n (suc at) h₂, add-suc k at, get_or-take n (drop k s) at 0 h₁, get_or-drop k s at 0)

-- a field of what follows p
pub field_after : (w : ℕ) (p s : List ℕ) (at : ℕ) → field w (p ++ s) (length p + at) ≡ field w s at
unfolding field
field_after zero p s at = refl
field_after (suc w) p s at = rw (get_or-append-add p s at 0, ← add-suc (length p) at, field_after w p s (suc at))

-- a field of zeros is 0
field_zeros : (w : ℕ) (s : List ℕ) (at : ℕ) → ((i : ℕ) → get_or s i 0 ≡ 0) → field w s at ≡ 0
unfolding field
field_zeros zero s at h = refl
field_zeros (suc w) s at h = omega (arith, field_zeros w s (suc at) h, h at)

-- a field of bytes is below 256 ^ w
pub field_fits : (w : ℕ) (s : List ℕ) (at : ℕ) → ((i : ℕ) → get_or s i 0 < 256) → field w s at < 256 ^ w
unfolding field
field_fits zero s at h = lit< tt
field_fits (suc w) s at h = omega (arith, pow-suc 256 w, field_fits w s (suc at) h, h at)

pub field_below : (w : ℕ) (s : List ℕ) (at : ℕ) → all_of (λ b. ltb b 256) s ≡ true → field w s at < 256 ^ w
field_below w s at h = field_fits w s at (λ i. ltb-true (get_or s i 0) 256 (all_get_d (λ b. ltb b 256) s i 0 refl h))

-- the bytes of a number of a + b bytes are those of its a lowest and of the others
pub little_endian_split : (a b n : ℕ) → little_endian (a + b) n ≡ little_endian a n ++ little_endian b (n / 256 ^ a)
unfolding little_endian
little_endian_split zero b n = rw (zero-add, div-one)
little_endian_split (suc a) b n =
    rw (suc-add a b) (rw (little_endian_split a b (n / 256)) (rw (div-div-eq-div-mul, pow-suc, mul_comm (256 ^ a) 256)))

-- the w lowest bytes of n are those of its remainder by 256 ^ w
pub little_endian_mod : (w n : ℕ) → little_endian w (n % 256 ^ w) ≡ little_endian w n
unfolding little_endian
little_endian_mod zero n = refl
little_endian_mod (suc w) n =
    let low : n % 256 < 256 = omega arith in
    rw (pow-suc, mod-mul n {m = 256 ^ w} {c = 256} (one-le-pow w 256 (lit< tt)) (lit< tt))
    (rw (digits_mod (n / 256 % 256 ^ w) low, digits_div (n / 256 % 256 ^ w) low, little_endian_mod w (n / 256)))

-- there are w of them, each below 256
pub length_little_endian : (w n : ℕ) → length (little_endian w n) ≡ w
unfolding little_endian
length_little_endian zero n = refl
length_little_endian (suc w) n = ap suc (length_little_endian w (n / 256))

pub little_endian_bytes : (w n : ℕ) → all_of (λ b. ltb b 256) (little_endian w n) ≡ true
unfolding little_endian
little_endian_bytes zero n = refl
little_endian_bytes (suc w) n = both (lt-ltb (n % 256) 256 (omega arith)) (little_endian_bytes w (n / 256))

-- the field of a number's w lowest bytes is its remainder by 256 ^ w, and a number that has no others is read back
pub field_little_endian : (w n : ℕ) (rest : List ℕ) → field w (little_endian w n ++ rest) 0 ≡ n % 256 ^ w
unfolding field little_endian
field_little_endian zero n rest = sym (mod-one n)
field_little_endian (suc w) n rest =
    rw (field_after w (n % 256 ∷ []) (little_endian w (n / 256) ++ rest) 0, field_little_endian w (n / 256) rest, pow-suc)
    (rw (mod-mul n {m = 256 ^ w} {c = 256} (one-le-pow w 256 (lit< tt)) (lit< tt)) (omega arith))

pub field_back : (w n : ℕ) (rest : List ℕ) → n < 256 ^ w → field w (little_endian w n ++ rest) 0 ≡ n
field_back w n rest h = field_little_endian w n rest ∙ mod-eq_of_lt h

-- a number of a + b bytes is stored by storing its a lowest bytes and then the others
pub sets_split : (a b : ℕ) (d : List ℕ) (at n : ℕ) →
    sets (sets d at (little_endian a (n % 256 ^ a))) (at + a) (little_endian b (n / 256 ^ a)) ≡ sets d at (little_endian (a + b) n)
sets_split a b d at n =
    rw (little_endian_mod a n, little_endian_split a b n, ← (sets_append d at (little_endian a n) (little_endian b (n / 256 ^ a))), length_little_endian a n)

-- a field of w bytes and n zeros is that of the w bytes
field_and_zeros : {k : ℕ} (w n : ℕ) (p q : List ℕ) → k ≡ w + n → length p ≡ w → ((i : ℕ) → get_or q i 0 ≡ 0) → field k (p ++ q) 0 ≡ field w p 0
field_and_zeros w n p q e h z =
    let front : field w (p ++ q) 0 ≡ field w p 0 = sym (field_part w (p ++ q) 0 w 0 (omega arith)) ∙ ap (λ (l : List ℕ). field w l 0) (take_at p q w h) in
    let back : field n (p ++ q) (0 + w) ≡ 0 = rw (← h, zero-add) (rw add-zero at (field_after n p q 0) ∙ field_zeros n q 0 z) in
    rw e (field_split w n (p ++ q) 0 ∙ rw (back, front) (omega arith))

zero_bytes : (n i : ℕ) → ◌≡◌ {A = ℕ} (get_or (replicate n 0) i 0) 0
zero_bytes zero i = refl
zero_bytes (suc n) zero = refl
zero_bytes (suc n) (suc i) = zero_bytes n i

-- the library's number of 8 bytes is their field
library_field : (s : List ℕ) → from_le_bytes w64 s ≡ field 8 s 0
unfolding field
library_field s = omega arith

-- of the 8 bytes the first w are those of s from `at`, and the others 0: it is the field there
pub field_padded : (w : ℕ) (p s : List ℕ) (at : ℕ) → w ≤ 8 → at + w ≤ length s → p ≡ take w (drop at s) → from_le_bytes w64 (p ++ drop w (replicate 8 0)) ≡ field w s at
field_padded w p s at h k e =
    let zeros : List ℕ = drop w (replicate 8 0) in
    let size : length p ≡ w = rw e (length-take-le w (drop at s) (rw length-drop (omega arith))) in
    library_field (p ++ zeros)
    ∙ field_and_zeros w (8 - w) p zeros (omega arith) size (λ i. get_or-drop w (replicate 8 0) i 0 ∙ zero_bytes 8 (w + i))
    ∙ rw e (field_part w s at w 0 (omega arith) ∙ ap (field w s) (add-zero at))

-- the library's 8 bytes of n, and the first w of them
library_bytes : (n : ℕ) → to_le_bytes w64 n ≡ little_endian 8 n
unfolding little_endian
library_bytes n = simp div-div-eq-div-mul

first_bytes : (w n : ℕ) → w ≤ 8 → take w (to_le_bytes w64 n) ≡ little_endian w n
first_bytes w n h =
    let eight : 8 ≡ w + (8 - w) = omega arith in
    ap (take w) (library_bytes n ∙ ap (λ (k : ℕ). little_endian k n) eight ∙ little_endian_split w (8 - w) n)
    ∙ take_at (little_endian w n) (little_endian (8 - w) (n / 256 ^ w)) w (length_little_endian w n)

-- put in the place of the w bytes from `at`, they are stored there
pub sets_first : (w : ℕ) (p d : List ℕ) (at n : ℕ) → w ≤ 8 → at + w ≤ length d → p ≡ take w (to_le_bytes w64 n) → with_part at w d p ≡ sets d at (little_endian w n)
sets_first w p d at n h k e =
    let bytes : p ≡ little_endian w n = e ∙ first_bytes w n h in
    let size : length (little_endian w n) ≡ w = length_little_endian w n in
    rw bytes (sym (rw size at (sets_with_part d (little_endian w n) at (rw size k))))

-- of i bytes of s that are stored from `at` on, one more
pub one_more : {j v : ℕ} {l : List ℕ} (d : List ℕ) (at : ℕ) (s : List ℕ) (i : ℕ) → at + i < length d → i < length s → j ≡ at + i → v ≡ get_or s i 0
    → l ≡ paste d at s i → set l j v ≡ paste d at s (i + 1)
one_more d at s i h k e f p = rw (e, f, p) (paste-suc d at s i 0 h k ∙ ap (paste d at s) (sym (add-one i)))
