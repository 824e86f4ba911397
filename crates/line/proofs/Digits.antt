-- Laws of hexadecimal text, two digits at a time.
use mathlib.Core.Path.{◌≡◌, refl, sym, ap}
use mathlib.Core.Bool.{true, false, and-false}
use mathlib.Core.List.{List, [], ◌∷◌}
use Prim.Native.Nat.{ℕ, zero, suc, ◌+◌, ◌*◌, ◌-◌, ◌/◌, ◌%◌, ◌<◌}
use native.Mathlib.Nat.{mul-suc}
use native.Mathlib.Omega.{arith}
use lib.Dec.{ltb}
use lib.ListN.{length, get_or, take, drop}
use borrow.Author.Tests.{ltb-true, lt-ltb}
use Rattle.std.specs.List.{list_all}
use Rattle.laws.specs.Lists.{all_of}
use Rattle.laws.proofs.Tests.{never, both, and_left, and_right}
use Rattle.laws.proofs.Lists.{all_true}
use Rattle.laws.proofs.Pieces.{pieces_length}
use Rattle.line.specs.Hex.{digit_of, is_digit, is_hex, hex_bytes, hex_pair, hex_text}

-- an even number of bytes is hexadecimal where each is a digit, and an odd number never is
pub hex_by_digits : (s : List ℕ) → length s % 2 ≡ 0 → list_all is_digit s ≡ is_hex s
unfolding is_hex
hex_by_digits [] e = refl
hex_by_digits (h ∷ []) e = absurd (omega arith)
hex_by_digits (h ∷ l ∷ s) e = rw (hex_by_digits s (omega arith))

pub hex_odd : (s : List ℕ) → (length s % 2 ≡ 0 → ⊥) → false ≡ is_hex s
unfolding is_hex
hex_odd [] e = absurd (e refl)
hex_odd (h ∷ []) e = refl
hex_odd (h ∷ l ∷ s) e = rw (← hex_odd s (λ x. e (omega arith)), and-false (is_digit l), and-false (is_digit h))

double : (n : ℕ) → 2 * suc n ≡ suc (suc (2 * n))
double n = omega (arith, mul-suc 2 n)

pub length_bytes : (s : List ℕ) → length (hex_bytes s) ≡ length s / 2
unfolding hex_bytes
length_bytes [] = refl
length_bytes (h ∷ []) = refl
length_bytes (h ∷ l ∷ s) = omega (arith, length_bytes s)

-- the byte at a place
pub byte_is : (s : List ℕ) (i : ℕ) → suc (2 * i) < length s → get_or (hex_bytes s) i 0 ≡ 16 * digit_of (get_or s (2 * i) 0) + digit_of (get_or s (suc (2 * i)) 0)
unfolding hex_bytes
byte_is [] i b = absurd (omega arith)
byte_is (h ∷ []) i b = absurd (omega arith)
byte_is (h ∷ l ∷ s) zero b = refl
byte_is (h ∷ l ∷ s) (suc i) b = rw (double i) (byte_is s i (omega (arith, double i)))

-- the bytes from n on, and the first n
pub bytes_drop : (n : ℕ) (s : List ℕ) → hex_bytes (drop (2 * n) s) ≡ drop n (hex_bytes s)
unfolding hex_bytes
bytes_drop zero s = refl
bytes_drop (suc n) [] = rw (double n)
bytes_drop (suc n) (h ∷ []) = rw (double n)
bytes_drop (suc n) (h ∷ l ∷ s) = rw (double n) (bytes_drop n s)

pub bytes_take : (n : ℕ) (s : List ℕ) → hex_bytes (take (2 * n) s) ≡ take n (hex_bytes s)
unfolding hex_bytes
bytes_take zero s = refl
bytes_take (suc n) [] = rw (double n)
bytes_take (suc n) (h ∷ []) = rw (double n)
bytes_take (suc n) (h ∷ l ∷ s) = rw (double n) (ap (λ (r : List ℕ). (16 * digit_of h + digit_of l) ∷ r) (bytes_take n s))

-- parts of digits are digits
pub hex_drop : (n : ℕ) (s : List ℕ) → is_hex s ≡ true → is_hex (drop (2 * n) s) ≡ true
unfolding is_hex
hex_drop zero s e = e
hex_drop (suc n) [] e = rw (double n)
hex_drop (suc n) (h ∷ []) e = never (sym e)
hex_drop (suc n) (h ∷ l ∷ s) e = rw (double n) (hex_drop n s (and_right (is_digit l) (is_hex s) (and_right (is_digit h) _ e)))

pub hex_take : (n : ℕ) (s : List ℕ) → is_hex s ≡ true → is_hex (take (2 * n) s) ≡ true
unfolding is_hex
hex_take zero s e = refl
hex_take (suc n) [] e = rw (double n)
hex_take (suc n) (h ∷ []) e = never (sym e)
hex_take (suc n) (h ∷ l ∷ s) e =
    let r = and_right (is_digit h) _ e in
    rw (double n) (both (and_left (is_digit h) _ e) (both (and_left (is_digit l) (is_hex s) r) (hex_take n s (and_right (is_digit l) (is_hex s) r))))

-- there is an even number of them, each below 16, and so each byte is below 256
pub hex_even : (s : List ℕ) → is_hex s ≡ true → 2 * (length s / 2) ≡ length s
unfolding is_hex
hex_even [] e = refl
hex_even (h ∷ []) e = never (sym e)
hex_even (h ∷ l ∷ s) e = omega (arith, hex_even s (and_right (is_digit l) (is_hex s) (and_right (is_digit h) _ e)))

pub digit_at : (s : List ℕ) (i : ℕ) → is_hex s ≡ true → i < length s → digit_of (get_or s i 0) < 16
unfolding is_hex
digit_at [] i e b = absurd (omega arith)
digit_at (h ∷ []) i e b = never (sym e)
digit_at (h ∷ l ∷ s) zero e b = ltb-true (digit_of h) 16 (and_left (is_digit h) _ e)
digit_at (h ∷ l ∷ s) (suc zero) e b = ltb-true (digit_of l) 16 (and_left (is_digit l) (is_hex s) (and_right (is_digit h) _ e))
digit_at (h ∷ l ∷ s) (suc (suc i)) e b = digit_at s i (and_right (is_digit l) (is_hex s) (and_right (is_digit h) _ e)) (omega arith)

pub bytes_below : (s : List ℕ) → is_hex s ≡ true → all_of (λ b. ltb b 256) (hex_bytes s) ≡ true
unfolding is_hex hex_bytes
bytes_below [] e = refl
bytes_below (h ∷ []) e = refl
bytes_below (h ∷ l ∷ s) e =
    let r = and_right (is_digit h) _ e in
    let a = ltb-true (digit_of h) 16 (and_left (is_digit h) _ e) in
    let b = ltb-true (digit_of l) 16 (and_left (is_digit l) (is_hex s) r) in
    both (lt-ltb (16 * digit_of h + digit_of l) 256 (omega arith)) (bytes_below s (and_right (is_digit l) (is_hex s) r))

-- two digits to a byte
pub pair_length : (b : ℕ) → length (hex_pair b) ≡ 2
unfolding hex_pair
pair_length b = refl

pub length_text : (bytes : List ℕ) → length (hex_text bytes) ≡ 2 * length bytes
length_text bytes = pieces_length hex_pair 2 (λ b. true) (λ b _. pair_length b) bytes (all_true bytes)
