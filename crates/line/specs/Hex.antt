-- Hexadecimal text: digits of either case are read, lower case is written.
use Rattle.std.specs.Prelude.{ℕ, ◌+◌, ◌*◌, ◌-◌, ◌/◌, ◌%◌, Bool, true, false, cond, ◌&&◌, List, [], ◌∷◌, ltb}
use Rattle.laws.specs.Tests.{within}
use Rattle.laws.specs.Parts.{pieces}

-- the number of a digit: 0 to 9, A to F, a to f; 16 for any other byte
unfoldable pub digit_of : ℕ → ℕ
digit_of b = cond (within b 48 57) (b - 48) (cond (within b 65 70) (b - 55) (cond (within b 97 102) (b - 87) 16))

abbrev pub is_digit : ℕ → Bool
is_digit b = ltb (digit_of b) 16

-- an even number of digits and nothing else
unfoldable pub is_hex : List ℕ → Bool
is_hex [] = true
is_hex (h ∷ []) = false
is_hex (h ∷ l ∷ s) = is_digit h && (is_digit l && is_hex s)

-- the bytes that digits stand for, two to a byte, the high one first
unfoldable pub hex_bytes : List ℕ → List ℕ
hex_bytes [] = []
hex_bytes (h ∷ []) = []
hex_bytes (h ∷ l ∷ s) = (16 * digit_of h + digit_of l) ∷ hex_bytes s

-- the digit of a number below 16: 0 to 9, a to f
unfoldable pub lower_digit : ℕ → ℕ
lower_digit n = cond (ltb n 10) (48 + n) (87 + n)

-- the two digits of a byte
unfoldable pub hex_pair : ℕ → List ℕ
hex_pair b = lower_digit (b / 16) ∷ lower_digit (b % 16) ∷ []

-- the text of bytes
abbrev pub hex_text : List ℕ → List ℕ
hex_text bytes = pieces hex_pair bytes
