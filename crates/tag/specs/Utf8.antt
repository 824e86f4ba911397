-- UTF-8 by RFC 3629, section 4: the rows of its grammar as a table, the class of an octet, and the test of a run of octets.
use Rattle.std.specs.Prelude.{Bool, cond, ◌&&◌, List, [], ◌∷◌, ℕ, zero, suc, ltb, eqb, get_or}
use Rattle.laws.specs.Tests.{within}

-- a row of the grammar: first octets from..to, how many tails follow, and the range lo..hi of the first of them
pub record Row : Type 0 where
  pub from : ℕ
  pub to : ℕ
  pub tails : ℕ
  pub lo : ℕ
  pub hi : ℕ

abbrev pub row : ℕ → ℕ → ℕ → ℕ → ℕ → Row
row a b n l h = record { from = a; to = b; tails = n; lo = l; hi = h }

-- UTF8-tail: 0x80..0xBF, also the range of a tail where a row names no other
abbrev pub tail_lo : ℕ
tail_lo = 0x80

abbrev pub tail_hi : ℕ
tail_hi = 0xBF

-- UTF8-1, UTF8-2, UTF8-3 (four rows), UTF8-4 (three rows)
abbrev pub rows : List Row
rows =
    row 0x00 0x7F 0 tail_lo tail_hi
    ∷ row 0xC2 0xDF 1 tail_lo tail_hi
    ∷ row 0xE0 0xE0 2 0xA0 tail_hi
    ∷ row 0xE1 0xEC 2 tail_lo tail_hi
    ∷ row 0xED 0xED 2 tail_lo 0x9F
    ∷ row 0xEE 0xEF 2 tail_lo tail_hi
    ∷ row 0xF0 0xF0 3 0x90 tail_hi
    ∷ row 0xF1 0xF3 3 tail_lo tail_hi
    ∷ row 0xF4 0xF4 3 tail_lo 0x8F
    ∷ []

-- row k, counted from 0; past the last there is none, and its numbers are 0
abbrev pub no_row : Row
no_row = row 0 0 0 0 0

abbrev pub row_at : ℕ → Row
row_at k = get_or rows k no_row

-- the octet is a first octet of the row
abbrev pub begins : ℕ → Row → Bool
begins b r = within b r.from r.to

-- the place of the first row that the octet begins, or how many rows there are
abbrev pub place_of : ℕ → List Row → ℕ
place_of b [] = 0
place_of b (r ∷ rs) = cond (begins b r) 0 (suc (place_of b rs))

-- the class of an octet: the row that it begins, or 9 where it begins none
unfoldable pub class_of : ℕ → ℕ
class_of b = place_of b rows

-- n tails are missing, the next of them within lo..hi, and then whole characters
unfoldable pub utf8_after : ℕ → ℕ → ℕ → List ℕ → Bool
utf8_after n lo hi [] = eqb n 0
utf8_after zero lo hi (b ∷ bs) =
    let r = row_at (class_of b) in
    ltb (class_of b) 9 && utf8_after r.tails r.lo r.hi bs
utf8_after (suc n) lo hi (b ∷ bs) = within b lo hi && utf8_after n tail_lo tail_hi bs

-- the octets are whole characters
unfoldable pub utf8 : List ℕ → Bool
utf8 bs = utf8_after 0 tail_lo tail_hi bs
