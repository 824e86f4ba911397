-- The words of the spent numbers: number n is bit n % 32 of word n / 32 of them.
use Rattle.std.specs.Prelude.{ℕ, zero, suc, ◌+◌, ◌*◌, ◌/◌, ◌%◌, Bool, cond, List, [], ◌∷◌, ◌==◌}
use Rattle.laws.specs.Parts.{pieces, read_pieces}

-- the numbers of a word, and the words
abbrev pub word_numbers : ℕ
word_numbers = 32

abbrev pub spent_size : ℕ
spent_size = 32

-- the word with these bits, the lowest first
unfoldable pub bits_word : List Bool → ℕ
bits_word [] = 0
bits_word (b ∷ bs) = cond b 1 0 + 2 * bits_word bs

-- the words of all numbers: each has the next 32 as its bits
unfoldable pub spent_words : List Bool → List ℕ
spent_words s = read_pieces bits_word word_numbers spent_size s

-- the lowest k bits of a word
unfoldable pub bits_of : ℕ → ℕ → List Bool
bits_of zero w = []
bits_of (suc k) w = (w % 2 == 1) ∷ bits_of k (w / 2)

-- the numbers that words stand for
unfoldable pub decode_spent : List ℕ → List Bool
decode_spent w = pieces (bits_of word_numbers) w
