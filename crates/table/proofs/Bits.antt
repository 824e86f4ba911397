-- Laws of the bits of a word and of the words of the spent numbers. Each is stated over the place of a bit.
use Rattle.std.proofs.Common.{◌≡◌, ℕ, zero, suc, ◌+◌, ◌*◌, ◌/◌, ◌%◌, ◌^◌, ◌<◌, Bool, true, false, cond, eqb, List, [], ◌∷◌, ◌++◌, length, get_or, take, drop, set, sym, refl, ap, ◌∙◌, subst, ap₂, le_of_suc-le-suc, not-suc-le-zero, mul_comm, pow-suc, div-one, arith, length-drop, length-set, take-append-drop, length-take-le, get_or-drop, get_or-take, drop-set-lt, ltb-true, lt-ltb}
use native.Mathlib.Nat.{pow-zero, zero-div, div-div-eq-div-mul}
use lib.Seq.{take-set-le, take-set-lt, drop-set-add}
use Rattle.laws.specs.Lists.{all_of}
use Rattle.laws.specs.Parts.{pieces, read_pieces}
use Rattle.laws.proofs.Pieces.{pieces_length, pieces_read, read_length, read_at}
use Rattle.laws.proofs.Tests.{both}
use Rattle.laws.proofs.Lists.{all_true}
use Rattle.model.specs.Numbers.{stream_numbers}
use Rattle.model.specs.Device.{is_spent, spend}
use Rattle.model.specs.WellFormed.{u32}
use Rattle.table.specs.Spent.{word_numbers, spent_size, bits_word, spent_words, bits_of, decode_spent}

-- A word

pub bits_length : (k w : ℕ) → length (bits_of k w) ≡ k
unfolding bits_of
bits_length zero w = refl
bits_length (suc k) w = ap suc (bits_length k (w / 2))

-- the lowest bit, and the others
module _ (w : ℕ) where
  bit_low : (x : Bool) → eqb ((cond x 1 0 + 2 * w) % 2) 1 ≡ x
  bit_low true = let one : (1 + 2 * w) % 2 ≡ 1 = omega arith in rw one
  bit_low false = let None : (0 + 2 * w) % 2 ≡ 0 = omega arith in rw None

  bit_rest : (x : Bool) → (cond x 1 0 + 2 * w) / 2 ≡ w
  bit_rest true = omega arith
  bit_rest false = omega arith

-- bit b of a word
pub bit_at : (l : List Bool) (b : ℕ) → eqb (bits_word l / 2 ^ b % 2) 1 ≡ get_or l b false
unfolding bits_word
bit_at [] b = rw (zero-div (2 ^ b))
bit_at (x ∷ l) zero = rw (pow-zero 2, div-one (cond x 1 0 + 2 * bits_word l)) (bit_low (bits_word l) x)
bit_at (x ∷ l) (suc b) =
    let w = cond x 1 0 + 2 * bits_word l in
    ap (λ (d : ℕ). eqb (w / d % 2) 1) (pow-suc 2 b ∙ mul_comm (2 ^ b) 2)
    ∙ ap (λ (q : ℕ). eqb (q % 2) 1) (sym (div-div-eq-div-mul w 2 (2 ^ b)) ∙ ap (λ (y : ℕ). y / 2 ^ b) (bit_rest (bits_word l) x))
    ∙ bit_at l b

-- a word is below the power of its bits
pub bits_below : (l : List Bool) → bits_word l < 2 ^ length l
unfolding bits_word
bits_below [] = rw (pow-zero 2) (omega arith)
bits_below (true ∷ l) = omega (arith, pow-suc 2 (length l), bits_below l)
bits_below (false ∷ l) = omega (arith, pow-suc 2 (length l), bits_below l)

-- bit b set where it was not
pub bits_set : (l : List Bool) (b : ℕ) → b < length l → get_or l b false ≡ false → bits_word (set l b true) ≡ bits_word l + 2 ^ b
unfolding bits_word
bits_set [] b h e = absurd (not-suc-le-zero h)
bits_set (x ∷ l) zero h e = rw (e, pow-zero 2) (omega arith)
bits_set (x ∷ l) (suc b) h e = omega (arith, bits_set l b (le_of_suc-le-suc h) e, pow-suc 2 b)

-- a word and its bits stand for each other
pub word_bits : (l : List Bool) → bits_of (length l) (bits_word l) ≡ l
unfolding bits_of bits_word
word_bits [] = refl
word_bits (x ∷ l) = ap₂ (λ (y : Bool) (m : List Bool). y ∷ m) (bit_low (bits_word l) x) (ap (bits_of (length l)) (bit_rest (bits_word l) x) ∙ word_bits l)

pub bits_word_lem : (k w : ℕ) → w < 2 ^ k → bits_word (bits_of k w) ≡ w
unfolding bits_of bits_word
bits_word_lem zero w h = let None : w < 1 = rw (pow-zero 2) at h in omega (arith, None)
bits_word_lem (suc k) w h =
    let next : w / 2 < 2 ^ k = omega (arith, pow-suc 2 k, h) in
    ap (λ (y : ℕ). cond (eqb (w % 2) 1) 1 0 + 2 * y) (bits_word_lem k (w / 2) next) ∙ parts (w % 2) refl
  where
    parts : (r : ℕ) → w % 2 ≡ r → cond (eqb r 1) 1 0 + 2 * (w / 2) ≡ w
    parts zero e = omega (arith, e)
    parts (suc zero) e = omega (arith, e)
    parts (suc (suc r)) e = absurd (omega (arith, e))

-- a bit that is not set may be added
pub bit_fits : (k w b : ℕ) → w < 2 ^ k → b < k → eqb (w / 2 ^ b % 2) 1 ≡ false → w + 2 ^ b < 2 ^ k
bit_fits k w b h l e =
    let bits = bits_of k w in
    let is : bits_word bits ≡ w = bits_word_lem k w h in
    let off : get_or bits b false ≡ false = sym (bit_at bits b) ∙ ap (λ (x : ℕ). eqb (x / 2 ^ b % 2) 1) is ∙ e in
    let long : length (set bits b true) ≡ k = length-set bits b true ∙ bits_length k w in
    let sum : bits_word (set bits b true) ≡ bits_word bits + 2 ^ b = bits_set bits b (omega (arith, bits_length k w, l)) off in
    omega (arith, subst (λ (m : ℕ). bits_word (set bits b true) < 2 ^ m) long (bits_below (set bits b true)), sum, is)

-- The words of the numbers

abbrev number_words : ℕ → List Bool → List ℕ
number_words = read_pieces bits_word word_numbers

-- the words with one number more that is spent
words_set : (k : ℕ) (s : List Bool) (i b : ℕ) → length s ≡ word_numbers * k → i < k → b < word_numbers → get_or s (word_numbers * i + b) false ≡ false
    → number_words k (set s (word_numbers * i + b) true) ≡ set (number_words k s) i (get_or (number_words k s) i 0 + 2 ^ b)
unfolding read_pieces
words_set zero s i b long h l e = absurd (not-suc-le-zero h)
words_set (suc k) s zero b long h l e =
    let at : word_numbers * 0 + b ≡ b = omega arith in
    ap (λ (m : ℕ). number_words (suc k) (set s m true)) at
    ∙ ap₂ (λ (w : ℕ) (ws : List ℕ). w ∷ ws)
    (ap bits_word (take-set-lt word_numbers s b true l)
    ∙ bits_set (take word_numbers s) b (omega (arith, length-take-le word_numbers s (omega (arith, long)), l)) (get_or-take word_numbers s b false l ∙ ap (λ (m : ℕ). get_or s m false) (sym at) ∙ e))
    (ap (number_words k) (drop-set-lt word_numbers s b true l))
words_set (suc k) s (suc i) b long h l e =
    let at : word_numbers * suc i + b ≡ word_numbers + (word_numbers * i + b) = omega arith in
    ap (λ (m : ℕ). number_words (suc k) (set s m true)) at
    ∙ ap₂ (λ (w : ℕ) (ws : List ℕ). w ∷ ws)
    (ap bits_word (take-set-le word_numbers s (word_numbers + (word_numbers * i + b)) true (omega arith)))
    (ap (number_words k) (drop-set-add word_numbers s (word_numbers * i + b) true)
    ∙ words_set k (drop word_numbers s) i b (omega (arith, length-drop word_numbers s, long)) (le_of_suc-le-suc h) l
    (get_or-drop word_numbers s (word_numbers * i + b) false ∙ ap (λ (m : ℕ). get_or s m false) (sym at) ∙ e))

-- words and numbers stand for each other
read_numbers : (k : ℕ) (s : List Bool) → length s ≡ word_numbers * k → decode_spent (number_words k s) ≡ s
unfolding read_pieces decode_spent pieces
read_numbers zero [] long = refl
read_numbers zero (x ∷ s) long = absurd (omega (arith, long))
read_numbers (suc k) s long =
    let first : length (take word_numbers s) ≡ word_numbers = length-take-le word_numbers s (omega (arith, long)) in
    ap₂ (λ (x y : List Bool). x ++ y)
    (ap (λ (m : ℕ). bits_of m (bits_word (take word_numbers s))) (sym first) ∙ word_bits (take word_numbers s))
    (read_numbers k (drop word_numbers s) (omega (arith, length-drop word_numbers s, long)))
    ∙ take-append-drop word_numbers s

words_below : (k : ℕ) (s : List Bool) → length s ≡ word_numbers * k → all_of u32 (number_words k s) ≡ true
unfolding read_pieces u32
words_below zero s long = refl
words_below (suc k) s long =
    let first : length (take word_numbers s) ≡ word_numbers = length-take-le word_numbers s (omega (arith, long)) in
    both (lt-ltb (bits_word (take word_numbers s)) (2 ^ 32) (rw first at (bits_below (take word_numbers s)))) (words_below k (drop word_numbers s) (omega (arith, length-drop word_numbers s, long)))

-- The spent numbers of a device

pub spent_length : (s : List Bool) → length (spent_words s) ≡ spent_size
unfolding spent_words
spent_length s = read_length bits_word word_numbers spent_size s

pub decode_spent_lem : (s : List Bool) → length s ≡ stream_numbers → decode_spent (spent_words s) ≡ s
unfolding spent_words
decode_spent_lem s long = read_numbers spent_size s long

pub spent_narrow : (s : List Bool) → length s ≡ stream_numbers → all_of u32 (spent_words s) ≡ true
unfolding spent_words
spent_narrow s long = words_below spent_size s long

-- each word of a lent slice is below 2^32
pub all_words : (l : List ℕ) → ((i : ℕ) → get_or l i 0 < 2 ^ 32) → all_of u32 l ≡ true
unfolding u32
all_words [] h = refl
all_words (x ∷ l) h = both (lt-ltb x (2 ^ 32) (h 0)) (all_words l (λ i. h (suc i)))

-- any words of 32 bits stand for numbers
module _ (w : List ℕ) (size : length w ≡ spent_size) where
  pub spent_decoded : length (decode_spent w) ≡ stream_numbers
  unfolding decode_spent
  spent_decoded = omega (arith, pieces_length (bits_of word_numbers) word_numbers (λ _. true) (λ x _. bits_length word_numbers x) w (all_true w), size)

  pub spent_again : all_of u32 w ≡ true → spent_words (decode_spent w) ≡ w
  unfolding spent_words decode_spent u32
  spent_again h =
      ap (λ (k : ℕ). number_words k (decode_spent w)) (sym size)
      ∙ pieces_read (bits_of word_numbers) word_numbers u32 (λ x _. bits_length word_numbers x) bits_word (λ x e. bits_word_lem word_numbers x (ltb-true x (2 ^ 32) e)) w h

-- the bit of number n in these words
unfoldable pub number_bit : ℕ → List ℕ → Bool
number_bit n w = eqb (get_or w (n / word_numbers) 0 / 2 ^ (n % word_numbers) % 2) 1

module _ (s : List Bool) (long : length s ≡ stream_numbers) (n : ℕ) (h : n < stream_numbers) where
  -- a number's word and bit
  parts : word_numbers * (n / word_numbers) + n % word_numbers ≡ n
  parts = omega arith

  pub bit_spent : number_bit n (spent_words s) ≡ is_spent n s
  unfolding number_bit spent_words is_spent
  bit_spent =
      ap (λ (w : ℕ). eqb (w / 2 ^ (n % word_numbers) % 2) 1) (read_at bits_word word_numbers spent_size s (n / word_numbers) 0 (omega arith))
      ∙ bit_at (take word_numbers (drop (word_numbers * (n / word_numbers)) s)) (n % word_numbers)
      ∙ get_or-take word_numbers (drop (word_numbers * (n / word_numbers)) s) (n % word_numbers) false (omega arith)
      ∙ get_or-drop (word_numbers * (n / word_numbers)) s (n % word_numbers) false
      ∙ ap (λ (m : ℕ). get_or s m false) parts

  pub spend_words : is_spent n s ≡ false → spent_words (spend n s) ≡ set (spent_words s) (n / word_numbers) (get_or (spent_words s) (n / word_numbers) 0 + 2 ^ (n % word_numbers))
  unfolding spent_words is_spent spend
  spend_words e =
      ap (λ (m : ℕ). number_words spent_size (set s m true)) (sym parts)
      ∙ words_set spent_size s (n / word_numbers) (n % word_numbers) long (omega arith) (omega arith) (ap (λ (m : ℕ). get_or s m false) parts ∙ e)

-- and so in any words of 32 bits
pub bit_decoded : (w : List ℕ) → length w ≡ spent_size → ((i : ℕ) → get_or w i 0 < 2 ^ 32) → (n : ℕ) → n < stream_numbers → number_bit n w ≡ is_spent n (decode_spent w)
bit_decoded w size narrow n h =
    ap (number_bit n) (sym (spent_again w size (all_words w narrow))) ∙ bit_spent (decode_spent w) (spent_decoded w size) n h
