-- Rules of a valid table in the form in which the test looks at them.
use Rattle.std.specs.Prelude.{◌≡◌, Bool, true, false, cond, ◌&&◌, List, ℕ, ◌+◌, ◌*◌, ◌%◌, length, get_or, drop, eqb}
use Rattle.std.specs.Prelude.{Option, None, Some}
use Rattle.laws.specs.Lists.{same, numbers_in, stands_in, distinct}
use Rattle.laws.specs.Tests.{all_below}
use Rattle.laws.specs.Parts.{part, read_pieces}
use Rattle.model.specs.Numbers.{stream_places}
use Rattle.model.specs.Device.{pending_at}
use Rattle.model.specs.WellFormed.{good_place, spent_in}
use Rattle.table.specs.Spent.{decode_spent}
use Rattle.table.specs.Figures.{first_mark, first_figure, place_mark}
use Rattle.table.specs.Blocks.{place_size, head_words, drain_in, place_words, decode_place}

-- eight words are the head of the live stream that they stand for
abbrev pub head_stands : List ℕ → Bool
head_stands h = same h (head_words (get_or h 1 0) (get_or h 2 0) (drain_in (get_or h 3 0) (get_or h 4 0)))

-- words are those of the place that they stand for
abbrev pub place_stands : List ℕ → Bool
place_stands w = same w (place_words (decode_place w))

-- by the words of the spent numbers the place is vacant, or the number of its stream is spent
unfoldable pub place_spent : List ℕ → List ℕ → Bool
place_spent spent w = spent_in (decode_spent spent) (decode_place w)

-- words are those of a place that keeps the rules
unfoldable pub place_valid : List ℕ → List ℕ → Bool
place_valid spent w = place_stands w && (good_place (decode_place w) && place_spent spent w)

-- and the mark and the figure are those of the place
unfoldable pub place_right : List ℕ → ℕ → ℕ → List ℕ → Bool
place_right spent mark figure w = place_valid spent w && (eqb mark (place_mark (decode_place w)) && eqb figure (pending_at (decode_place w)))

-- the number in an element's words: none where the first is 0, otherwise the second
abbrev pub words_number : List ℕ → Option ℕ
words_number w = cond (eqb (get_or w 0 0) 0) None (Some (get_or w 1 0))

-- the numbers in `count` elements of `step` words each, from element i on
unfoldable pub numbers_from : ℕ → ℕ → ℕ → List ℕ → List ℕ
numbers_from i step count w = numbers_in words_number (drop i (read_pieces (λ x. x) step count w))

-- the words of eight blocks are those of places that keep the rules, and no stream number stands twice
unfoldable pub blocks_valid : List ℕ → List ℕ → Bool
blocks_valid spent w = all_below stream_places (λ k. place_valid spent (part (place_size * k) place_size w)) && distinct (numbers_from 0 place_size stream_places w)

-- and the figures give the mark and the figure of each
unfoldable pub blocks_right : List ℕ → List ℕ → List ℕ → Bool
blocks_right spent figures w =
    all_below stream_places (λ k. place_right spent (get_or figures (first_mark + k) 0) (get_or figures (first_figure + k) 0) (part (place_size * k) place_size w)) && distinct (numbers_from 0 place_size stream_places w)

-- Sixty-four marks. Each number leaves one, so that a number whose mark is missing is new.

-- the numbers are distinct, and each has left its mark
pub record Apart (marks : List Bool) (l : List ℕ) : Type 0 where
  pub size : length marks ≡ 64
  pub once : distinct l ≡ true
  pub marked : (n : ℕ) → stands_in n l ≡ true → get_or marks (n % 64) false ≡ true

-- what the test of one element more says of numbers that were apart: now one stands twice, or they still are
pub record Told (r : Bool) (marks : List Bool) (l : List ℕ) : Type 0 where
  pub again : r ≡ true → distinct l ≡ false
  pub apart : r ≡ false → Apart marks l
