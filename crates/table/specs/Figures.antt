-- The figures of pending answers (document 02), which stand behind the blocks so that a question need not go through the records; and what the questions
-- give on any words. A figure is how many answers are pending. The figures follow from the places.
use Rattle.std.specs.Prelude.{◌≡◌, ℕ, suc, ◌+◌, cond, List, [], ◌∷◌, ◌++◌, map, length, nat_eq, nat_lt, slice_index}
use Rattle.std.specs.Prelude.{Option, None, Some}
use Rattle.laws.specs.Lists.{Each, position, to_list, numbers_below}
use Rattle.laws.specs.Parts.{part}
use Rattle.model.specs.Numbers.{table_words, stream_places}
use Rattle.model.specs.Device.{Place, vacant, occupied, pending_at, pending_among}
use Rattle.table.specs.declared.figures.PendingFigure.{PendingFigure}

-- where they stand in the table: the total, a mark for each place, a figure for each place
abbrev pub total_at : ℕ
total_at = 4129

abbrev pub marks_at : ℕ
marks_at = 4130

abbrev pub place_figures_at : ℕ
place_figures_at = 4138

-- how many words they are, and the first mark and the first figure of a place among them
abbrev pub figures_size : ℕ
figures_size = 17

abbrev pub first_mark : ℕ
first_mark = 1

abbrev pub first_figure : ℕ
first_figure = 9

-- a place's mark says in one word whether it is vacant and whose it is: 0, or the number of its stream and 1
abbrev pub place_mark : Place → ℕ
place_mark vacant = 0
place_mark (occupied n b) = suc n

-- the total, the marks, the figures of places
unfoldable pub figure_words : List Place → List ℕ
figure_words ps = pending_among ps ∷ (map place_mark ps ++ map pending_at ps)

-- Questions

-- the place of a stream number by the marks: the lowest that has the number's
unfoldable pub marked_place : List ℕ → ℕ → Option ℕ
marked_place t n = position (λ w. nat_eq w (suc n)) (part marks_at stream_places t)

-- the places that a question visits, in order: up to that one, vacant ones too, or all of them
abbrev pub places_visited : Option ℕ → List ℕ
places_visited None = numbers_below stream_places
places_visited (Some k) = numbers_below (suc k)

-- the words of the table that it reads: the mark of each place that it visits, and the figure of the one that was found
abbrev pub words_read : Option ℕ → List ℕ
words_read found = map (λ k. marks_at + k) (places_visited found) ++ map (λ k. place_figures_at + k) (to_list found)

-- what that figure is; an unknown stream has 0
abbrev pub figure_found : List ℕ → Option ℕ → ℕ
figure_found t None = 0
figure_found t (Some k) = slice_index t (place_figures_at + k)

-- refusal 1: nothing is read
abbrev pub not_read : PendingFigure
not_read = record { refusal = 1; pending = 0; reads = 0 }

-- that, where the table is too short; else a figure, and how many words were read for it. No other test is made.
abbrev pub figure_read : List ℕ → ℕ → List ℕ → PendingFigure
figure_read t figure words = cond (nat_lt (length t) table_words) not_read (record { refusal = 0; pending = figure; reads = length words })

-- how many answers are pending in all
unfoldable pub asked_in_all : List ℕ → PendingFigure
asked_in_all t = figure_read t (slice_index t total_at) (total_at ∷ [])

-- how many are pending to a stream
unfoldable pub asked_of_stream : List ℕ → ℕ → PendingFigure
asked_of_stream t n = let found = marked_place t n in figure_read t (figure_found t found) (words_read found)

-- two tables have the same words at these places
abbrev pub AgreeOn : List ℕ → List ℕ → List ℕ → Type 0
AgreeOn t u words = Each (λ i. slice_index t i ≡ slice_index u i) words
