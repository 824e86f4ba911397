-- A log that is read in pieces: what is kept between two of them, and what a call on a piece does.
use Rattle.std.specs.Prelude.{ℕ, zero, suc, cond, List, [], ◌∷◌, ◌++◌, length, take, drop}
use Rattle.laws.specs.Lists.{is_empty}
use Rattle.laws.specs.Parts.{pieces}
use Rattle.model.specs.Tables.{Layout}
use Rattle.line.specs.Split.{Split, split}
use Rattle.line.specs.Log.{Logged, line_step, fresh_table}

-- the table, and what is kept of the line that has not ended
pub record Reader : Type 0 where
  pub table : List ℕ
  pub line : List ℕ

-- what a call on a piece does: the bytes used of the piece, the bytes written, the reader that is left
pub record Call : Type 0 where
  pub used : ℕ
  pub text : List ℕ
  pub reader : Reader

-- a line that ended was stepped, and the next one starts empty
abbrev pub step_done : ℕ → Logged → Call
step_done used s = record { used = used; text = s.text; reader = record { table = s.table; line = [] } }

module _ (L : Layout) where
  abbrev pub on_split : List ℕ → Split → Call
  on_split t s = cond s.ended (step_done s.used (line_step L t s.line)) (record { used = s.used; text = []; reader = record { table = t; line = s.line } })

  -- a call takes a piece up to its first byte 10 and steps the line that ends there, or keeps all of the piece
  unfoldable pub on_piece : Reader → List ℕ → Call
  on_piece r piece = on_split r.table (split r.line piece)

  -- the last line is stepped where the log ends, unless it is empty
  unfoldable pub last_step : Reader → Logged
  last_step r = cond (is_empty r.line) (record { text = []; table = r.table }) (line_step L r.table r.line)

  -- what is written then
  abbrev pub at_end : Reader → List ℕ
  at_end r = (last_step r).text

  -- a fresh table, and no line begun
  abbrev pub start : Reader
  start = record { table = fresh_table L; line = [] }

  -- all that calls on these pieces write, one after the other, and then the end of the log
  unfoldable pub calls_output : Reader → List (List ℕ) → List ℕ
  calls_output r [] = at_end r
  calls_output r (p ∷ ps) = (on_piece r p).text ++ calls_output (on_piece r p).reader ps

-- the bytes that a call uses of its piece, and those that all calls use
unfoldable pub used_of : List ℕ → List ℕ
used_of piece = take (split [] piece).used piece

abbrev pub all_used : List (List ℕ) → List ℕ
all_used ps = pieces used_of ps

-- the lines that calls on these pieces end, behind what is kept of a line, and the last one where the log ends, unless it is empty
unfoldable pub lines_read : List ℕ → List (List ℕ) → List (List ℕ)
lines_read line [] = cond (is_empty line) [] (line ∷ [])
lines_read line (p ∷ ps) = cond (split line p).ended ((split line p).line ∷ lines_read [] ps) (lines_read (split line p).line ps)

-- A piece is offered until it is used up: first the whole, then what each call left of it, in at most k calls

unfoldable pub offers_in : ℕ → List ℕ → List (List ℕ)
offers_in zero s = []
offers_in (suc k) [] = []
offers_in (suc k) (b ∷ s) = (b ∷ s) ∷ offers_in k (drop (split [] (b ∷ s)).used (b ∷ s))

-- each call uses a byte or more
abbrev pub offers : List ℕ → List (List ℕ)
offers piece = offers_in (length piece) piece

-- the offers of all the pieces that a log comes in
abbrev pub all_offers : List (List ℕ) → List (List ℕ)
all_offers [] = []
all_offers (p ∷ ps) = offers p ++ all_offers ps
