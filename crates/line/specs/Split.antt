-- The lines of a log, and what is kept of a line that is being read.
use Rattle.std.specs.Prelude.{ℕ, suc, Bool, true, false, cond, List, [], ◌∷◌, ◌++◌, eqb, ltb, length, take, Option, None, Some}

-- a byte before the first line of what follows it
abbrev pub prefixed : ℕ → List (List ℕ) → List (List ℕ)
prefixed b [] = (b ∷ []) ∷ []
prefixed b (line ∷ lines) = (b ∷ line) ∷ lines

-- the lines: each ends at byte 10, the last one also where the log ends, unless it is empty
unfoldable pub lines_in : List ℕ → List (List ℕ)
lines_in [] = []
lines_in (b ∷ s) = cond (eqb b 10) ([] ∷ lines_in s) (prefixed b (lines_in s))

-- Reading in pieces

-- the digits of the longest frame; a line of more bytes is over-long
abbrev pub longest_line : ℕ
longest_line = 8378

-- what is kept of a line: all that can be a frame, and one byte more, which shows that the line is over-long
abbrev pub line_room : ℕ
line_room = suc longest_line

unfoldable pub kept : List ℕ → List ℕ
kept line = take line_room line

-- how many bytes stand before the first byte 10; all, where there is none
unfoldable pub line_end : List ℕ → ℕ
line_end [] = 0
line_end (b ∷ s) = cond (eqb b 10) 0 (suc (line_end s))

-- what is taken of a piece: whether a line ended, the bytes used (its byte 10 is one of them), what is kept of the line
pub record Split : Type 0 where
  pub ended : Bool
  pub used : ℕ
  pub line : List ℕ

-- a piece behind what is kept of a line: up to its first byte 10, or all
unfoldable pub split : List ℕ → List ℕ → Split
split line piece =
    let n = line_end piece in
    record { ended = ltb n (length piece); used = cond (ltb n (length piece)) (suc n) n; line = kept (line ++ take n piece) }

-- what `gather` answers of a piece, with the line that it leaves: the bytes used where a line ended, or nothing where all of the piece was kept
abbrev pub gathered : Option ℕ → List ℕ → List ℕ → Split
gathered (Some used) piece line = record { ended = true; used = used; line = line }
gathered None piece line = record { ended = false; used = length piece; line = line }
