-- A log that is checked in pieces, as the code does it: its numbers of lines have 64 bits.
use Rattle.std.specs.Prelude.{ℕ, ◌-◌, ◌^◌, min, cond, List, [], ◌∷◌}
use Rattle.laws.specs.Lists.{is_empty}
use Rattle.model.specs.Tables.{Layout}
use Rattle.line.specs.Split.{Split, split}
use Rattle.log_verdict.specs.Checking.{LogVerdict, accepted_log, wrong_line, CheckState, right_so_far, stopped_at, check_line, opening, conclude}

-- the last number of a line; every later one gets it too
abbrev pub last_number : ℕ
last_number = 2 ^ 64 - 1

abbrev pub in64 : CheckState → CheckState
in64 (right_so_far t due n) = right_so_far t due (min n last_number)
in64 (stopped_at f n) = stopped_at f (min n last_number)

abbrev pub verdict_in64 : LogVerdict → LogVerdict
verdict_in64 accepted_log = accepted_log
verdict_in64 (wrong_line f n) = wrong_line f (min n last_number)

-- how the check stands, and what is kept of the line that has not ended
pub record CheckReader : Type 0 where
  pub state : CheckState
  pub line : List ℕ

module _ (L : Layout) where
  unfoldable pub check_in64 : CheckState → List ℕ → CheckState
  check_in64 s line = in64 (check_line L s line)

  -- all lines of a log
  unfoldable pub check_lines_in64 : CheckState → List (List ℕ) → CheckState
  check_lines_in64 s [] = s
  check_lines_in64 s (line ∷ lines) = check_lines_in64 (check_in64 s line) lines

  -- a call takes a piece up to its first byte 10 and checks the line that ends there, or keeps all of the piece
  abbrev pub on_split_line : CheckState → Split → CheckReader
  on_split_line s p = cond p.ended (record { state = check_in64 s p.line; line = [] }) (record { state = s; line = p.line })

  unfoldable pub check_piece : CheckReader → List ℕ → CheckReader
  check_piece c piece = on_split_line c.state (split c.line piece)

  -- the last line is checked where the log ends, unless it is empty
  unfoldable pub check_last : CheckReader → CheckState
  check_last c = cond (is_empty c.line) c.state (check_in64 c.state c.line)

  -- no line begun
  abbrev pub check_start : CheckReader
  check_start = record { state = opening L; line = [] }

  -- the verdict of calls on these pieces, one after the other, and then the end of the log
  unfoldable pub calls_verdict : CheckReader → List (List ℕ) → LogVerdict
  calls_verdict c [] = conclude (check_last c)
  calls_verdict c (p ∷ ps) = calls_verdict (check_piece c p) ps
