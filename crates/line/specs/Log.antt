-- The log: from all the bytes that are read to all the bytes that are written, over any layout of the table.
use Rattle.std.specs.Prelude.{ℕ, ◌≡◌, cond, List, [], ◌∷◌, ◌++◌, eqb, take}
use Rattle.laws.specs.Parts.{pieces, zeros}
use Rattle.field.specs.Field.{little_endian}
use Rattle.model.specs.Numbers.{table_words, answer_room}
use Rattle.model.specs.Answers.{Written, answers_in, rewritten}
use Rattle.model.specs.Tables.{Layout, Effect, effect, freshen}
use Rattle.line.specs.Hex.{hex_text}
use Rattle.line.specs.Line.{Line, step_line, refused_line, line_of}
use Rattle.line.specs.Split.{lines_in}

-- What is written

-- 80 ticket response, and byte 10
unfoldable pub answer_line : Written → List ℕ
answer_line w = hex_text (0x80 ∷ (little_endian 4 w.ticket ++ w.response)) ++ 10 ∷ []

-- ff and the number of a refusal, and byte 10
unfoldable pub refusal_line : ℕ → List ℕ
refusal_line k = hex_text (0xff ∷ k ∷ []) ++ 10 ∷ []

-- a line for each answer that stands in bytes
unfoldable pub answer_lines : List ℕ → List ℕ
answer_lines bytes = pieces answer_line (answers_in bytes)

-- the bytes are answers, the last one not cut off
abbrev pub Whole : List ℕ → Type 0
Whole bytes = rewritten (answers_in bytes) ≡ bytes

-- the lines of a step: its answers, or its refusal
abbrev pub shown : ℕ → List ℕ → List ℕ
shown refusal bytes = cond (eqb refusal 0) (answer_lines bytes) (refusal_line refusal)

-- What a line does

-- the bytes written, and the table that is left
pub record Logged : Type 0 where
  pub text : List ℕ
  pub table : List ℕ

-- what a step shows and leaves
abbrev pub stepped : Effect → Logged
stepped e = record { text = shown e.refusal (take e.written e.room); table = e.table }

module _ (L : Layout) where
  -- a step is lent a room of zeros, of which only the bytes written are shown; a refused line leaves the table
  abbrev pub on_line : List ℕ → Line → Logged
  on_line t (step_line a) = stepped (effect L t a (zeros answer_room))
  on_line t (refused_line k) = record { text = refusal_line k; table = t }

  -- a line on a table
  unfoldable pub line_step : List ℕ → List ℕ → Logged
  line_step t line = on_line t (line_of line)

  -- lines, each on the table that the last one left
  unfoldable pub lines_output : List ℕ → List (List ℕ) → List ℕ
  lines_output t [] = []
  lines_output t (line ∷ lines) = (line_step t line).text ++ lines_output (line_step t line).table lines

  abbrev pub fresh_table : List ℕ
  fresh_table = (freshen L (zeros table_words)).table

  -- a whole log, from a fresh table
  unfoldable pub log_output : List ℕ → List ℕ
  log_output log = lines_output fresh_table (lines_in log)
