-- The lines of a log that holds questions and answers (document 02, request 7): which is which, and when two of them are equal.
use Rattle.std.specs.Prelude.{ℕ, ◌+◌, Bool, true, false, cond, ◌||◌, List, map, ltb, length, take}
use Rattle.laws.specs.Tests.{within}
use Rattle.laws.specs.Lists.{same}
use Rattle.line.specs.Hex.{hex_pair}
use Rattle.line.specs.Line.{Line, step_line, refused_line, line_of}
use Rattle.line.specs.Split.{longest_line}

-- "the case of digits is no difference": A to F as a to f
unfoldable pub lower_case : ℕ → ℕ
lower_case b = cond (within b 65 70) (b + 32) b

abbrev pub in_lower_case : List ℕ → List ℕ
in_lower_case line = map lower_case line

-- two lines are equal, the case of digits aside
unfoldable pub same_line : List ℕ → List ℕ → Bool
same_line a b = same (in_lower_case a) (in_lower_case b)

-- a line begins with the two digits of a byte
unfoldable pub begins_with : ℕ → List ℕ → Bool
begins_with byte line = same_line (take 2 line) (hex_pair byte)

-- "a line beginning 80 or ff"
abbrev pub begins_as_answer : List ℕ → Bool
begins_as_answer line = begins_with 0x80 line || begins_with 0xff line

-- a frame, which is a question to the device; an answer; or neither
pub data LineKind : Type 0 where
  question_kind : LineKind
  answer_kind : LineKind
  neither_kind : LineKind

abbrev pub frame_kind : Line → LineKind
frame_kind (step_line a) = question_kind
frame_kind (refused_line k) = neither_kind

-- what is "over the base's length" is neither; what begins as an answer is one, whatever follows
unfoldable pub kind_of : List ℕ → LineKind
kind_of line =
    cond (ltb longest_line (length line)) neither_kind
    (cond (begins_as_answer line) answer_kind
    (frame_kind (line_of line)))

-- the same as tests of a line
abbrev pub question_by : LineKind → Bool
question_by question_kind = true
question_by answer_kind = false
question_by neither_kind = false

abbrev pub answer_by : LineKind → Bool
answer_by question_kind = false
answer_by answer_kind = true
answer_by neither_kind = false

abbrev pub is_question : List ℕ → Bool
is_question line = question_by (kind_of line)

abbrev pub is_answer : List ℕ → Bool
is_answer line = answer_by (kind_of line)
