-- The worked example of document 01, in ASCII.
use Rattle.std.specs.Prelude.{◌≡◌, List, [], ◌∷◌, ◌++◌, ℕ}
use Rattle.model.specs.Tables.{Layout}
use Rattle.line.specs.Log.{log_output}

-- 00050000000301000007000000, 0207000000 and an empty line, each with its byte 10
abbrev pub three_lines : List ℕ
three_lines =
    (48 ∷ 48 ∷ 48 ∷ 53 ∷ 48 ∷ 48 ∷ 48 ∷ 48 ∷ 48 ∷ 48 ∷ 48 ∷ 51 ∷ 48 ∷ 49 ∷ 48 ∷ 48 ∷ 48 ∷ 48 ∷ 48 ∷ 55 ∷ 48 ∷ 48 ∷ 48 ∷ 48 ∷ 48 ∷ 48 ∷ 10 ∷ []) ++
    ((48 ∷ 50 ∷ 48 ∷ 55 ∷ 48 ∷ 48 ∷ 48 ∷ 48 ∷ 48 ∷ 48 ∷ 10 ∷ []) ++
    (10 ∷ []))

-- 80050000000203000007000000, ff05 and ff07, each with its byte 10
abbrev pub their_output : List ℕ
their_output =
    (56 ∷ 48 ∷ 48 ∷ 53 ∷ 48 ∷ 48 ∷ 48 ∷ 48 ∷ 48 ∷ 48 ∷ 48 ∷ 50 ∷ 48 ∷ 51 ∷ 48 ∷ 48 ∷ 48 ∷ 48 ∷ 48 ∷ 55 ∷ 48 ∷ 48 ∷ 48 ∷ 48 ∷ 48 ∷ 48 ∷ 10 ∷ []) ++
    ((102 ∷ 102 ∷ 48 ∷ 53 ∷ 10 ∷ []) ++
    (102 ∷ 102 ∷ 48 ∷ 55 ∷ 10 ∷ []))

abbrev pub WorkedExample : Layout → Type 0
WorkedExample L = log_output L three_lines ≡ their_output
