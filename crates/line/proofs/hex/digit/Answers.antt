-- `line::hex::digit` meets its contract: the table's rule is one test that antt computes over its 256 elements, carried to the byte by `table_rule`.
use mathlib.Core.List.{List, [], ◌∷◌, ◌++◌}
use Prim.Native.Nat.{ℕ}
use native.Mathlib.Omega.{arith}
use lib.ListN.{replicate}
use Rattle.laws.specs.Tests.{within}
use Rattle.laws.proofs.Table.{table_rule}
use Rattle.line.specs.Hex.{digit_of}
use Rattle.line.proofs.hex.digit.Goals as goal

letters : List ℕ
letters = 10 ∷ 11 ∷ 12 ∷ 13 ∷ 14 ∷ 15 ∷ []

digits : List ℕ
digits = replicate 48 16 ++ ((0 ∷ 1 ∷ 2 ∷ 3 ∷ 4 ∷ 5 ∷ 6 ∷ 7 ∷ 8 ∷ 9 ∷ []) ++ (replicate 7 16 ++ (letters ++ (replicate 26 16 ++ (letters ++ replicate 153 16)))))

pub returns : goal.returns
unfolding digits letters digit_of within
returns c = table_rule digit_of digits tt c.args.b (omega arith)
