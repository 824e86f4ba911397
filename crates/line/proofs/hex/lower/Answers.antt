-- `line::hex::lower` meets its contract: the table's rule is one test that antt computes, by `table_rule`.
use mathlib.Core.List.{List, [], ◌∷◌}
use Prim.Native.Nat.{ℕ}
use native.Mathlib.Omega.{arith}
use Rattle.laws.proofs.Table.{table_rule}
use Rattle.line.specs.Hex.{lower_digit}
use Rattle.line.proofs.hex.lower.Goals as goal

lowers : List ℕ
lowers = 48 ∷ 49 ∷ 50 ∷ 51 ∷ 52 ∷ 53 ∷ 54 ∷ 55 ∷ 56 ∷ 57 ∷ 97 ∷ 98 ∷ 99 ∷ 100 ∷ 101 ∷ 102 ∷ []

pub returns : goal.returns
unfolding lowers lower_digit
returns c = table_rule lower_digit lowers tt c.args.n (omega arith)
