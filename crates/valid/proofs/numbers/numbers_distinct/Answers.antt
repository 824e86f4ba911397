-- `valid::numbers::numbers_distinct` meets its contract. The invariant: the numbers of the elements from `i` on are apart.
use Prim.Native.Nat.{◌-◌}
use native.Mathlib.Omega.{arith}
use Rattle.std.proofs.lemmas.Grind.{common_steps}
use Rattle.valid.proofs.Elements.{from_fails}
use Rattle.valid.proofs.numbers.numbers_distinct.Goals as goal

pub returns-then-number_again : goal.returns-then-number_again
returns-then-number_again g c = from_fails c.args.elements.now (c.loop-i.i - 1) (grind (arith, common_steps))
