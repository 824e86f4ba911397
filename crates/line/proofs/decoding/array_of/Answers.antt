-- `line::decoding::array_of` meets its contract: the array is the line's bytes where they fill it.
use Prim.Native.Nat.{ℕ}
use native.Mathlib.Omega.{arith}
use lib.ListN.{length-replicate}
use Rattle.line.proofs.Digits.{hex_even}
use Rattle.line.proofs.Frames.{length_other, length_is}
use Rattle.line.proofs.decoding.array_of.Goals as goal

pub returns-then-line : goal.returns-then-line
returns-then-line g c = length_other _ c.args.line.now c.if-line.true

pub unhex-requires : goal.unhex-requires
unhex-requires g c = (c.requires, omega (arith, c.if-line.false, hex_even c.args.line.now c.requires, length-replicate {A = ℕ} g.row.N 0))

pub returns : goal.returns
returns g c = length_is _ c.args.line.now _ _ c.requires c.if-line.false (length-replicate {A = ℕ} g.row.N 0) c.unhex.ensures
