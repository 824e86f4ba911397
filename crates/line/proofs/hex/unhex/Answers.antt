-- `line::hex::unhex` meets its contract: the bytes so far stand in `out`; a turn is `sets_take`.
use mathlib.Core.Path.{ap, ◌∙◌}
use native.Mathlib.Nat.{zero-add}
use native.Mathlib.Omega.{arith}
use lib.ListN.{length-set}
use lib.Seq.{sets, take_all}
use Rattle.line.specs.Hex.{hex_bytes}
use Rattle.laws.proofs.Stores.{sets_take}
use Rattle.line.proofs.Digits.{length_bytes}
use Rattle.line.proofs.hex.unhex.Goals as goal

pub loop-i-preserved : goal.loop-i-preserved
loop-i-preserved c = let bytes = hex_bytes c.args.line.now in (
  simp length-set c.loop-i.invariant.0,
  rw (c.byte_at.ensures, c.loop-i.invariant.1) (rw (zero-add c.loop-i.i) at (sets_take c.args.out.now 0 c.loop-i.i bytes (omega (arith, length_bytes c.args.line.now)))),
)

pub returns : goal.returns
returns c = c.loop-i.invariant.1 ∙ ap (sets c.args.out.now 0) (take_all c.loop-i.i (hex_bytes c.args.line.now) (omega (arith, length_bytes c.args.line.now)))
