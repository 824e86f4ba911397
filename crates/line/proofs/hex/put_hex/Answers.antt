-- `line::hex::put_hex` meets its contract: the text so far stands in `out`; a turn is `pieces_more`.
use mathlib.Core.Path.{refl, ap, ◌∙◌}
use Prim.Native.Nat.{◌*◌}
use native.Mathlib.Omega.{arith}
use lib.ListN.{take, get_or}
use lib.Seq.{sets, take_all, length-take-le}
use Rattle.laws.specs.Parts.{pieces}
use Rattle.laws.proofs.Stores.{sets_next}
use Rattle.line.specs.Hex.{hex_pair, hex_text}
use Rattle.laws.proofs.Pieces.{pieces_more}
use Rattle.line.proofs.Digits.{length_text}
use Rattle.line.proofs.hex.put_hex.Goals as goal

pub loop-i-init : goal.loop-i-init
unfolding pieces
loop-i-init c = (refl, refl)

pub loop-i-preserved : goal.loop-i-preserved
loop-i-preserved c = (
  omega arith,
  c.put_byte.ensures
      ∙ rw (c.loop-i.invariant.1, pieces_more hex_pair c.args.bytes.now c.loop-i.i 0 (omega arith))
      (sets_next c.args.out.now c.args.at (2 * c.loop-i.i) (hex_text (take c.loop-i.i c.args.bytes.now)) (hex_pair (get_or c.args.bytes.now c.loop-i.i 0))
      (length_text (take c.loop-i.i c.args.bytes.now) ∙ ap (λ n. 2 * n) (length-take-le c.loop-i.i c.args.bytes.now (omega arith)))),
)

pub returns : goal.returns
returns c = record {
  next = omega (arith, length_text c.args.bytes.now);
  whole = c.loop-i.invariant.1 ∙ ap (λ t. sets c.args.out.now c.args.at (hex_text t)) (take_all c.loop-i.i c.args.bytes.now (omega arith));
}
