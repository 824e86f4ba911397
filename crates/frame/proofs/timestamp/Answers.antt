-- `frame::timestamp` meets its contract: a field of the part is a field of the frame, by `field_part`.
use mathlib.Core.Path.{◌∙◌}
use Prim.Native.Nat.{◌-◌}
use native.Mathlib.Omega.{arith}
use lib.ListN.{length}
use Rattle.field.proofs.Laws.{field_part}
use Rattle.frame.proofs.timestamp.Goals as goal

pub returns : goal.returns
returns c = c.read.ensures ∙ field_part 8 c.args.frame.now 8 (length c.args.frame.now - 8) 8 (omega arith)
