-- `line::hex::unhex` meets its contract: the bytes so far stand in `out`; a turn is `sets_take`.
use mathlib.Core.Path.{◌≡◌}
use lib.ListN.{length, take}
use lib.Seq.{sets}
use Rattle.line.specs.Hex.{hex_bytes}
use Rattle.line.proofs.hex.unhex.Given as goal

abbrev pub invariant-loop-i : goal.invariant-loop-i
invariant-loop-i l = (length l.out ≡ length l.initial.out) × (l.out ≡ sets l.initial.out 0 (take l.i (hex_bytes l.line)))
