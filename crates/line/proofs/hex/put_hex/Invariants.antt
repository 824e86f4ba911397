-- `line::hex::put_hex` meets its contract: the text so far stands in `out`; a turn is `pieces_more`.
use mathlib.Core.Path.{◌≡◌}
use lib.ListN.{length, take}
use lib.Seq.{sets}
use Rattle.line.specs.Hex.{hex_text}
use Rattle.line.proofs.hex.put_hex.Given as goal

abbrev pub invariant-loop-i : goal.invariant-loop-i
invariant-loop-i l = (length l.out ≡ length l.initial.out) × (l.out ≡ sets l.initial.out l.at (hex_text (take l.i l.bytes)))
