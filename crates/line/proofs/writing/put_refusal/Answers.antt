-- `line::writing::put_refusal` meets its contract: three runs of stores, one after the other.
use mathlib.Core.Path.{refl}
use Rattle.laws.specs.Parts.{pieces}
use Rattle.line.specs.Hex.{hex_pair}
use Rattle.line.specs.Log.{refusal_line}
use Rattle.line.proofs.writing.put_refusal.Goals as goal

pub returns-clause-wrote : goal.returns-clause-wrote
unfolding refusal_line hex_pair pieces
returns-clause-wrote c = record { next = refl; whole = rw (c.put_byte-2.ensures, c.put_byte.ensures) }
