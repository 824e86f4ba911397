-- `line::hex::put_byte` meets its contract: the two stores are the pair.
use native.Mathlib.Numerals.{add-one}
use Rattle.line.specs.Hex.{hex_pair}
use Rattle.line.proofs.hex.put_byte.Goals as goal

pub returns : goal.returns
unfolding hex_pair
returns c = rw (c.lower.ensures, c.lower-2.ensures, add-one c.args.at)
