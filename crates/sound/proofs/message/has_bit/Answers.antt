-- `sound::has_bit` meets its contract: a number of 16 bits has none from the 16th on.
use native.Mathlib.Omega.{arith}
use borrow.Author.Tests.{le-ltb}
use Rattle.std.proofs.lemmas.Nat.Bits.{bit_at_above}
use Rattle.pcm.specs.Control.{has_bit}
use Rattle.sound.proofs.message.has_bit.Goals as goal

pub returns-else-n-lt16 : goal.returns-else-n-lt16
unfolding has_bit
returns-else-n-lt16 c = rw (le-ltb _ _ c.if-n-lt16.false, bit_at_above c.args.bits 16 c.args.n (omega arith) c.if-n-lt16.false)
