-- A number is read as a queue type by its definition: by the number in each arm.
use native.Mathlib.Omega.{arith}
use borrow.Author.Tests.{ne_eqb}
use Rattle.model.specs.Frames.{queue_named}
use Rattle.protocol.proofs.queue_type.QueueTypeTryFromU32.try_from.Goals as goal

pub returns-in-256 : goal.returns-in-256
unfolding queue_named
returns-in-256 c = rw c.in-256.is

pub returns-in-257 : goal.returns-in-257
unfolding queue_named
returns-in-257 c = rw c.in-257.is

pub returns-in_default : goal.returns-in_default
unfolding queue_named
returns-in_default c = rw (ne_eqb c.args.n 0x100 (omega arith), ne_eqb c.args.n 0x101 (omega arith))
