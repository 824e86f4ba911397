-- `queue::write_slot` meets its contract: five stores, one after the other.
use native.Mathlib.Omega.{arith}
use lib.ListN.{length-set}
use Rattle.queue.proofs.Records.{slot_stored}
use Rattle.queue.proofs.slots.write_slot.Goals as goal

pub bounds-q-at-2 : goal.bounds-q-at-2
bounds-q-at-2 c = simp length-set (omega arith)

pub bounds-q-at-3 : goal.bounds-q-at-3
bounds-q-at-3 c = simp length-set (omega arith)

pub bounds-q-at-4 : goal.bounds-q-at-4
bounds-q-at-4 c = simp length-set (omega arith)

pub bounds-q-at-5 : goal.bounds-q-at-5
bounds-q-at-5 c = simp length-set (omega arith)

pub returns : goal.returns
returns c Q s e w = slot_stored _ Q c.args.k c.requires.0 c.requires.1 e s c.args.state c.args.number c.args.ticket c.args.low c.args.high w
