-- `field::payload_u32` meets its contract: the field of the frame that `read` reads.
use Rattle.field.proofs.payload_u32.Goals as goal

pub returns : goal.returns
returns c = c.read.ensures
