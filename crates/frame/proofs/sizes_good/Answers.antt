-- `frame::sizes_good` meets its contract: the size count is a field of the payload.
use Rattle.frame.specs.Frame.{good_sizes}
use Rattle.laws.proofs.Tests.{leb_not_ltb}
use Rattle.model.specs.Frames.{num_data_sizes}
use Rattle.frame.proofs.sizes_good.Goals as goal

pub returns : goal.returns
unfolding good_sizes
returns c = rw c.payload_u32.ensures (leb_not_ltb (num_data_sizes c.args.frame.now) 8)
