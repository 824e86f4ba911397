-- `device::places::live_place` meets its contract: the blocks are those of the device's places.
use Rattle.table.specs.Search.{find_stream}
use Rattle.device.proofs.Served.{looked}
use Rattle.device.proofs.places.live_place.Goals as goal

pub returns : goal.returns
returns c =
    record { within = c.find_stream.ensures.within; found = λ d h. looked h (find_stream c.args.number) _ c.find_stream.ensures.found }
