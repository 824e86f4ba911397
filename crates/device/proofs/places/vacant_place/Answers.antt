-- `device::places::vacant_place` meets its contract: the blocks are those of the device's places.
use Rattle.table.specs.Search.{find_vacant}
use Rattle.device.proofs.Served.{looked}
use Rattle.device.proofs.places.vacant_place.Goals as goal

pub returns : goal.returns
returns c = record { within = c.find_vacant.ensures.within; found = λ d h. looked h find_vacant _ c.find_vacant.ensures.found }
