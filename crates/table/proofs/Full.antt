-- The full device keeps the rules: computed on the device. Its table is then valid, as that of every well-formed device.
use Rattle.std.proofs.Common.{◌≡◌, true, refl}
use Rattle.laws.specs.Tests.{within}
use Rattle.model.specs.Device.{is_spent}
use Rattle.model.specs.WellFormed.{u32, u64, well_formed}
use Rattle.model.proofs.Tables.{words_valid}
use Rattle.table.specs.Full.{full_device, FullIsValid}
use Rattle.table.specs.Blocks.{layout}
use Rattle.table.proofs.Theorems.{meets_laws}

full_well : well_formed full_device ≡ true
unfolding well_formed is_spent u32 u64 within
full_well = refl

pub full_is_valid : FullIsValid
full_is_valid = record {
  places = refl;
  slots = refl;
  well = full_well;
  table = λ behind. words_valid layout meets_laws behind full_device full_well;
}
