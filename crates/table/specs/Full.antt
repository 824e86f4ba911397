-- A device with no room left, every stream number spent, and every other number at an edge: the rules do not shut it out, and its table is valid.
use Rattle.std.specs.Prelude.{◌≡◌, ℕ, zero, suc, Bool, true, false, ◌&&◌, List, [], ◌∷◌, ◌++◌, replicate}
use Rattle.std.specs.Prelude.{Some}
use Rattle.laws.specs.Lists.{all_of}
use Rattle.model.specs.Numbers.{stream_places, queue_slots, stream_numbers}
use Rattle.model.specs.Device.{queued, Slot, resource, Queue, Place, vacant, occupied, Device, no_slot, no_place}
use Rattle.model.specs.WellFormed.{well_formed}
use Rattle.model.specs.Tables.{valid}
use Rattle.table.specs.Blocks.{encode, layout}

-- resources n - 1, .., 0, all Queued
abbrev pub full_slots : ℕ → List Slot
full_slots zero = []
full_slots (suc n) = resource n (queued 0xFFFFFFFF 0xFFFFFFFFFFFFFFFF) ∷ full_slots n

abbrev pub full_queue : Queue
full_queue = record { width = 4096; height = 16; rate = 0xFFFFFFFF; slots = full_slots queue_slots }

-- streams n - 1, .., 0, each with a drain pending
abbrev pub full_places : ℕ → List Place
full_places zero = []
full_places (suc n) = occupied n (record { format = 0x1005; draining = Some 0xFFFFFFFF; inputs = full_queue; outputs = full_queue }) ∷ full_places n

abbrev pub full_device : Device
full_device = record { places = full_places stream_places; spent = replicate stream_numbers true }

-- no slot of the place is free
abbrev pub no_slot_in : Place → Bool
no_slot_in vacant = false
no_slot_in (occupied n b) = no_slot b.inputs.slots && no_slot b.outputs.slots

pub record FullIsValid : Type 0 where
  pub places : no_place full_device.places ≡ true
  pub slots : all_of no_slot_in full_device.places ≡ true
  pub well : well_formed full_device ≡ true
  -- whatever words stand behind its own
  pub table : (behind : List ℕ) → valid layout (encode full_device ++ behind) ≡ true
