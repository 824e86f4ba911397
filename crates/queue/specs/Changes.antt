-- The change of a slot that the model makes as part of a larger one.
use Rattle.model.specs.Device.{Slot, free, resource, stopped}

-- a Queued buffer is Dequeued
abbrev pub stopped_slot : Slot → Slot
stopped_slot free = free
stopped_slot (resource r p) = resource r (stopped p)
