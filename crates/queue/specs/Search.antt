-- What a search of a queue's slots finds. A slot is named by its place, counted from 0.
use Rattle.std.specs.Prelude.{ℕ, Bool, true, false, List, [], ◌∷◌, get_or, eqb}
use Rattle.std.specs.Prelude.{Option, None}
use Rattle.laws.specs.Lists.{keep, position}
use Rattle.laws.specs.Ascending.{not_below}
use Rattle.model.specs.Device.{created, queued, dequeued, Slot, free, resource, Buffer, queued_in, by_resource}

-- the slot of that place; free behind the last
abbrev pub slot_at : ℕ → List Slot → Slot
slot_at i s = get_or s i free

-- the slot holds no resource
abbrev pub is_free : Slot → Bool
is_free free = true
is_free (resource m p) = false

-- the slot holds the resource number
abbrev pub is_resource : ℕ → Slot → Bool
is_resource r free = false
is_resource r (resource m p) = eqb m r

-- the slot holds a Queued buffer
abbrev pub is_queued : Slot → Bool
is_queued free = false
is_queued (resource m created) = false
is_queued (resource m (queued t ts)) = true
is_queued (resource m dequeued) = false

-- the number in a slot, and the ticket and timestamp of a Queued one; 0 where there is none
abbrev pub number_in : Slot → ℕ
number_in free = 0
number_in (resource m p) = m

abbrev pub ticket_in : Slot → ℕ
ticket_in free = 0
ticket_in (resource m created) = 0
ticket_in (resource m (queued t ts)) = t
ticket_in (resource m dequeued) = 0

abbrev pub timestamp_in : Slot → ℕ
timestamp_in free = 0
timestamp_in (resource m created) = 0
timestamp_in (resource m (queued t ts)) = ts
timestamp_in (resource m dequeued) = 0

-- the slot of a resource number, and the lowest free slot
abbrev pub find_resource : ℕ → List Slot → Option ℕ
find_resource r s = position (is_resource r) s

abbrev pub find_free : List Slot → Option ℕ
find_free s = position is_free s

-- the first of some buffers is in the slot of its number
abbrev pub slot_of_first : List Buffer → List Slot → Option ℕ
slot_of_first [] s = None
slot_of_first (i ∷ l) s = find_resource i.resource s

-- the slot of the Queued buffer with the lowest number from `least` on
unfoldable pub next_queued : ℕ → List Slot → Option ℕ
next_queued least s = slot_of_first (keep (not_below (λ (i : Buffer). i.resource) least) (by_resource (queued_in s))) s
