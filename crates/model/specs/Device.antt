-- What a table stands for: eight places for the records of live streams, in each record two queues of sixteen slots for resources, and which
-- stream numbers are spent.
-- A place is document 01's own word; it calls a slot a place too, and a pending drain an owed one.
use Rattle.std.specs.Prelude.{ℕ, ◌+◌, Bool, true, false, cond, not, ◌&&◌, List, [], ◌∷◌, map, length, replicate, get_or, set, eqb}
use Rattle.std.specs.Prelude.{Option, None, Some}
use Rattle.laws.specs.Lists.{is_empty, is_none, to_list, numbers_in, stands_in, total}
use Rattle.laws.specs.Ascending.{ascending}
use Rattle.model.specs.Numbers.{stream_places, queue_slots, stream_numbers}

-- the queue types: compressed input, pictures out
pub data QueueType : Type 0 where
  input output : QueueType

-- whether it is the input queue
abbrev pub is_input : QueueType → Bool
is_input input = true
is_input output = false

-- a resource's state; while Queued it keeps its ticket and its timestamp
pub data State : Type 0 where
  created : State
  queued : (ticket timestamp : ℕ) → State
  dequeued : State

-- a slot is free or holds a resource
pub data Slot : Type 0 where
  free : Slot
  resource : (number : ℕ) → State → Slot

-- the parameters that are kept (the others follow from them), the resources
pub record Queue : Type 0 where
  pub width : ℕ
  pub height : ℕ
  pub rate : ℕ
  pub slots : List Slot

-- the record of a live stream: coded format, the ticket of a pending drain, the two queues. Its number stands in its place.
pub record Stream : Type 0 where
  pub format : ℕ
  pub draining : Option ℕ
  pub inputs : Queue
  pub outputs : Queue

-- a place is vacant or holds the record of a live stream
pub data Place : Type 0 where
  vacant : Place
  occupied : (number : ℕ) → Stream → Place

-- eight places, and for each stream number whether it is spent: whether a creation of it has succeeded since the table was made fresh
pub record Device : Type 0 where
  pub places : List Place
  pub spent : List Bool

-- no stream, and no number spent
unfoldable pub fresh : Device
fresh = record { places = replicate stream_places vacant; spent = replicate stream_numbers false }

-- what a creation leaves: 640 by 480, rate 0, no resources
abbrev pub new_queue : Queue
new_queue = record { width = 640; height = 480; rate = 0; slots = replicate queue_slots free }

-- a new stream, of a coded format
abbrev pub new_stream : ℕ → Stream
new_stream format = record { format = format; draining = None; inputs = new_queue; outputs = new_queue }

-- A record's parts, and the record with another part

-- a queue of a stream
abbrev pub queue_of : QueueType → Stream → Queue
queue_of input b = b.inputs
queue_of output b = b.outputs

-- the record with another queue
abbrev pub with_queue : QueueType → Queue → Stream → Stream
with_queue input q b = record { format = b.format; draining = b.draining; inputs = q; outputs = b.outputs }
with_queue output q b = record { format = b.format; draining = b.draining; inputs = b.inputs; outputs = q }

-- the record with a drain pending under that ticket, or with none
abbrev pub with_drain : Option ℕ → Stream → Stream
with_drain d b = record { format = b.format; draining = d; inputs = b.inputs; outputs = b.outputs }

-- the queue with other slots
abbrev pub with_slots : List Slot → Queue → Queue
with_slots s q = record { width = q.width; height = q.height; rate = q.rate; slots = s }

-- The Queued buffers of a queue

-- a Queued buffer: its resource number, and the ticket and timestamp of its queueing
pub record Buffer : Type 0 where
  pub resource : ℕ
  pub ticket : ℕ
  pub timestamp : ℕ

-- the same, by its parts
abbrev pub buffer : ℕ → ℕ → ℕ → Buffer
buffer r t ts = record { resource = r; ticket = t; timestamp = ts }

-- the Queued buffers, in the order of their slots
abbrev pub queued_in : List Slot → List Buffer
queued_in [] = []
queued_in (free ∷ s) = queued_in s
queued_in (resource r created ∷ s) = queued_in s
queued_in (resource r (queued t ts) ∷ s) = buffer r t ts ∷ queued_in s
queued_in (resource r dequeued ∷ s) = queued_in s

-- buffers by ascending resource number
abbrev pub by_resource : List Buffer → List Buffer
by_resource = ascending (λ (i : Buffer). i.resource)

-- the Queued buffers of a queue, by ascending resource number
abbrev pub buffers : QueueType → Stream → List Buffer
buffers q b = by_resource (queued_in (queue_of q b).slots)

-- the Queued buffer of a resource number
abbrev pub buffer_of : ℕ → List Buffer → Option Buffer
buffer_of r [] = None
buffer_of r (i ∷ l) = cond (eqb i.resource r) (Some i) (buffer_of r l)

-- Slots

-- the resource number in a slot
abbrev pub slot_number : Slot → Option ℕ
slot_number free = None
slot_number (resource r p) = Some r

-- some slot holds the resource number
abbrev pub present : ℕ → List Slot → Bool
present r s = stands_in r (numbers_in slot_number s)

-- no slot holds a resource, in whatever state
abbrev pub no_resource : List Slot → Bool
no_resource s = is_empty (numbers_in slot_number s)

-- every slot holds something
abbrev pub no_slot : List Slot → Bool
no_slot [] = true
no_slot (free ∷ s) = false
no_slot (resource m p ∷ s) = no_slot s

-- a new resource, Created, in the lowest free slot
abbrev pub add_resource : ℕ → List Slot → List Slot
add_resource r [] = []
add_resource r (free ∷ s) = resource r created ∷ s
add_resource r (resource m p ∷ s) = resource m p ∷ add_resource r s

-- the resource r in another state
abbrev pub set_state : ℕ → State → List Slot → List Slot
set_state r p [] = []
set_state r p (free ∷ s) = free ∷ set_state r p s
set_state r p (resource m q ∷ s) = resource m (cond (eqb m r) p q) ∷ set_state r p s

-- what a clear makes of a state
abbrev pub stopped : State → State
stopped created = created
stopped (queued t ts) = dequeued
stopped dequeued = dequeued

-- every Queued buffer is Dequeued
abbrev pub stop_all : List Slot → List Slot
stop_all [] = []
stop_all (free ∷ s) = free ∷ stop_all s
stop_all (resource m p ∷ s) = resource m (stopped p) ∷ stop_all s

-- every slot freed
abbrev pub free_all : List Slot → List Slot
free_all [] = []
free_all (p ∷ s) = free ∷ free_all s

-- Places

-- the stream number in a place
abbrev pub place_number : Place → Option ℕ
place_number vacant = None
place_number (occupied n b) = Some n

-- the record of a stream number, if it is live
abbrev pub record_of : ℕ → List Place → Option Stream
record_of n [] = None
record_of n (vacant ∷ ps) = record_of n ps
record_of n (occupied m b ∷ ps) = cond (eqb m n) (Some b) (record_of n ps)

-- every place holds something
abbrev pub no_place : List Place → Bool
no_place [] = true
no_place (vacant ∷ ps) = false
no_place (occupied m b ∷ ps) = no_place ps

-- the place of a stream with a record, or with none
abbrev pub place : ℕ → Option Stream → Place
place n None = vacant
place n (Some b) = occupied n b

-- the place of a live number gets its new record, or becomes vacant
abbrev pub replace : ℕ → Option Stream → List Place → List Place
replace n r [] = []
replace n r (vacant ∷ ps) = vacant ∷ replace n r ps
replace n r (occupied m b ∷ ps) = cond (eqb m n) (place n r) (occupied m b) ∷ replace n r ps

-- a new stream in the lowest vacant place
abbrev pub install : ℕ → Option Stream → List Place → List Place
install n r [] = []
install n r (vacant ∷ ps) = place n r ∷ ps
install n r (occupied m b ∷ ps) = occupied m b ∷ install n r ps

-- the record of n put back after a step of n
unfoldable pub put_record : ℕ → Option Stream → List Place → List Place
put_record n r ps = cond (is_none (record_of n ps)) (install n r ps) (replace n r ps)

-- How many answers are pending, got by going through every resource and drain (document 02: owed)

-- to a stream: one for each Queued buffer of either queue, and one for a pending drain
abbrev pub pending_to : Stream → ℕ
pending_to b = length (queued_in b.inputs.slots) + (length (queued_in b.outputs.slots) + length (to_list b.draining))

-- to a stream number: by its record, and none where it is not live
abbrev pub pending_of : Option Stream → ℕ
pending_of None = 0
pending_of (Some b) = pending_to b

-- to the stream of a place
abbrev pub pending_at : Place → ℕ
pending_at vacant = 0
pending_at (occupied n b) = pending_to b

-- in all
abbrev pub pending_among : List Place → ℕ
pending_among ps = total (map pending_at ps)

-- Spent numbers

-- the number is spent
unfoldable pub is_spent : ℕ → List Bool → Bool
is_spent n s = get_or s n false

-- the number is spent from now on
unfoldable pub spend : ℕ → List Bool → List Bool
spend n s = set s n true

-- The device

-- a step that leaves a record where there was none is a creation that succeeded
abbrev pub is_new : Option Stream → Option Stream → Bool
is_new old next = is_none old && not (is_none next)

-- the spent numbers after a step of n that found one record and leaves another: a creation that succeeds spends its number
abbrev pub spent_after : ℕ → Option Stream → Option Stream → List Bool → List Bool
spent_after n old next s = cond (is_new old next) (spend n s) s

-- the device after a step of n that leaves the record r
abbrev pub put_back : ℕ → Option Stream → Device → Device
put_back n r d = record { places = put_record n r d.places; spent = spent_after n (record_of n d.places) r d.spent }
