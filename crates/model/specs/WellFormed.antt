-- Which devices a valid table stands for, and the types of the host's numbers.
use Rattle.std.specs.Prelude.{ℕ, ◌^◌, Bool, true, ◌&&◌, List, length, eqb, ltb}
use Rattle.std.specs.Prelude.{Option, None, Some}
use Rattle.laws.specs.Tests.{within}
use Rattle.laws.specs.Lists.{all_of, numbers_in, distinct}
use Rattle.model.specs.Numbers.{stream_places, queue_slots, stream_numbers, first_coded, last_coded}
use Rattle.model.specs.Device.{State, created, queued, dequeued, Slot, free, resource, Queue, Stream, Place, vacant, occupied, Device, slot_number, place_number, is_spent}
use Rattle.model.specs.Commands.{good_extent}
use Rattle.model.specs.Steps.{Act, command, finish, drained, Step}

-- numbers of 8, 32 and 64 bits
unfoldable pub u8 : ℕ → Bool
u8 v = ltb v (2 ^ 8)

unfoldable pub u32 : ℕ → Bool
u32 v = ltb v (2 ^ 32)

unfoldable pub u64 : ℕ → Bool
u64 v = ltb v (2 ^ 64)

-- any ticket, timestamp and resource number of its width will do, 0 too
abbrev pub good_state : State → Bool
good_state created = true
good_state (queued t ts) = u32 t && u64 ts
good_state dequeued = true

-- a free slot, or a resource number and its state
abbrev pub good_slot : Slot → Bool
good_slot free = true
good_slot (resource r p) = u32 r && good_state p

-- no resource number twice in one queue
abbrev pub distinct_slots : List Slot → Bool
distinct_slots s = distinct (numbers_in slot_number s)

-- sixteen good slots, no number twice
abbrev pub good_slots : List Slot → Bool
good_slots s = eqb (length s) queue_slots && (all_of good_slot s && distinct_slots s)

-- parameters such as a creation or a set leaves
abbrev pub good_queue : Queue → Bool
good_queue q = good_slots q.slots && (good_extent q.width && (good_extent q.height && u32 q.rate))

-- any ticket
abbrev pub good_drain : Option ℕ → Bool
good_drain None = true
good_drain (Some t) = u32 t

-- a coded format, a drain or none, two queues
abbrev pub good_stream : Stream → Bool
good_stream b = within b.format first_coded last_coded && (good_drain b.draining && (good_queue b.inputs && good_queue b.outputs))

-- vacant, or a record and its number, of which `good_spent` asks more
abbrev pub good_place : Place → Bool
good_place vacant = true
good_place (occupied n b) = u32 n && good_stream b

-- no stream number twice
abbrev pub distinct_places : List Place → Bool
distinct_places ps = distinct (numbers_in place_number ps)

-- eight good places, no number twice; places may be vacant anywhere
abbrev pub good_places : List Place → Bool
good_places ps = eqb (length ps) stream_places && (all_of good_place ps && distinct_places ps)

-- vacant, or the number of its stream is spent
abbrev pub spent_in : List Bool → Place → Bool
spent_in s vacant = true
spent_in s (occupied n b) = is_spent n s

-- a truth value for each number, and every live number is spent; any other may be
abbrev pub good_spent : List Place → List Bool → Bool
good_spent ps s = eqb (length s) stream_numbers && all_of (spent_in s) ps

-- a device that a valid table stands for
unfoldable pub well_formed : Device → Bool
well_formed d = good_places d.places && good_spent d.places d.spent

-- The host's types: a caller cannot lend anything else

-- a ticket and bytes; the five numbers of a finish; a stream number
abbrev pub good_act : Act → Bool
good_act (command t f) = u32 t && all_of u8 f
good_act (finish n qt r flags ts) = u32 n && (u32 qt && (u32 r && (u32 flags && u64 ts)))
good_act (drained n) = u32 n

-- and so a list of steps
abbrev pub good_steps : List Step → Bool
good_steps = all_of (λ (s : Step). good_act s.act)
