-- What a search of the stream places finds. A place is named by its number in the device, counted from 0.
use Rattle.std.specs.Prelude.{ℕ, Bool, true, false, ◌&&◌, List, length, ◌==◌, slice_index, slice_index_or}
use Rattle.std.specs.Prelude.{Option}
use Rattle.laws.specs.Lists.{position}
use Rattle.model.specs.Numbers.{queue_slots}
use Rattle.model.specs.Device.{Place, vacant, occupied}

-- the place of that number; vacant behind the last
abbrev pub place_at : ℕ → List Place → Place
place_at k ps = slice_index_or ps k vacant

-- the place holds no stream
abbrev pub is_vacant : Place → Bool
is_vacant vacant = true
is_vacant (occupied m b) = false

-- the place holds the stream number
abbrev pub is_stream : ℕ → Place → Bool
is_stream n vacant = false
is_stream n (occupied m b) = m == n

-- the place of a stream number, and the lowest vacant place
abbrev pub find_stream : ℕ → List Place → Option ℕ
find_stream n ps = position (is_stream n) ps

abbrev pub find_vacant : List Place → Option ℕ
find_vacant ps = position is_vacant ps

-- a block starts with these two words: whether it is live, and the number
unfoldable pub head_is : ℕ → ℕ → List ℕ → Bool
head_is live number w = slice_index w 0 == live && slice_index w 1 == number

-- both queues have their sixteen slots, so that the place's words are a block
abbrev pub has_all_slots : Place → Bool
has_all_slots vacant = true
has_all_slots (occupied n b) = length b.inputs.slots == queue_slots && length b.outputs.slots == queue_slots
