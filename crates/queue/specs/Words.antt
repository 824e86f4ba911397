-- The words of a slot and of a queue in the device table, and the records that words stand for.
use Rattle.std.specs.Prelude.{ℕ, ◌+◌, ◌*◌, ◌/◌, ◌%◌, ◌^◌, cond, List, [], ◌∷◌, get_or, drop, eqb}
use Rattle.laws.specs.Parts.{pieces, read_pieces}
use Rattle.model.specs.Numbers.{queue_slots}
use Rattle.model.specs.Device.{created, queued, dequeued, Slot, free, resource, Queue}

-- a slot is 5 words: state (0 free, 1 Created, 2 Queued, 3 Dequeued), number, ticket, timestamp low and high; what has no use is zero
abbrev pub slot_size : ℕ
slot_size = 5

-- the words of a slot
abbrev pub slot_words : Slot → List ℕ
slot_words free = 0 ∷ 0 ∷ 0 ∷ 0 ∷ 0 ∷ []
slot_words (resource r created) = 1 ∷ r ∷ 0 ∷ 0 ∷ 0 ∷ []
slot_words (resource r (queued t ts)) = 2 ∷ r ∷ t ∷ ts % 2 ^ 32 ∷ ts / 2 ^ 32 ∷ []
slot_words (resource r dequeued) = 3 ∷ r ∷ 0 ∷ 0 ∷ 0 ∷ []

-- a queue is 84 words: one without use, which is zero, width, height, rate, and its sixteen slots
abbrev pub queue_size : ℕ
queue_size = 84

-- where its slots start
abbrev pub first_slot : ℕ
first_slot = 4

-- the words of a queue
unfoldable pub queue_words : Queue → List ℕ
queue_words q = 0 ∷ q.width ∷ q.height ∷ q.rate ∷ pieces slot_words q.slots

-- The records that words stand for. Each function is total; words that stand for no record are told by writing the record again.

-- the slot that five words stand for; a state other than 1 to 3 stands for a free one
abbrev pub slot_in : ℕ → ℕ → ℕ → ℕ → ℕ → Slot
slot_in state r t low high =
    cond (eqb state 1) (resource r created)
    (cond (eqb state 2) (resource r (queued t (low + 2 ^ 32 * high)))
    (cond (eqb state 3) (resource r dequeued) free))

-- the same, from a list of them
unfoldable pub decode_slot : List ℕ → Slot
decode_slot w = slot_in (get_or w 0 0) (get_or w 1 0) (get_or w 2 0) (get_or w 3 0) (get_or w 4 0)

-- the queue that 84 words stand for
unfoldable pub decode_queue : List ℕ → Queue
decode_queue w =
    record {
      width = get_or w 1 0;
      height = get_or w 2 0;
      rate = get_or w 3 0;
      slots = read_pieces decode_slot slot_size queue_slots (drop first_slot w);
    }
