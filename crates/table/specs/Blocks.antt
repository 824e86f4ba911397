-- The words of a stream place and of the whole device table, the records that words stand for, and with both the table's layout.
use Rattle.std.specs.Prelude.{ℕ, Bool, cond, List, [], ◌∷◌, ◌++◌, take, ◌==◌, slice_index}
use Rattle.std.specs.Prelude.{Option, None, Some}
use Rattle.laws.specs.Parts.{part, zeros, pieces, read_pieces}
use Rattle.model.specs.Numbers.{stream_places}
use Rattle.model.specs.Device.{QueueType, input, output, Place, vacant, occupied, Device}
use Rattle.model.specs.Tables.{Layout}
use Rattle.queue.specs.Words.{queue_size, queue_words, decode_queue}
use Rattle.table.specs.Spent.{spent_size, spent_words, decode_spent}
use Rattle.table.specs.Figures.{figure_words, asked_of_stream}

-- a place is a block of 512 words: live (0 or 1), number, coded format, drain pending (0 or 1), drain ticket, three words without use, the
-- input queue from 8, the output queue from 92, and from 176 words without use; words without use are zero, and so is a vacant place
abbrev pub place_size : ℕ
place_size = 512

-- where a queue's words start in it
abbrev pub queue_start : QueueType → ℕ
queue_start input = 8
queue_start output = 92

-- the words without use behind the queues
abbrev pub spare_size : ℕ
spare_size = 336

-- the words of a drain pending or not: 1 and its ticket, or zeros
abbrev pub drain_words : Option ℕ → List ℕ
drain_words None = 0 ∷ 0 ∷ []
drain_words (Some t) = 1 ∷ t ∷ []

-- the first eight words of a live stream's block: live, number, coded format, drain, three without use
unfoldable pub head_words : ℕ → ℕ → Option ℕ → List ℕ
head_words n format drain = 1 ∷ n ∷ format ∷ (drain_words drain ++ zeros 3)

-- the words of a place
unfoldable pub place_words : Place → List ℕ
place_words vacant = zeros place_size
place_words (occupied n b) = head_words n b.format b.draining ++ (queue_words b.inputs ++ (queue_words b.outputs ++ zeros spare_size))

-- the blocks of places, one after the other
unfoldable pub blocks : List Place → List ℕ
blocks ps = pieces place_words ps

-- the words of eight blocks
abbrev pub blocks_size : ℕ
blocks_size = 4096

-- the words without use between the spent numbers and the figures, and behind the figures
abbrev pub gap_size : ℕ
gap_size = 1

abbrev pub unused_size : ℕ
unused_size = 14

-- the words behind the blocks: those of the spent numbers, and the figures of the places, with words without use before and behind them
unfoldable pub behind : List Bool → List Place → List ℕ
behind s ps = spent_words s ++ (zeros gap_size ++ (figure_words ps ++ zeros unused_size))

-- the used words of a table: the blocks of the places, and the words behind them
unfoldable pub encode : Device → List ℕ
encode d = blocks d.places ++ behind d.spent d.places

-- the device with other places, and with other spent numbers
abbrev pub with_places : List Place → Device → Device
with_places ps d = record { places = ps; spent = d.spent }

abbrev pub with_spent : List Bool → Device → Device
with_spent s d = record { places = d.places; spent = s }

-- the words of the device with other places before the figures are settled: what stands behind the blocks is still its own
unfoldable pub unsettled : List Place → Device → List ℕ
unsettled ps d = blocks ps ++ behind d.spent d.places

-- The records that words stand for

-- the ticket of a pending drain, from its two words
abbrev pub drain_in : ℕ → ℕ → Option ℕ
drain_in mark ticket = cond (mark == 1) (Some ticket) None

-- the place that 512 words stand for
unfoldable pub decode_place : List ℕ → Place
decode_place w =
    cond (slice_index w 0 == 1)
    (occupied (slice_index w 1)
    (record {
      format = slice_index w 2;
      draining = drain_in (slice_index w 3) (slice_index w 4);
      inputs = decode_queue (part (queue_start input) queue_size w);
      outputs = decode_queue (part (queue_start output) queue_size w);
    }))
    vacant

-- the places that the words of eight blocks stand for
unfoldable pub places_in : List ℕ → List Place
places_in w = read_pieces decode_place place_size stream_places w

-- the device that the used words of a table stand for
unfoldable pub decode : List ℕ → Device
decode w = record { places = places_in (take blocks_size w); spent = decode_spent (part blocks_size spent_size w) }

-- the one layout of this device
abbrev pub layout : Layout
layout = record { encode = encode; decode = decode; figure = λ t n. (asked_of_stream t n).pending }
