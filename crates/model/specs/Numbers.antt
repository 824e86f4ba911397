-- The numbers of document 01 that have a name, each once.
use Rattle.std.specs.Prelude.{ℕ}

-- the used words of the lent table
abbrev pub table_words : ℕ
table_words = 4160

-- the bytes of answer room that a step must be lent
abbrev pub answer_room : ℕ
answer_room = 1056

-- the places for live streams, and the resources of one queue
abbrev pub stream_places : ℕ
stream_places = 8

abbrev pub queue_slots : ℕ
queue_slots = 16

-- the stream numbers that a creation may take: 0 to 1,023
abbrev pub stream_numbers : ℕ
stream_numbers = 1024

-- the coded formats, from MPEG2 to VP9
abbrev pub first_coded : ℕ
first_coded = 0x1000

abbrev pub last_coded : ℕ
last_coded = 0x1005

-- the one raw format, NV12
abbrev pub nv12 : ℕ
nv12 = 3

-- the planes of a buffer at most
abbrev pub max_planes : ℕ
max_planes = 8

-- a header: type and stream number
abbrev pub header_bytes : ℕ
header_bytes = 8

-- buffer flags: an error, the end of the stream
abbrev pub err : ℕ
err = 1

abbrev pub eos : ℕ
eos = 2
