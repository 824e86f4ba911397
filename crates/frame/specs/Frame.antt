-- When the frame f of a command is good, by the model's fields and in the order of its tests. A bridge between the code and the model, which
-- proofs/Checks ties to the model's own tests: it need not be read to believe the contracts of the exported functions.
use Rattle.std.specs.Prelude.{Bool, not, ◌&&◌, List, ℕ, ◌+◌, ◌*◌, ◌^◌, ltb, eqb, length, take}
use Rattle.laws.specs.Tests.{within}
use Rattle.laws.specs.Lists.{total}
use Rattle.tag.specs.Tag.{good_tag, tag_in}
use Rattle.model.specs.Numbers.{first_coded, last_coded, max_planes}
use Rattle.model.specs.Frames.{in_mem_type, out_mem_type, coded_format, planes_layout, num_planes, num_entries, entries_start, entries, entry_bytes, entry_addr, entry_length, num_data_sizes, format_sent, frame_width, frame_height}
use Rattle.model.specs.Commands.{bad_entry, good_extent}

-- 0x0101: memory types 0, a coded format, a good tag
unfoldable pub good_creation : List ℕ → Bool
good_creation f = eqb (in_mem_type f) 0 && (eqb (out_mem_type f) 0 && (within (coded_format f) first_coded last_coded && good_tag (tag_in f)))

-- the true sum of the entry counts of the planes
abbrev pub entry_sum : List ℕ → ℕ
entry_sum f = total (take (num_planes f) (num_entries f))

-- an entry: a length that is not 0, and address + length at most 2^64
unfoldable pub good_entry : List ℕ → Bool
good_entry e = not (eqb (entry_length e) 0) && not (ltb (2 ^ 64) (entry_addr e + entry_length e))

-- a sum of 1 to 256, the length that goes with it, and good entries
unfoldable pub good_entries : List ℕ → ℕ → Bool
good_entries f sum = within sum 1 256 && (eqb (length f) (entries_start + entry_bytes * sum) && not (bad_entry sum (entries f)))

-- 0x0104, behind the queue type: planes layout, plane count, the entries
unfoldable pub good_resource : List ℕ → Bool
good_resource f = within (planes_layout f) 1 2 && (within (num_planes f) 1 max_planes && good_entries f (entry_sum f))

-- 0x0105, behind the queue type: at most 8 sizes
unfoldable pub good_sizes : List ℕ → Bool
good_sizes f = not (ltb max_planes (num_data_sizes f))

-- 0x0109, behind the queue type: the queue's format, and good extents
unfoldable pub good_set : ℕ → List ℕ → Bool
good_set format f = eqb (format_sent f) format && (good_extent (frame_width f) && good_extent (frame_height f))
