-- The guest's frames: the commands with their types and lengths, and those fields of the draft's structs that are read. Offsets count from
-- the start of the frame, in mem_entry from the start of the entry.
use Rattle.std.specs.Prelude.{ℕ, zero, suc, ◌+◌, Bool, cond, not, List, [], ◌∷◌, drop, eqb, ltb}
use Rattle.std.specs.Prelude.{Option, None, Some}
use Rattle.field.specs.Field.{field}
use Rattle.tag.specs.Tag.{create_type, create_length}
use Rattle.model.specs.Numbers.{max_planes}
use Rattle.model.specs.Device.{QueueType, input, output}

infix 80 ◌is◌of_length◌
-- The commands

-- where a resource_create's own fields end and its entries start
abbrev pub entries_start : ℕ
entries_start = 88

-- those to a queue of a live stream: each names it in the same field
pub data QueueCommand : Type 0 where
  create_resource queue_resource destroy_all clear get_parameters set_parameters : QueueCommand

-- those to a live stream; of controls none is known
pub data LiveCommand : Type 0 where
  destroy drain control : LiveCommand
  to_queue : QueueCommand → LiveCommand

-- all commands: a creation, or one to a live stream
pub data Command : Type 0 where
  create : Command
  live : LiveCommand → Command

-- how long a frame must be
pub data LengthRule : Type 0 where
  exactly at_least : ℕ → LengthRule

-- a rule of the table: type, command, rule of length
pub record CommandRule : Type 0 where
  pub type : ℕ
  pub command : Command
  pub length_rule : LengthRule

-- a rule as it is written below
abbrev pub ◌is◌of_length◌ : ℕ → Command → LengthRule → CommandRule
ty is c of_length l = record { type = ty; command = c; length_rule = l }

-- the table of commands
abbrev pub commands : List CommandRule
commands =
    create_type is create of_length exactly create_length
    ∷ 0x0102 is live destroy of_length exactly 8
    ∷ 0x0103 is live drain of_length exactly 8
    ∷ 0x0104 is live (to_queue create_resource) of_length at_least entries_start
    ∷ 0x0105 is live (to_queue queue_resource) of_length exactly 64
    ∷ 0x0106 is live (to_queue destroy_all) of_length exactly 16
    ∷ 0x0107 is live (to_queue clear) of_length exactly 16
    ∷ 0x0108 is live (to_queue get_parameters) of_length exactly 16
    ∷ 0x0109 is live (to_queue set_parameters) of_length exactly 120
    ∷ 0x010A is live control of_length exactly 16
    ∷ 0x010B is live control of_length exactly 16
    ∷ 0x010C is live control of_length at_least 16
    ∷ []

-- the rule of a type among some
abbrev pub rule_in : ℕ → List CommandRule → Option CommandRule
rule_in ty [] = None
rule_in ty (l ∷ ls) = cond (eqb l.type ty) (Some l) (rule_in ty ls)

-- the rule of a type; none for 0x0100 and for an unknown one
unfoldable pub rule_of : ℕ → Option CommandRule
rule_of ty = rule_in ty commands

-- a length that is not the command's
abbrev pub wrong_length : LengthRule → ℕ → Bool
wrong_length (exactly k) n = not (eqb n k)
wrong_length (at_least k) n = ltb n k

-- Queue types

-- the numbers of the queue types
abbrev pub queue_number : QueueType → ℕ
queue_number input = 0x100
queue_number output = 0x101

-- the queue that a number names, if it names one
unfoldable pub queue_named : ℕ → Option QueueType
queue_named n = cond (eqb n (queue_number input)) (Some input) (cond (eqb n (queue_number output)) (Some output) None)

-- Fields

-- the 32-bit number at an offset
abbrev pub word : List ℕ → ℕ → ℕ
word f at = field 4 f at

-- cmd_hdr
abbrev pub command_type : List ℕ → ℕ
command_type f = word f 0

abbrev pub stream_id : List ℕ → ℕ
stream_id f = word f 4

-- stream_create, whose tag of 64 bytes from offset 24 is `tag_in` of the crate tag
abbrev pub in_mem_type : List ℕ → ℕ
in_mem_type f = word f 8

abbrev pub out_mem_type : List ℕ → ℕ
out_mem_type f = word f 12

abbrev pub coded_format : List ℕ → ℕ
coded_format f = word f 16

-- the queue type of resource_create, resource_queue, resource_destroy_all, resource_queue_clear, get_params and set_params, and the resource of the first two
abbrev pub queue_type : List ℕ → ℕ
queue_type f = word f 8

abbrev pub resource_id : List ℕ → ℕ
resource_id f = word f 12

-- resource_create
abbrev pub planes_layout : List ℕ → ℕ
planes_layout f = word f 16

abbrev pub num_planes : List ℕ → ℕ
num_planes f = word f 20

-- the words at the offsets at, at + 4, ..
abbrev pub words_at : List ℕ → ℕ → ℕ → List ℕ
words_at f at zero = []
words_at f at (suc k) = word f at ∷ words_at f (at + 4) k

abbrev pub num_entries : List ℕ → List ℕ
num_entries f = words_at f 56 max_planes

abbrev pub entries : List ℕ → List ℕ
entries f = drop entries_start f

-- mem_entry
abbrev pub entry_bytes : ℕ
entry_bytes = 16

abbrev pub entry_addr : List ℕ → ℕ
entry_addr e = field 8 e 0

abbrev pub entry_length : List ℕ → ℕ
entry_length e = word e 8

-- resource_queue
abbrev pub timestamp_sent : List ℕ → ℕ
timestamp_sent f = field 8 f 16

abbrev pub num_data_sizes : List ℕ → ℕ
num_data_sizes f = word f 24

-- set_params
abbrev pub format_sent : List ℕ → ℕ
format_sent f = word f 12

abbrev pub frame_width : List ℕ → ℕ
frame_width f = word f 16

abbrev pub frame_height : List ℕ → ℕ
frame_height f = word f 20

abbrev pub frame_rate : List ℕ → ℕ
frame_rate f = word f 48
