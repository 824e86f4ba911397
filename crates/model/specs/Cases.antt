-- How a case is checked on the definitions, the ten cases of document 01 that are to be, three on spent numbers, six on the last picture of a drain, five on the
-- order of two steps, and some lines on what no run shows.
use Rattle.std.specs.Prelude.{ℕ, Bool, true, false, ◌&&◌, List, [], ◌∷◌, ◌++◌, map, ◌≡◌, replicate, take, eqb}
use Rattle.std.specs.Prelude.{Some}
use Rattle.laws.specs.Lists.{all_of, same}
use Rattle.model.specs.Numbers.{answer_room}
use Rattle.model.specs.Device.{output, created, Slot, free, resource, Device, fresh, new_queue, new_stream, with_queue, with_slots, record_of, put_back}
use Rattle.model.specs.Answers.{word_bytes, bytes_of}
use Rattle.model.specs.Steps.{Act, command, finish, drained, Step, DeviceReply, step_on, Event, event_of, events_of, final, is_error, accepted, belongs, out_of_memory_at}
use Rattle.model.specs.Ledger.{noted, to_buffer, to_drain, Ledger, ledger_of, expected_tickets, outstanding, outstanding_in}
use Rattle.model.specs.WellFormed.{well_formed, good_act}
use Rattle.model.specs.Promises.{finished_without_eos, buffer_named, swapped}

infix 80 ◌refused◌ ◌gives◌
-- a step, its refusal number or 0, and the bytes that it writes, in words
pub record Expected : Type 0 where
  pub act : Act
  pub refusal : ℕ
  pub answers : List ℕ

-- a step that is refused, and one that is not
abbrev pub ◌refused◌ : Act → ℕ → Expected
a refused k = record { act = a; refusal = k; answers = [] }

abbrev pub ◌gives◌ : Act → List ℕ → Expected
a gives ws = record { act = a; refusal = 0; answers = ws }

-- what went before on a fresh device, and the steps with what they give: the last ones show what the first ones left
pub record Case : Type 0 where
  pub history : List Act
  pub expected : List Expected

-- the same, by its parts
abbrev pub case : List Act → List Expected → Case
case b ls = record { history = b; expected = ls }

-- a step with the room that it must be lent
abbrev pub roomy : Act → Step
roomy a = record { act = a; room = replicate answer_room 0 }

-- a step gave that refusal and those bytes
abbrev pub agrees : Expected → DeviceReply → Bool
agrees l o = eqb o.refusal l.refusal && same (bytes_of o.answers) (word_bytes l.answers)

-- each step on the device that the last one left
abbrev pub all_agree : Device → List Expected → Bool
all_agree d [] = true
all_agree d (l ∷ ls) =
    let o : DeviceReply = step_on d (roomy l.act) in
    agrees l o && all_agree o.device ls

-- the device after these steps on a fresh one
abbrev pub device_after : List Act → Device
device_after l = final fresh (map roomy l)

-- the definitions give what is expected
abbrev pub passes : Case → Bool
passes c = all_agree (device_after c.history) c.expected

-- a command of 32-bit words
abbrev pub ask : ℕ → List ℕ → Act
ask t ws = command t (word_bytes ws)

-- The frames of the cases, all to stream 7

-- its creation with format 0x1000 and an empty tag, and that of another number
abbrev pub ask_create_of : ℕ → Act
ask_create_of n = ask 1 (0x0101 ∷ n ∷ 0 ∷ 0 ∷ 0x1000 ∷ 0 ∷ replicate 16 0)

abbrev pub ask_create : Act
ask_create = ask_create_of 7

-- its creation with format 0x0FFF, which is refused, and its destruction
abbrev pub ask_bad_create : Act
ask_bad_create = ask 1 (0x0101 ∷ 7 ∷ 0 ∷ 0 ∷ 0x0FFF ∷ 0 ∷ replicate 16 0)

abbrev pub ask_destroy : Act
ask_destroy = ask 6 (0x0102 ∷ 7 ∷ [])

-- a resource with one entry of one byte
abbrev pub ask_resource : ℕ → ℕ → Act
ask_resource q r = ask 2 (0x0104 ∷ 7 ∷ q ∷ r ∷ 1 ∷ 1 ∷ (replicate 8 0 ++ 1 ∷ (replicate 7 0 ++ 0 ∷ 0 ∷ 1 ∷ 0 ∷ [])))

-- a queueing under a ticket, with a timestamp and a size count
abbrev pub ask_queue : ℕ → ℕ → ℕ → ℕ → ℕ → Act
ask_queue t q r ts sizes = ask t (0x0105 ∷ 7 ∷ q ∷ r ∷ ts ∷ 0 ∷ sizes ∷ replicate 9 0)

-- a set of the input queue's size
abbrev pub ask_set : ℕ → ℕ → Act
ask_set width height = ask 5 (0x0109 ∷ 7 ∷ 0x100 ∷ 0x1000 ∷ width ∷ height ∷ replicate 24 0)

-- a get of the input queue's parameters
abbrev pub ask_get : ℕ → Act
ask_get t = ask t (0x0108 ∷ 7 ∷ 0x100 ∷ 0 ∷ [])

-- a drain
abbrev pub ask_drain : ℕ → Act
ask_drain t = ask t (0x0103 ∷ 7 ∷ [])

-- a clear of a queue
abbrev pub ask_clear : ℕ → ℕ → Act
ask_clear t q = ask t (0x0107 ∷ 7 ∷ q ∷ 0 ∷ [])

-- resource 9 on both queues
abbrev pub both_queues : List Act
both_queues = ask_create ∷ ask_resource 0x100 9 ∷ ask_resource 0x101 9 ∷ []

-- the same, and a drain pending under ticket 4
abbrev pub both_draining : List Act
both_draining = both_queues ++ ask_drain 4 ∷ []

-- The answers

-- plain success, and a drain's
abbrev pub success_to : ℕ → List ℕ
success_to t = t ∷ 8 ∷ 0x0200 ∷ 7 ∷ []

-- an error
abbrev pub fails_with : ℕ → ℕ → List ℕ
fails_with t code = t ∷ 8 ∷ code ∷ 7 ∷ []

-- a buffer's, with a timestamp below 2^32
abbrev pub buffer_ends : ℕ → ℕ → ℕ → List ℕ
buffer_ends t ts flags = t ∷ 24 ∷ 0x0202 ∷ 7 ∷ ts ∷ 0 ∷ flags ∷ 0 ∷ []

-- the input queue's parameters with that size and rate 0
abbrev pub shows_size : ℕ → ℕ → ℕ → List ℕ
shows_size t width height =
    t ∷ 120 ∷ 0x0203 ∷ 7 ∷ 0x100 ∷ 0x1000 ∷ width ∷ height ∷ 1 ∷ 16 ∷ 0 ∷ 0 ∷ width ∷ height ∷ 0 ∷ 1 ∷ 262144 ∷ 0 ∷ replicate 14 0

-- A command of 7 bytes and of 8; size count 8 and 9; 4,096 and 4,098 wide; clear of an empty queue; one resource number on both queues,
-- queued apart, stopped apart and finished apart; while draining, input refused and output taken
abbrev pub ten_cases : List Case
ten_cases =
    case [] (command 5 (take 7 (word_bytes (0x0103 ∷ 7 ∷ []))) refused 4 ∷ [])
    ∷ case [] (ask_drain 5 gives fails_with 5 0x0302 ∷ [])
    ∷ case both_queues (ask_queue 5 0x100 9 77 8 gives [] ∷ ask_clear 6 0x100 gives (buffer_ends 5 77 1 ++ success_to 6) ∷ [])
    ∷ case both_queues (ask_queue 5 0x100 9 77 9 gives fails_with 5 0x0304 ∷ ask_clear 6 0x100 gives success_to 6 ∷ [])
    ∷ case (ask_create ∷ []) (ask_set 4096 480 gives success_to 5 ∷ ask_get 6 gives shows_size 6 4096 480 ∷ [])
    ∷ case (ask_create ∷ []) (ask_set 4098 480 gives fails_with 5 0x0304 ∷ ask_get 6 gives shows_size 6 640 480 ∷ [])
    ∷ case (ask_create ∷ []) (ask_clear 5 0x100 gives success_to 5 ∷ [])
    ∷ case both_queues
    (ask_queue 5 0x100 9 77 1 gives []
    ∷ ask_queue 6 0x101 9 78 1 gives []
    ∷ ask_clear 8 0x100 gives (buffer_ends 5 77 1 ++ success_to 8)
    ∷ finish 7 0x101 9 0 88 gives buffer_ends 6 88 0
    ∷ [])
    ∷ case both_draining (ask_queue 5 0x100 9 77 1 gives fails_with 5 0x0300 ∷ ask_clear 6 0x100 gives (success_to 4 ++ success_to 6) ∷ [])
    ∷ case both_draining (ask_queue 5 0x101 9 77 1 gives [] ∷ ask_clear 6 0x101 gives (buffer_ends 5 77 1 ++ success_to 6) ∷ [])
    ∷ []

-- all of them pass
abbrev pub TenCases : Type 0
TenCases = all_of passes ten_cases ≡ true

-- How a stream number is spent: a destroyed stream's is not taken again, a refused creation's is, and the last one is 1,023
abbrev pub spent_cases : List Case
spent_cases =
    case (ask_create ∷ ask_destroy ∷ []) (ask_create gives fails_with 1 0x0302 ∷ [])
    ∷ case (ask_bad_create ∷ []) (ask_create gives success_to 1 ∷ [])
    ∷ case [] (ask_create_of 1023 gives (1 ∷ 8 ∷ 0x0200 ∷ 1023 ∷ []) ∷ ask_create_of 1024 gives (1 ∷ 8 ∷ 0x0302 ∷ 1024 ∷ []) ∷ [])
    ∷ []

-- The last picture and its drain: both are answered by one report, also with ERR, and then none is pending; not while an input is Queued; the EOS rule is tested
-- before that; a drained report is for a stream without outputs, of which one that is only Created counts, and without a Queued input;
-- a clear then answers the input before the drain
abbrev pub last_picture_cases : List Case
last_picture_cases =
    case (both_draining ++ ask_queue 5 0x101 9 77 1 ∷ [])
    (drained 7 refused 5 ∷ finish 7 0x101 9 3 88 gives (buffer_ends 5 88 3 ++ success_to 4) ∷ ask_clear 6 0x100 gives success_to 6 ∷ ask_drain 8 gives [] ∷ [])
    ∷ case (both_queues ++ ask_queue 5 0x101 9 77 1 ∷ ask_queue 6 0x100 9 78 1 ∷ ask_drain 4 ∷ [])
    (finish 7 0x101 9 2 88 refused 5 ∷ finish 7 0x100 9 2 0 refused 6 ∷ finish 7 0x100 9 0 0 gives buffer_ends 6 78 0 ∷ finish 7 0x101 9 2 88 gives (buffer_ends 5 88 2 ++ success_to 4) ∷ [])
    ∷ case (both_queues ++ ask_queue 5 0x101 9 77 1 ∷ ask_queue 6 0x100 9 78 1 ∷ []) (finish 7 0x101 9 2 88 refused 6 ∷ [])
    ∷ case (ask_create ∷ ask_resource 0x101 9 ∷ ask_drain 4 ∷ []) (drained 7 refused 5 ∷ [])
    ∷ case (ask_create ∷ ask_resource 0x100 9 ∷ ask_drain 4 ∷ []) (drained 7 gives success_to 4 ∷ ask_drain 5 gives [] ∷ [])
    ∷ case (ask_create ∷ ask_resource 0x100 9 ∷ ask_queue 5 0x100 9 77 1 ∷ ask_drain 4 ∷ [])
    (drained 7 refused 5 ∷ ask_clear 6 0x100 gives (buffer_ends 5 77 1 ++ (success_to 4 ++ success_to 6)) ∷ [])
    ∷ []

-- resource 9 of both queues Queued and a drain pending, by the steps 3, 4 and 6; step 5, a second queueing, gets an error
abbrev pub all_pending : List Act
all_pending = both_queues ++ ask_queue 30 0x101 9 78 1 ∷ ask_queue 20 0x100 9 77 1 ∷ ask_queue 21 0x100 9 79 1 ∷ ask_drain 40 ∷ []

-- Order inside one stream: two steps after others, one way and the other
pub record Order : Type 0 where
  pub earlier : List Act
  pub one : Act
  pub other : Act

abbrev pub order : List Act → Act → Act → Order
order b one other = record { earlier = b; one = one; other = other }

-- what the host gets back of steps after others
abbrev pub events_after : List Act → List Act → List Event
events_after b l = events_of (device_after b) (map roomy l)

-- the refusal number and the bytes of each
abbrev pub shown_by : List Event → List ℕ
shown_by [] = []
shown_by (e ∷ es) = e.refusal ∷ (e.bytes ++ shown_by es)

-- the other way round they give the same, swapped
abbrev pub swaps : Order → Bool
swaps c = same (shown_by (events_after c.earlier (c.other ∷ c.one ∷ []))) (shown_by (swapped (events_after c.earlier (c.one ∷ c.other ∷ []))))

-- they are a run of finish reports without EOS
abbrev pub is_run : Order → Bool
is_run c = all_of (finished_without_eos 7) (events_after c.earlier (c.one ∷ c.other ∷ []))

-- a drain pending: two finishes of one number on both queues; two of one buffer; a finish and a clear; a finish and one with EOS; without outputs a finish and a drained report
abbrev pub order_cases : List Order
order_cases =
    order all_pending (finish 7 0x100 9 0 0) (finish 7 0x101 9 1 88)
    ∷ order all_pending (finish 7 0x101 9 0 88) (finish 7 0x101 9 0 89)
    ∷ order all_pending (finish 7 0x101 9 0 88) (ask_clear 6 0x101)
    ∷ order all_pending (finish 7 0x100 9 0 0) (finish 7 0x101 9 2 88)
    ∷ order (ask_create ∷ ask_resource 0x100 9 ∷ ask_queue 5 0x100 9 77 1 ∷ ask_drain 4 ∷ []) (finish 7 0x100 9 0 0) (drained 7)
    ∷ []

-- What no run shows: only condition 3 asks whose step it is, what is accepted or 'out of memory', what is pending, and which lists there
-- are; and no words of a table stand for a queue of fifteen slots or for a number above 32 bits

-- a step after others, with what the host gets back
abbrev pub event_after : List Act → Act → Event
event_after b a = event_of (roomy a) (step_on (device_after b) (roomy a))

-- the ledger after these steps
abbrev pub ledger_left : List Act → Ledger
ledger_left l = ledger_of (events_of fresh (map roomy l))

-- all pending, and step 7 clears the output
abbrev pub output_cleared : List Act
output_cleared = all_pending ++ ask_clear 8 0x101 ∷ []

-- a device with one stream, whose outputs are these
abbrev pub with_outputs : List Slot → Device
with_outputs s = put_back 7 (Some (with_queue output (with_slots s new_queue) (new_stream 0x1000))) fresh

pub record MoreCases : Type 0 where
  -- though runs show them too: a wrong rule is then refused by a case
  pub spent_numbers : all_of passes spent_cases ≡ true
  pub last_pictures : all_of passes last_picture_cases ≡ true
  -- of these only the first may be swapped, and only it is a run
  pub order_kept : map swaps order_cases ≡ true ∷ false ∷ false ∷ false ∷ false ∷ []
  pub order_promised : map is_run order_cases ≡ true ∷ false ∷ false ∷ false ∷ false ∷ []
  -- one number on both queues is two buffers
  pub two_buffers : same (buffer_named (finish 7 0x100 9 0 0)) (buffer_named (finish 7 0x101 9 0 0)) ≡ false
  -- a command of an unknown type, and a report that is refused, belong to the number in them; a command of 7 bytes belongs to none
  pub owners : map (belongs 7) (
      event_after [] (ask 5 (0x0100 ∷ 7 ∷ []))
      ∷ event_after [] (drained 7)
      ∷ event_after [] (command 5 (take 7 (word_bytes (0x0103 ∷ 7 ∷ []))))
      ∷ [])
      ≡ true ∷ true ∷ false ∷ []
  -- a finish with the flag ERR is accepted, an unsupported control is not
  pub accepts : map accepted (event_after all_pending (finish 7 0x100 9 1 0) ∷ event_after all_pending (ask 5 (0x010A ∷ 7 ∷ 0 ∷ 0 ∷ [])) ∷ []) ≡ true ∷ false ∷ []
  -- error answers end at 0x0305
  pub last_error : is_error (record { ticket = 5; response = word_bytes (0x0306 ∷ 7 ∷ []) }) ≡ false
  -- 0x0301 to a ninth creation is 'out of memory', to a seventeenth resource it is not
  pub out_of_memory_lem : map out_of_memory_at (
      event_after (map ask_create_of (0 ∷ 1 ∷ 2 ∷ 3 ∷ 4 ∷ 5 ∷ 6 ∷ 8 ∷ [])) ask_create
      ∷ event_after (ask_create ∷ map (ask_resource 0x100) (0 ∷ 1 ∷ 2 ∷ 3 ∷ 4 ∷ 5 ∷ 6 ∷ 7 ∷ 8 ∷ 9 ∷ 10 ∷ 11 ∷ 12 ∷ 13 ∷ 14 ∷ 15 ∷ [])) (ask_resource 0x100 16)
      ∷ [])
      ≡ true ∷ false ∷ []
  -- an accepted queueing or drain is pending under its step number, another is not, and an output clear completes no drain
  pub left_pending : ledger_left output_cleared
      ≡ record { step_number = 6; ticket = 40; stream = 7; awaited = to_drain } ∷ record { step_number = 4; ticket = 20; stream = 7; awaited = to_buffer 0x100 9 77 } ∷ []
  -- by the record the same is pending
  pub record_pending : outstanding_in (record_of 7 (device_after output_cleared).places) ≡ outstanding 20 (to_buffer 0x100 9 77) ∷ outstanding 40 to_drain ∷ []
  -- a destruction completes the input, the output, the drain, and then answers itself
  pub completed_in_order : expected_tickets (noted 7 ask_destroy true true) (ledger_left all_pending) ≡ 20 ∷ 30 ∷ 40 ∷ 6 ∷ []
  -- a finish with EOS completes its buffer and then the drain, one without it the buffer alone
  pub completed_by_finish : map (λ (flags : ℕ). expected_tickets (noted 7 (finish 7 0x101 9 flags 88) true true) (ledger_left all_pending)) (1 ∷ 2 ∷ 3 ∷ [])
      ≡ (30 ∷ []) ∷ (30 ∷ 40 ∷ []) ∷ (30 ∷ 40 ∷ []) ∷ []
  -- a queue has sixteen slots, and a resource number fits its word
  pub record_rules : map (λ (s : List Slot). well_formed (with_outputs s)) (replicate 15 free ∷ (resource 0x100000000 created ∷ replicate 15 free) ∷ []) ≡ false ∷ false ∷ []
  -- the lists of condition 3 have finishes of any numbers in the host's types
  pub any_finish : good_act (finish 0xFFFFFFFF 0xFFFFFFFF 0xFFFFFFFF 0xFFFFFFFF 0xFFFFFFFFFFFFFFFF) ≡ true
