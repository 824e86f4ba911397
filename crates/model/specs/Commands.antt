-- What each command does to the record of its own stream: document 01, "Guest errors" and "The commands". Besides that record a command
-- sees only its surroundings, and only a creation looks at them. In each definition c is the request, f its frame, b the stream's record and q
-- the queue that the frame names.
use Rattle.std.specs.Prelude.{ℕ, zero, suc, ◌+◌, ◌*◌, ◌/◌, ◌%◌, ◌^◌, Bool, false, cond, not, ◌&&◌, ◌||◌, List, [], ◌∷◌, ◌++◌, map, length, take, drop, replicate, eqb, ltb}
use Rattle.std.specs.Prelude.{Option, None, Some}
use Rattle.laws.specs.Tests.{within}
use Rattle.laws.specs.InOrder.{TestList, accept, ◌⇒◌then◌, by_tests}
use Rattle.laws.specs.Lists.{is_empty, is_none, to_list, total}
use Rattle.tag.specs.Tag.{good_tag, tag_in}
use Rattle.model.specs.Numbers.{queue_slots, max_planes, first_coded, last_coded, nv12, err}
use Rattle.model.specs.Device.{QueueType, input, output, is_input, queued, Queue, Stream, new_stream, queue_of, with_queue, with_drain, with_slots, Buffer, queued_in, buffers, buffer_of, present, no_slot, add_resource, set_state, stop_all, free_all}
use Rattle.model.specs.Frames.{QueueCommand, create_resource, queue_resource, destroy_all, clear, get_parameters, set_parameters, LiveCommand, destroy, drain, control, to_queue, Command, create, live, CommandRule, rule_of, wrong_length, queue_number, queue_named, command_type, in_mem_type, out_mem_type, coded_format, queue_type, resource_id, planes_layout, num_planes, num_entries, entries_start, entries, entry_bytes, entry_addr, entry_length, timestamp_sent, num_data_sizes, format_sent, frame_width, frame_height, frame_rate}
use Rattle.model.specs.Answers.{ErrorCode, invalid_operation, out_of_memory, invalid_stream, invalid_resource, invalid_parameter, unsupported_control, success, buffer_done, drain_done, parameters, Answer}
use Rattle.model.specs.Replies.{Reply, reply, Request, own, fail}

-- what a creation sees besides its own stream: whether every stream place holds something, and whether its number may not be taken
pub record Surroundings : Type 0 where
  pub full : Bool
  pub unusable : Bool

-- the same surroundings, full or not
abbrev pub with_full : Bool → Surroundings → Surroundings
with_full f around = record { full = f; unusable = around.unusable }

-- plain success, and the record that is left
abbrev pub succeed : Request → Option Stream → TestList ErrorCode Reply
succeed c next = accept (reply (own c success ∷ []) next)

-- 0x0101 create
unfoldable pub on_create : Surroundings → Request → Reply
on_create around c =
    let f = c.frame in
    by_tests (fail c)
    (not (eqb (in_mem_type f) 0) ⇒ invalid_parameter then
    not (eqb (out_mem_type f) 0) ⇒ invalid_parameter then
    not (within (coded_format f) first_coded last_coded) ⇒ invalid_parameter then
    not (good_tag (tag_in f)) ⇒ invalid_parameter then
    around.full ⇒ out_of_memory then
    succeed c (Some (new_stream (coded_format f))))

-- the answers to buffers of stream n that a clear or a destroy stops: their own timestamp, flag ERR
abbrev pub stopped_answers : ℕ → QueueType → List Buffer → List Answer
stopped_answers n q = map (λ (i : Buffer). record { ticket = i.ticket; stream = n; response = buffer_done q i.timestamp err })

-- the drain that a step ends: the stream's pending one, if there is one; none where the step ends no drain
abbrev pub drain_ended : Bool → Stream → Option ℕ
drain_ended ends b = cond ends b.draining None

-- the record without the drain that the step ends
abbrev pub without_ended : Bool → Stream → Stream
without_ended ends b = cond ends (with_drain None b) b

-- the answer to a drain, if there is one
abbrev pub drain_answers : ℕ → Option ℕ → List Answer
drain_answers n d = map (λ (t : ℕ). record { ticket = t; stream = n; response = drain_done }) (to_list d)

-- 0x0102 destroy: Queued inputs, outputs, a pending drain, itself; the stream is freed
unfoldable pub on_destroy : Request → Stream → Reply
on_destroy c b =
    let n = c.stream in
    reply
    (stopped_answers n input (buffers input b) ++ (stopped_answers n output (buffers output b) ++ (drain_answers n b.draining ++ own c success ∷ [])))
    None

-- 0x0103 drain
unfoldable pub on_drain : Request → Stream → Reply
on_drain c b =
    by_tests (fail c)
    (not (is_none b.draining) ⇒ invalid_operation then
    accept (reply [] (Some (with_drain (Some c.ticket) b))))

-- one of the first k entries has length 0, or an address + length above 2^64
abbrev pub bad_entry : ℕ → List ℕ → Bool
bad_entry zero es = false
bad_entry (suc k) es = eqb (entry_length es) 0 || (ltb (2 ^ 64) (entry_addr es + entry_length es) || bad_entry k (drop entry_bytes es))

-- 0x0104 resource create; `sum` is the true sum of the entry counts of the planes
unfoldable pub on_create_resource : Request → Stream → QueueType → Reply
on_create_resource c b q =
    let f = c.frame in
    let r = resource_id f in
    let s = (queue_of q b).slots in
    let sum = total (take (num_planes f) (num_entries f)) in
    by_tests (fail c)
    (not (within (planes_layout f) 1 2) ⇒ invalid_parameter then
    not (within (num_planes f) 1 max_planes) ⇒ invalid_parameter then
    not (within sum 1 256) ⇒ invalid_parameter then
    not (eqb (length f) (entries_start + entry_bytes * sum)) ⇒ invalid_parameter then
    bad_entry sum (entries f) ⇒ invalid_parameter then
    present r s ⇒ invalid_resource then
    no_slot s ⇒ out_of_memory then
    succeed c (Some (with_queue q (with_slots (add_resource r s) (queue_of q b)) b)))

-- an input while draining
abbrev pub input_draining : QueueType → Stream → Bool
input_draining q b = is_input q && not (is_none b.draining)

-- 0x0105 queue: no answer now, the ticket and timestamp are kept
unfoldable pub on_queue : Request → Stream → QueueType → Reply
on_queue c b q =
    let f = c.frame in
    let r = resource_id f in
    let s = (queue_of q b).slots in
    by_tests (fail c)
    (ltb max_planes (num_data_sizes f) ⇒ invalid_parameter then
    input_draining q b ⇒ invalid_operation then
    not (present r s) ⇒ invalid_resource then
    not (is_none (buffer_of r (queued_in s))) ⇒ invalid_operation then
    accept (reply [] (Some (with_queue q (with_slots (set_state r (queued c.ticket (timestamp_sent f)) s) (queue_of q b)) b))))

-- 0x0106 destroy all
unfoldable pub on_destroy_all : Request → Stream → QueueType → Reply
on_destroy_all c b q =
    let s = (queue_of q b).slots in
    by_tests (fail c)
    (not (is_empty (queued_in s)) ⇒ invalid_operation then
    succeed c (Some (with_queue q (with_slots (free_all s) (queue_of q b)) b)))

-- every Queued buffer Dequeued
abbrev pub cleared : Queue → Queue
cleared q = with_slots (stop_all q.slots) q

-- 0x0107 clear: the queue's Queued buffers, for input a pending drain, itself
unfoldable pub on_clear : Request → Stream → QueueType → Reply
on_clear c b q =
    let n = c.stream in
    reply
    (stopped_answers n q (buffers q b) ++ (drain_answers n (drain_ended (is_input q) b) ++ own c success ∷ []))
    (Some (with_queue q (cleared (queue_of q b)) (without_ended (is_input q) b)))

-- the plane count and its 8 pairs of size and stride
abbrev pub planes : QueueType → Queue → List ℕ
planes input q = 1 ∷ 262144 ∷ 0 ∷ replicate 14 0
planes output q = 2 ∷ q.width * q.height ∷ q.width ∷ q.width * q.height / 2 ∷ q.width ∷ replicate 12 0

-- an input queue has the stream's coded format, an output queue NV12
abbrev pub format_of : QueueType → Stream → ℕ
format_of input b = b.format
format_of output b = nv12

-- the 28 words of parameters: queue type, format, width, height, minimum and maximum of buffers, crop, rate, planes
unfoldable pub parameter_words : QueueType → Stream → List ℕ
parameter_words t b =
    let q = queue_of t b in
    queue_number t ∷ format_of t b ∷ q.width ∷ q.height ∷ 1 ∷ queue_slots ∷ 0 ∷ 0 ∷ q.width ∷ q.height ∷ q.rate ∷ planes t q

-- 0x0108 get
unfoldable pub on_get : Request → Stream → QueueType → Reply
on_get c b q = reply (own c (parameters (parameter_words q b)) ∷ []) c.self

-- a good width or height: from 16 to 4,096, and even
abbrev pub good_extent : ℕ → Bool
good_extent v = within v 16 4096 && eqb (v % 2) 0

-- a bad one: odd, or outside 16 to 4,096
abbrev pub bad_extent : ℕ → Bool
bad_extent v = not (good_extent v)

-- the queue with other parameters
abbrev pub with_parameters : ℕ → ℕ → ℕ → Queue → Queue
with_parameters w h rate q = record { width = w; height = h; rate = rate; slots = q.slots }

-- 0x0109 set
unfoldable pub on_set : Request → Stream → QueueType → Reply
on_set c b q =
    let f = c.frame in
    by_tests (fail c)
    (not (eqb (format_sent f) (format_of q b)) ⇒ invalid_parameter then
    bad_extent (frame_width f) ⇒ invalid_parameter then
    bad_extent (frame_height f) ⇒ invalid_parameter then
    not (is_empty (queued_in (queue_of q b).slots)) ⇒ invalid_operation then
    succeed c (Some (with_queue q (with_parameters (frame_width f) (frame_height f) (frame_rate f) (queue_of q b)) b)))

-- a command to a queue
abbrev pub on_queue_of : QueueCommand → Request → Stream → QueueType → Reply
on_queue_of create_resource c b q = on_create_resource c b q
on_queue_of queue_resource c b q = on_queue c b q
on_queue_of destroy_all c b q = on_destroy_all c b q
on_queue_of clear c b q = on_clear c b q
on_queue_of get_parameters c b q = on_get c b q
on_queue_of set_parameters c b q = on_set c b q

-- the queue is named first in each of their lists; a bad queue type is an invalid parameter
abbrev pub on_named : QueueCommand → Request → Stream → Option QueueType → Reply
on_named k c b None = fail c invalid_parameter
on_named k c b (Some q) = on_queue_of k c b q

-- a command to a live stream
abbrev pub on_live : LiveCommand → Request → Stream → Reply
on_live destroy c b = on_destroy c b
on_live drain c b = on_drain c b
on_live control c b = fail c unsupported_control
on_live (to_queue k) c b = on_named k c b (queue_named (queue_type c.frame))

-- The order that all commands share: the type, the length, whether the stream is live or for a creation whether its number may be taken, the
-- command's own list

-- a creation is for a number never used before, all other commands are for a live one
abbrev pub on_stream : Surroundings → Request → Command → Option Stream → Reply
on_stream around c create self = cond around.unusable (fail c invalid_stream) (on_create around c)
on_stream around c (live k) None = fail c invalid_stream
on_stream around c (live k) (Some b) = on_live k c b

-- a type without a rule is an invalid operation; a wrong length is an invalid parameter
abbrev pub on_rule : Surroundings → Request → Option CommandRule → Reply
on_rule around c None = fail c invalid_operation
on_rule around c (Some l) = cond (wrong_length l.length_rule (length c.frame)) (fail c invalid_parameter) (on_stream around c l.command c.self)

-- a command, by its type
unfoldable pub on_command : Surroundings → Request → Reply
on_command around c = on_rule around c (rule_of (command_type c.frame))
