-- What is left of each command's tests behind a good frame: those of the stream's record, in the model's order. q is the queue that the frame
-- names. A bridge between the code and the model: it need not be read to believe the contracts of the exported functions.
use Rattle.std.specs.Prelude.{not, []}
use Rattle.std.specs.Prelude.{Some}
use Rattle.laws.specs.InOrder.{TestList, accept, ◌⇒◌then◌}
use Rattle.laws.specs.Lists.{is_empty, is_none}
use Rattle.model.specs.Device.{QueueType, queued, Stream, new_stream, queue_of, with_queue, with_slots, queued_in, buffer_of, present, no_slot, add_resource, set_state}
use Rattle.model.specs.Frames.{coded_format, resource_id, timestamp_sent, frame_width, frame_height, frame_rate}
use Rattle.model.specs.Answers.{ErrorCode, invalid_operation, out_of_memory, invalid_resource}
use Rattle.model.specs.Replies.{Reply, reply, Request}
use Rattle.model.specs.Commands.{Surroundings, succeed, input_draining, with_parameters}

-- 0x0101
abbrev pub rest_of_create : Surroundings → Request → TestList ErrorCode Reply
rest_of_create around c =
    around.full ⇒ out_of_memory then
    succeed c (Some (new_stream (coded_format c.frame)))

-- 0x0104
abbrev pub rest_of_resource : Request → Stream → QueueType → TestList ErrorCode Reply
rest_of_resource c b q =
    let r = resource_id c.frame in
    let s = (queue_of q b).slots in
    present r s ⇒ invalid_resource then
    no_slot s ⇒ out_of_memory then
    succeed c (Some (with_queue q (with_slots (add_resource r s) (queue_of q b)) b))

-- 0x0105
abbrev pub rest_of_queue : Request → Stream → QueueType → TestList ErrorCode Reply
rest_of_queue c b q =
    let r = resource_id c.frame in
    let s = (queue_of q b).slots in
    input_draining q b ⇒ invalid_operation then
    not (present r s) ⇒ invalid_resource then
    not (is_none (buffer_of r (queued_in s))) ⇒ invalid_operation then
    accept (reply [] (Some (with_queue q (with_slots (set_state r (queued c.ticket (timestamp_sent c.frame)) s) (queue_of q b)) b)))

-- 0x0109
abbrev pub rest_of_set : Request → Stream → QueueType → TestList ErrorCode Reply
rest_of_set c b q =
    let f = c.frame in
    not (is_empty (queued_in (queue_of q b).slots)) ⇒ invalid_operation then
    succeed c (Some (with_queue q (with_parameters (frame_width f) (frame_height f) (frame_rate f) (queue_of q b)) b))
