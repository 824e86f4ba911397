-- What the back end's reports do to the record of their stream n: document 01, "Host refusals" 5 and 6, as request 9 of document 02 amends them, and the
-- lifecycle.
use Rattle.std.specs.Prelude.{ℕ, ◌+◌, Bool, cond, not, ◌&&◌, ◌||◌, List, [], ◌∷◌, ltb, leb}
use Rattle.std.specs.Prelude.{Option, None, Some}
use Rattle.laws.specs.Lists.{is_empty, is_none}
use Rattle.model.specs.Numbers.{err, eos}
use Rattle.model.specs.Device.{QueueType, input, output, is_input, dequeued, Stream, queue_of, with_queue, with_drain, with_slots, Buffer, queued_in, buffer_of, no_resource, set_state}
use Rattle.model.specs.Frames.{queue_named}
use Rattle.model.specs.Answers.{buffer_done, drain_done, Answer}
use Rattle.model.specs.Replies.{Reply, refuse, reply}
use Rattle.model.specs.Commands.{drain_ended, without_ended, drain_answers}

-- a buffer's timestamp in its answer: an input's own, an output's the report's
abbrev pub timestamp_of : QueueType → Buffer → ℕ → ℕ
timestamp_of input i ts = i.timestamp
timestamp_of output i ts = ts

-- the flags have EOS. Those above ERR + EOS are refused before.
abbrev pub has_eos : ℕ → Bool
has_eos flags = leb eos flags

-- EOS on an input, or with no drain pending
abbrev pub bad_eos : ℕ → QueueType → Stream → Bool
bad_eos flags q b = has_eos flags && (is_input q || is_none b.draining)

-- an input is Queued
abbrev pub input_queued : Stream → Bool
input_queued b = not (is_empty (queued_in b.inputs.slots))

-- EOS while an input is Queued
abbrev pub early_eos : ℕ → Stream → Bool
early_eos flags b = has_eos flags && input_queued b

-- the answers of a finish: its buffer's, and behind it that of the drain, which EOS ends
abbrev pub finish_answers : ℕ → ℕ → ℕ → Stream → QueueType → Buffer → List Answer
finish_answers n flags ts b q i =
    record { ticket = i.ticket; stream = n; response = buffer_done q (timestamp_of q i ts) flags } ∷ drain_answers n (drain_ended (has_eos flags) b)

-- the record after it: the resource is Dequeued, and with EOS no drain is pending
abbrev pub finish_leaves : ℕ → ℕ → Stream → QueueType → Stream
finish_leaves r flags b q = with_queue q (with_slots (set_state r dequeued (queue_of q b).slots) (queue_of q b)) (without_ended (has_eos flags) b)

-- a finish of the buffer that the report names, if there is one now Queued
abbrev pub finish_buffer : ℕ → ℕ → ℕ → ℕ → Stream → QueueType → Option Buffer → Reply
finish_buffer n r flags ts b q None = refuse 5 (Some b)
finish_buffer n r flags ts b q (Some i) =
    cond (bad_eos flags q b) (refuse 6 (Some b))
    (cond (early_eos flags b) (refuse 5 (Some b))
    (reply (finish_answers n flags ts b q i) (Some (finish_leaves r flags b q))))

-- and of the queue that it names
abbrev pub finish_queue : ℕ → ℕ → ℕ → ℕ → Stream → Option QueueType → Reply
finish_queue n r flags ts b None = refuse 5 (Some b)
finish_queue n r flags ts b (Some q) = finish_buffer n r flags ts b q (buffer_of r (queued_in (queue_of q b).slots))

-- and of the stream that it names
abbrev pub finish_stream : ℕ → ℕ → ℕ → ℕ → ℕ → Option Stream → Reply
finish_stream n qt r flags ts None = refuse 5 None
finish_stream n qt r flags ts (Some b) = finish_queue n r flags ts b (queue_named qt)

-- finish: queue type, resource, flags, timestamp
unfoldable pub on_finish : ℕ → ℕ → ℕ → ℕ → ℕ → Option Stream → Reply
on_finish n qt r flags ts self = cond (ltb (err + eos) flags) (refuse 6 self) (finish_stream n qt r flags ts self)

-- no input is Queued, and there is no output resource: no picture is left that EOS could mark
abbrev pub drain_over : Stream → Bool
drain_over b = not (input_queued b) && no_resource b.outputs.slots

-- a pending drain is answered where it is over
abbrev pub answer_drain : ℕ → Stream → Option ℕ → Reply
answer_drain n b None = refuse 5 (Some b)
answer_drain n b (Some t) =
    cond (drain_over b)
    (reply (record { ticket = t; stream = n; response = drain_done } ∷ []) (Some (with_drain None b)))
    (refuse 5 (Some b))

-- drained
unfoldable pub on_drained : ℕ → Option Stream → Reply
on_drained n None = refuse 5 None
on_drained n (Some b) = answer_drain n b b.draining
