-- The rule of document 01 that change request 5 struck, for one theorem: each queue of a live stream has a clear-in-progress mark, and a queueing
-- on a queue whose mark stands is refused. It is written around the present step, with the marks beside the device. This file is the only one
-- that names both rules, and only its proof uses it.
use Rattle.std.specs.Prelude.{ℕ, ◌+◌, ◌*◌, ◌<◌, ◌≤◌, ◌≡◌, Bool, true, false, cond, not, ◌&&◌, List, [], ◌∷◌, ◌++◌, map, length, get_or, set, drop, eqb, ltb}
use Rattle.std.specs.Prelude.{Option, None, Some}
use Rattle.laws.specs.Lists.{is_none}
use Rattle.laws.specs.Parts.{pieces}
use Rattle.model.specs.Numbers.{table_words, answer_room, stream_places, max_planes}
use Rattle.model.specs.Device.{QueueType, input, output, Place, vacant, occupied, Device, fresh, record_of}
use Rattle.model.specs.Frames.{queue_number, queue_named, queue_type, stream_id, num_data_sizes}
use Rattle.model.specs.Answers.{invalid_operation, failure}
use Rattle.model.specs.Steps.{Act, command, finish, drained, Step, DeviceReply, step_on, Event, event_of, accepted}
use Rattle.model.specs.Ledger.{is_type, step_stream, step_ticket}
use Rattle.model.specs.WellFormed.{good_steps}
use Rattle.model.specs.Tables.{untouched, effect, freshen, table_events, table_final}
use Rattle.model.specs.Cases.{Expected, ◌gives◌, roomy, agrees, all_agree, device_after, ask, ask_create, ask_destroy, ask_resource, ask_queue, ask_clear, both_queues, success_to, fails_with}
use Rattle.table.specs.Blocks.{place_size, queue_start, place_words, behind, layout}

-- whether the mark of a queue of a stream stands
abbrev pub Marks : Type 0
Marks = ℕ → QueueType → Bool

-- a device with marks
pub record MarkedDevice : Type 0 where
  pub device : Device
  pub marks : Marks

-- The rule

-- the mark of the queue that a frame names, if it names one
abbrev pub mark_of : Marks → ℕ → Option QueueType → Bool
mark_of m n None = false
mark_of m n (Some q) = m n q

-- A queueing comes to its mark behind the tests of its length, of its stream, of its queue type and of its size count. That of an input while
-- draining stands before it too, and has the same answer.
unfoldable pub mark_hits : MarkedDevice → Act → Bool
mark_hits d (command t f) =
    is_type 0x0105 f && (eqb (length f) 64 && (not (is_none (record_of (stream_id f) d.device.places))
    && (not (ltb max_planes (num_data_sizes f)) && mark_of d.marks (stream_id f) (queue_named (queue_type f)))))
mark_hits d (finish n qt r flags ts) = false
mark_hits d (drained n) = false

-- it is answered 0x0300, and the device stays
abbrev pub mark_answer : Device → Act → DeviceReply
mark_answer d a = record { refusal = 0; answers = record { ticket = step_ticket a; stream = step_stream a; response = failure invalid_operation } ∷ []; device = d }

-- a step: where it is not refused, a standing mark is answered; otherwise it is the present step
unfoldable pub marked_step : MarkedDevice → Step → DeviceReply
marked_step d s =
    let o : DeviceReply = step_on d.device s in
    cond (eqb o.refusal 0 && mark_hits d s.act) (mark_answer d.device s.act) o

-- a clear of that queue
abbrev pub is_clear_of : ℕ → QueueType → Act → Bool
is_clear_of n q (command t f) = is_type 0x0107 f && (eqb (stream_id f) n && eqb (queue_type f) (queue_number q))
is_clear_of n q (finish m qt r flags ts) = false
is_clear_of n q (drained m) = false

-- the marks after a step: one stays where its stream was live, and so a new stream has none; a clear drops that of its queue
unfoldable pub marks_after : MarkedDevice → Event → Marks
marks_after d e n q = d.marks n q && (not (is_none (record_of n d.device.places)) && not (accepted e && is_clear_of n q e.step.act))

-- the marked device after a step
abbrev pub marked_after : MarkedDevice → Step → MarkedDevice
marked_after d s = record { device = (marked_step d s).device; marks = marks_after d (event_of s (marked_step d s)) }

-- the events of a list, and the marked device at its end
abbrev pub marked_events : MarkedDevice → List Step → List Event
marked_events d [] = []
marked_events d (s ∷ ss) = event_of s (marked_step d s) ∷ marked_events (marked_after d s) ss

abbrev pub marked_final : MarkedDevice → List Step → MarkedDevice
marked_final d [] = d
marked_final d (s ∷ ss) = marked_final (marked_after d s) ss

-- no stream and no mark
abbrev pub marked_fresh : MarkedDevice
marked_fresh = record { device = fresh; marks = λ n q. false }

-- Its table: the present one, but for the first word of each queue of a live stream, which is its mark

-- a mark is one word, 0 or 1
abbrev pub mark_word : Bool → ℕ
mark_word true = 1
mark_word false = 0

-- the words of a place
unfoldable pub marked_words : Marks → Place → List ℕ
marked_words m vacant = place_words vacant
marked_words m (occupied n b) = set (set (place_words (occupied n b)) (queue_start input) (mark_word (m n input))) (queue_start output) (mark_word (m n output))

-- the used words
unfoldable pub marked_encode : MarkedDevice → List ℕ
marked_encode d = pieces (marked_words d.marks) d.device.places ++ behind d.device.spent d.device.places

-- The theorem: from a fresh table no list of steps tells the two rules apart

-- no mark stands, and results, bytes and table, word for word, are those of the present definitions
pub record SameWithMarks (t : List ℕ) (ss : List Step) : Type 0 where
  pub no_mark : (n : ℕ) (q : QueueType) → (marked_final marked_fresh ss).marks n q ≡ false
  pub events : marked_events marked_fresh ss ≡ table_events layout (freshen layout t).table ss
  pub table : marked_encode (marked_final marked_fresh ss) ++ drop table_words t ≡ table_final layout (freshen layout t).table ss

-- after every list
abbrev pub NoClearInProgress : Type 0
NoClearInProgress = (t : List ℕ) (ss : List Step) → table_words ≤ length t → good_steps ss ≡ true → SameWithMarks t ss

-- a table with anything but zero in a word that was a mark is refused with 2, whatever the step
abbrev pub MarkRefused : Type 0
MarkRefused =
    (t : List ℕ) (a : Act) (room : List ℕ) (k : ℕ) (q : QueueType) → table_words ≤ length t → answer_room ≤ length room → k < stream_places
    → (get_or t (place_size * k + queue_start q) 0 ≡ 0 → ⊥) → effect layout t a room ≡ untouched 2 t room

-- Where a mark stands the two rules differ

-- a device with the mark of one queue of stream 7
abbrev pub marked_at : QueueType → Device → MarkedDevice
marked_at q d = record { device = d; marks = λ n p. eqb n 7 && eqb (queue_number p) (queue_number q) }

-- stream 7 has resource 9 on both queues
abbrev pub marked7 : QueueType → MarkedDevice
marked7 q = marked_at q (device_after both_queues)

-- each step on the marked device that the last one left
abbrev pub marked_agree : MarkedDevice → List Expected → Bool
marked_agree d [] = true
marked_agree d (l ∷ ls) = agrees l (marked_step d (roomy l.act)) && marked_agree (marked_after d (roomy l.act)) ls

-- a queueing of the input's resource, with a size count; it is refused by its mark, or taken where there is none
abbrev pub ask_input : ℕ → Act
ask_input sizes = ask_queue 5 0x100 9 77 sizes

abbrev pub mark_stops : Expected
mark_stops = ask_input 1 gives fails_with 5 0x0300

abbrev pub mark_missing : Expected
mark_missing = ask_input 1 gives []

pub record MarkCase : Type 0 where
  -- the mark stands in word 8 or in word 92
  pub input_words : map (λ i. get_or (marked_encode (marked7 input)) i 0) (8 ∷ 92 ∷ []) ≡ 1 ∷ 0 ∷ []
  pub output_words : map (λ i. get_or (marked_encode (marked7 output)) i 0) (8 ∷ 92 ∷ []) ≡ 0 ∷ 1 ∷ []
  -- without the mark the queueing is taken, with it refused, but for that of the other queue
  pub differ : all_agree (marked7 input).device (mark_missing ∷ []) && marked_agree (marked7 input) (mark_stops ∷ []) && marked_agree (marked7 output) (mark_missing ∷ []) ≡ true
  -- a wrong length and a size count above 8 are told before the mark, an absent number is not
  pub list_order : marked_agree (marked7 input)
      (ask 5 (0x0105 ∷ 7 ∷ 0x100 ∷ 9 ∷ []) gives fails_with 5 0x0304 ∷ ask_input 9 gives fails_with 5 0x0304 ∷ ask_queue 5 0x100 8 77 1 gives fails_with 5 0x0300 ∷ [])
      ≡ true
  -- a clear of the other queue leaves the mark, and one of the queue itself drops it
  pub dropped : marked_agree (marked7 input) (ask_clear 6 0x101 gives success_to 6 ∷ mark_stops ∷ ask_clear 6 0x100 gives success_to 6 ∷ mark_missing ∷ []) ≡ true
  -- where the stream is gone the mark does not count, and a new stream has none
  pub gone : marked_agree (marked7 input) (ask_destroy gives success_to 6 ∷ ask_input 1 gives fails_with 5 0x0302 ∷ []) ≡ true
  pub anew : marked_agree (marked_at input fresh) (ask_create gives success_to 1 ∷ ask_resource 0x100 9 gives success_to 2 ∷ mark_missing ∷ []) ≡ true
