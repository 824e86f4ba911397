-- The steps of a command to a live stream: its queues' words in the block, and the replies that its answers and its changes amount to.
use mathlib.Core.Path.{◌≡◌, refl}
use mathlib.Core.Bool.{true, false, ◌&&◌}
use Rattle.std.specs.Prelude.{Option, Some}
use mathlib.Core.List.{List, [], ◌∷◌}
use Prim.Native.Nat.{ℕ, ◌+◌, ◌-◌, ◌≤◌, ◌%◌}
use lib.ListN.{length}
use lib.Dec.{eqb}
use borrow.Author.Tests.{not-false}
use Rattle.laws.specs.Parts.{part, with_part}
use Rattle.laws.specs.Tests.{within}
use Rattle.laws.specs.Stores.{Wrote}
use Rattle.laws.proofs.Tests.{and_left, within_bounds}
use Rattle.laws.proofs.Stores.{wrote_none}
use Rattle.model.specs.Device.{QueueType, Queue, Stream, occupied, queue_of, with_queue, place}
use Rattle.model.specs.Answers.{ErrorCode as Meant, code, Response, success, failure, Answer, response_type, payload, bytes_of}
use Rattle.model.specs.Replies.{Reply, reply, Request, fail}
use Rattle.model.specs.Commands.{bad_extent}
use Rattle.model.proofs.Slots.{Distinct}
use Rattle.model.proofs.WellFormed.{GoodQueue, stream_is, good_queue_of}
use Rattle.queue.specs.Words.{queue_words}
use Rattle.table.specs.Blocks.{queue_start, place_words}
use Rattle.table.specs.Search.{has_all_slots}
use Rattle.table.proofs.Records.{queue_sized, queue_read_lem, queue_lent}
use Rattle.answer.specs.Answer.{answer_to, plain_bytes}
use Rattle.answer.proofs.Laws.{wrote_plain}
use Rattle.protocol.specs.declared.codes.ErrorCode.{ErrorCode}
use Rattle.protocol.specs.Codes.{error_meant}
use Rattle.stream.specs.Replied.{BlockOf, Replied, Failed}

-- A block that holds the live stream n with the record b

module _ {n : ℕ} {l : List ℕ} {b : Stream} (h : BlockOf n l b) where
  -- its queue q: sixteen slots, no number twice, a width and a height within their limits
  good_queue_lem : (q : QueueType) → GoodQueue (queue_of q b)
  good_queue_lem q = good_queue_of q b (stream_is b h.good)

  pub slot_count : (q : QueueType) → length (queue_of q b).slots ≡ 16
  slot_count q = (good_queue_lem q).slots.size

  pub slots_distinct : (q : QueueType) → Distinct (queue_of q b).slots
  slots_distinct q = (good_queue_lem q).slots.apart

  pub width_good : (q : QueueType) → bad_extent (queue_of q b).width ≡ false
  width_good q = (good_queue_lem q).width

  pub height_good : (q : QueueType) → bad_extent (queue_of q b).height ≡ false
  height_good q = (good_queue_lem q).height

  whole : has_all_slots (occupied n b) ≡ true
  whole = queue_sized n b slot_count

  -- its words are read, or lent and come back as those of the queue x
  module _ (q : QueueType) (a : ℕ) (at : a ≡ queue_start q) where
    pub queue_words_lem : part a (a + 84 - a) l ≡ queue_words (queue_of q b)
    queue_words_lem = queue_read_lem n b whole q a at l h.held

    pub queue_back : (ys : List ℕ) (x : Queue) → (part a (a + 84 - a) l ≡ queue_words (queue_of q b) → ys ≡ queue_words x)
        → with_part a (a + 84 - a) l ys ≡ place_words (occupied n (with_queue q x b))
    queue_back ys x back = queue_lent n b whole q a at l h.held ys x back

-- a width or a height within its limits
pub extent_most : (v : ℕ) → bad_extent v ≡ false → v ≤ 4096
extent_most v h = (within_bounds v 16 4096 (and_left (within v 16 4096) (eqb (v % 2) 0) (not-false (within v 16 4096 && eqb (v % 2) 0) h))).1

-- A reply that is known by its answers and its next record

module _ {n : ℕ} {v : Reply} {block room room' : List ℕ} {written : ℕ} where
  pub replied_by : (l : List Answer) (next : Option Stream) → v ≡ reply l next → block ≡ place_words (place n next) → Wrote room room' 0 written (bytes_of l) → Replied n v block room room' written
  replied_by l next e w x = record { words = rw e w; bytes = rw e x }

  -- one plain answer under the ticket t
  answered_plain : (t : ℕ) (p : Response) (next : Option Stream) → payload p ≡ [] → v ≡ reply (answer_to t n p ∷ []) next
      → block ≡ place_words (place n next) → Wrote room room' 0 written (plain_bytes t (response_type p) n) → Replied n v block room room' written
  answered_plain t p next is e w x = replied_by (answer_to t n p ∷ []) next e w (wrote_plain t n p is x)

  -- plain success, and a block that holds the next record
  pub succeeded : (t : ℕ) (next : Option Stream) → v ≡ reply (answer_to t n success ∷ []) next → block ≡ place_words (place n next) → Wrote room room' 0 written (plain_bytes t (response_type success) n)
      → Replied n v block room room' written
  succeeded t next e w x = answered_plain t success next refl e w x

  -- an error, and a block that stays
  pub error_answered : {b : Stream} (t : ℕ) (e : Meant) → BlockOf n block b → v ≡ reply (answer_to t n (failure e) ∷ []) (Some b) → Wrote room room' 0 written (plain_bytes t (code e) n)
      → Replied n v block room room' written
  error_answered {b} t e h is x = answered_plain t (failure e) (Some b) refl is h.held x

-- an error that is not written yet
pub failed : {c : Request} {v : Reply} {block room : List ℕ} (e : ErrorCode) → v ≡ fail c (error_meant e) → Failed c v block block room room e
failed e is = record { error = is; block_stays = refl; room_stays = refl }

-- no answer, and a block that holds the next record
pub silent : {n : ℕ} {v : Reply} {block : List ℕ} (room : List ℕ) (next : Option Stream) → v ≡ reply [] next → block ≡ place_words (place n next) → Replied n v block room room 0
silent room next e w = replied_by [] next e w (wrote_none room 0)
