-- Laws of the reports, of a clear and of a destroy on a stream's block.
use mathlib.Core.Path.{◌≡◌, refl, sym, ap, ◌∙◌, subst}
use mathlib.Core.Bool.{Bool, true, false, not}
use Rattle.std.specs.Prelude.{Option, None, Some, is_some}
use mathlib.Core.List.{List, [], ◌∷◌, ◌++◌, append_assoc, append-nil, map-append}
use Prim.Native.Nat.{ℕ, ◌+◌, ◌-◌, ◌≤◌}
use native.Mathlib.Omega.{arith}
use native.Mathlib.Numerals.{add-one}
use lib.ListN.{length, set, length-append}
use borrow.Author.Tests.{le-ltb, not-false, not-true}
use Rattle.laws.specs.Parts.{part, with_part}
use Rattle.laws.specs.Stores.{Wrote}
use Rattle.laws.specs.Lists.{keep}
use Rattle.laws.specs.Ascending.{not_below}
use Rattle.laws.proofs.Lists.{none_is, no_element, keep_ext, keep_const}
use Rattle.laws.proofs.Ascending.{length_ascending}
use Rattle.laws.proofs.Stores.{wrote_none, wrote_append}
use Rattle.model.specs.Device.{QueueType, input, output, is_input, dequeued, Slot, resource, Queue, Stream, occupied, queue_of, with_queue, with_drain, with_slots, Buffer, buffer, queued_in, by_resource, buffer_of, no_resource, place}
use Rattle.model.specs.Frames.{queue_named}
use Rattle.model.specs.Answers.{buffer_done, drain_done, Answer, response_type, bytes_of}
use Rattle.model.specs.Replies.{Reply, refuse, reply}
use Rattle.model.specs.Commands.{stopped_answers, drain_answers, on_destroy, drain_ended, without_ended, on_clear}
use Rattle.model.specs.Reports.{timestamp_of, has_eos, bad_eos, input_queued, early_eos, finish_answers, finish_leaves, finish_buffer, finish_queue, on_finish, drain_over, answer_drain, on_drained}
use Rattle.model.proofs.Slots.{Distinct}
use Rattle.model.proofs.Room.{length_queued}
use Rattle.queue.specs.Search.{slot_at, is_queued, number_in, ticket_in, timestamp_in, find_resource, next_queued}
use Rattle.queue.proofs.Bridge.{Next, next_found, next_missed, absent_buffer, find_number, find_set, find_queued, find_ticket, find_absent}
use Rattle.queue.specs.Words.{queue_words}
use Rattle.table.specs.Blocks.{queue_start, place_words}
use Rattle.table.proofs.Records.{queue_sized, queue_lent}
use Rattle.answer.specs.Answer.{answer_to, plain_bytes}
use Rattle.answer.proofs.Laws.{plain_length, wrote_plain, buffer_length}
use Rattle.stream.specs.Replied.{BlockOf, request_to}
use Rattle.stream.proofs.Steps.{slot_count}
use Rattle.completion.specs.Done.{Done, clear_answers, destroy_answers, clear_leaves}

-- Reports that are refused, and reports that are answered

pub refused_done : {n k refusal written : ℕ} {b : Stream} {v : Reply} {w room : List ℕ} → (refusal ≡ k) × (written ≡ 0) → BlockOf n w b → v ≡ refuse k (Some b)
    → Done n v w room room refusal written
refused_done {room = room} told h e = record { refusal_is = rw e told.0; replied = record { words = rw e h.held; bytes = rw (e, told.1) (wrote_none room 0) } }

pub answered_done : {n r : ℕ} {v : Reply} {w d e : List ℕ} (l : List Answer) (s : Option Stream) → v ≡ reply l s → w ≡ place_words (place n s) → Wrote d e 0 r (bytes_of l) → Done n v w d e 0 r
answered_done {n} {r} {w = w} {d = d} {e = e} l s is held bytes =
    subst (λ v. Done n v w d e 0 r) (sym is) (record { refusal_is = refl; replied = record { words = held; bytes = bytes } })

-- A drained report

module _ (n : ℕ) (b : Stream) where
  pub drained_none : None ≡ b.draining → on_drained n (Some b) ≡ refuse 5 (Some b)
  unfolding on_drained
  drained_none e = ap (answer_drain n b) (sym e)

  pub drained_early : (t : ℕ) → Some t ≡ b.draining → drain_over b ≡ false → on_drained n (Some b) ≡ refuse 5 (Some b)
  unfolding on_drained
  drained_early t e h = ap (answer_drain n b) (sym e) ∙ rw h

  pub drained_ends : (t : ℕ) → Some t ≡ b.draining → drain_over b ≡ true → on_drained n (Some b) ≡ reply (answer_to t n drain_done ∷ []) (Some (with_drain None b))
  unfolding on_drained
  drained_ends t e h = ap (answer_drain n b) (sym e) ∙ rw h

-- whether a drain is over
module _ (b : Stream) where
  pub input_waits : input_queued b ≡ true → false ≡ drain_over b
  input_waits h = rw h

  pub inputs_done : input_queued b ≡ false → no_resource b.outputs.slots ≡ drain_over b
  inputs_done h = rw h

-- A finish report

pub done_as : {n k r : ℕ} {v v' : Reply} {w d e : List ℕ} → v' ≡ v → Done n v w d e k r → Done n v' w d e k r
done_as {n} {k} {r} {w = w} {d = d} {e = e} is x = subst (λ v. Done n v w d e k r) (sym is) x

module _ (n queue m flags ts : ℕ) (b : Stream) where
  pub finish_named : (q : QueueType) → flags ≤ 3 → queue_named queue ≡ Some q → on_finish n queue m flags ts (Some b) ≡ finish_buffer n m flags ts b q (buffer_of m (queued_in (queue_of q b).slots))
  unfolding on_finish
  finish_named q h e = rw (le-ltb 3 flags h) (ap (finish_queue n m flags ts b) e)

  pub finish_unnamed : flags ≤ 3 → queue_named queue ≡ None → on_finish n queue m flags ts (Some b) ≡ refuse 5 (Some b)
  unfolding on_finish
  finish_unnamed h e = rw (le-ltb 3 flags h) (ap (finish_queue n m flags ts b) e)

-- EOS
module _ (flags : ℕ) (q : QueueType) (b : Stream) where
  pub eos_absent : has_eos flags ≡ false → false ≡ bad_eos flags q b
  eos_absent h = rw h

  pub eos_input : has_eos flags ≡ true → is_input q ≡ true → true ≡ bad_eos flags q b
  eos_input h e = rw (h, e)

  pub eos_draining : {t : ℕ} → has_eos flags ≡ true → is_input q ≡ false → Some t ≡ b.draining → false ≡ bad_eos flags q b
  eos_draining h e o = rw (h, e, ← o)

  pub eos_no_drain : has_eos flags ≡ true → is_input q ≡ false → None ≡ b.draining → true ≡ bad_eos flags q b
  eos_no_drain h e o = rw (h, e, ← o)

  -- by whether a drain is pending
  pub eos_by_drain : {r : Bool} → has_eos flags ≡ true → is_input q ≡ false → is_some b.draining ≡ not r → r ≡ bad_eos flags q b
  eos_by_drain {r} h e pending = of b.draining refl pending
    where
      of : (o : Option ℕ) → o ≡ b.draining → is_some o ≡ not r → r ≡ bad_eos flags q b
      of None o p = not-false r (sym p) ∙ eos_no_drain h e o
      of (Some t) o p = not-true r (sym p) ∙ eos_draining h e o

module _ (flags : ℕ) (b : Stream) where
  pub never_early : has_eos flags ≡ false → false ≡ early_eos flags b
  never_early h = rw h

  pub early_by_inputs : has_eos flags ≡ true → input_queued b ≡ early_eos flags b
  early_by_inputs h = rw h

-- the timestamp
module _ (q : QueueType) (i : Buffer) (ts : ℕ) where
  pub told_input : q ≡ input → i.timestamp ≡ timestamp_of q i ts
  told_input e = rw e

  pub told_output : q ≡ output → ts ≡ timestamp_of q i ts
  told_output e = rw e

pub plain_next : {d e : List ℕ} {at r : ℕ} (ticket code stream : ℕ) → Wrote d e at r (plain_bytes ticket code stream) → r ≡ at + 16
plain_next ticket code stream w = w.next ∙ rw (plain_length ticket code stream)

pub buffer_next : {d e : List ℕ} {at r : ℕ} (ticket stream ts flags : ℕ) (q : QueueType) → Wrote d e at r (bytes_of (answer_to ticket stream (buffer_done q ts flags) ∷ [])) → r ≡ at + 32
buffer_next {at = at} ticket stream ts flags q w = w.next ∙ ap (λ (k : ℕ). at + k) (buffer_length ticket stream ts flags q)

module _ (n m flags ts : ℕ) (b : Stream) (q : QueueType) where
  pub finish_absent : find_resource m (queue_of q b).slots ≡ None → finish_buffer n m flags ts b q (buffer_of m (queued_in (queue_of q b).slots)) ≡ refuse 5 (Some b)
  finish_absent e = ap (finish_buffer n m flags ts b q) (absent_buffer m (queue_of q b).slots (find_absent m (queue_of q b).slots e))

  module _ (k : ℕ) (z : Distinct (queue_of q b).slots) (found : find_resource m (queue_of q b).slots ≡ Some k) where
    pub finish_idle : is_queued (slot_at k (queue_of q b).slots) ≡ false → finish_buffer n m flags ts b q (buffer_of m (queued_in (queue_of q b).slots)) ≡ refuse 5 (Some b)
    finish_idle h =
        ap (finish_buffer n m flags ts b q) (none_is (buffer_of m (queued_in (queue_of q b).slots)) (find_queued m k (queue_of q b).slots found z ∙ ap not h))

    module _ (waits : is_queued (slot_at k (queue_of q b).slots) ≡ true) where
      pub finish_eos : bad_eos flags q b ≡ true → finish_buffer n m flags ts b q (buffer_of m (queued_in (queue_of q b).slots)) ≡ refuse 6 (Some b)
      finish_eos e = ap (finish_buffer n m flags ts b q) (find_ticket m k (queue_of q b).slots found z waits) ∙ rw e

      pub finish_early : bad_eos flags q b ≡ false → early_eos flags b ≡ true → finish_buffer n m flags ts b q (buffer_of m (queued_in (queue_of q b).slots)) ≡ refuse 5 (Some b)
      finish_early e o = ap (finish_buffer n m flags ts b q) (find_ticket m k (queue_of q b).slots found z waits) ∙ rw (e, o)

      pub finish_taken : bad_eos flags q b ≡ false → early_eos flags b ≡ false → finish_buffer n m flags ts b q (buffer_of m (queued_in (queue_of q b).slots))
          ≡ reply (finish_answers n flags ts b q (buffer m (ticket_in (slot_at k (queue_of q b).slots)) (timestamp_in (slot_at k (queue_of q b).slots)))) (Some (finish_leaves m flags b q))
      finish_taken e o = ap (finish_buffer n m flags ts b q) (find_ticket m k (queue_of q b).slots found z waits) ∙ rw (e, o)

-- The walk over the Queued buffers of a queue

bytes_append : (l m : List Answer) → bytes_of (l ++ m) ≡ bytes_of l ++ bytes_of m
bytes_append [] m = refl
bytes_append (a ∷ l) m = rw (bytes_append l m) (simp append_assoc)

pub wrote_more : {d e f : List ℕ} {at m r : ℕ} (k l : List Answer) → Wrote d e at m (bytes_of k) → Wrote e f m r (bytes_of l) → Wrote d f at r (bytes_of (k ++ l))
wrote_more {d} {f = f} {at = at} {r = r} k l p q = subst (λ (x : List ℕ). Wrote d f at r x) (sym (bytes_append k l)) (wrote_append (bytes_of k) (bytes_of l) p q)

-- after some turns: the buffers that were answered stand before those from `least` on
pub record Along (n : ℕ) (t : QueueType) (s : List Slot) (d e : List ℕ) (at next least turn : ℕ) : Type 0 where
  pub passed : List Buffer
  pub counted : length passed ≡ turn
  pub order : passed ++ keep (not_below (λ (i : Buffer). i.resource) least) (by_resource (queued_in s)) ≡ by_resource (queued_in s)
  pub wrote : Wrote d e at next (bytes_of (stopped_answers n t passed))

module _ (n : ℕ) (t : QueueType) (s : List Slot) where
  pub along_start : (d : List ℕ) (at : ℕ) → Along n t s d d at at 0 0
  unfolding not_below
  along_start d at = record {
    passed = [];
    counted = refl;
    order = keep_ext (not_below (λ (i : Buffer). i.resource) 0) (λ x. true) (λ x. rw (le-ltb x.resource 0 (omega arith))) (by_resource (queued_in s)) ∙ keep_const true (by_resource (queued_in s));
    wrote = wrote_none d at;
  }

  module _ {d e : List ℕ} {at m least turn : ℕ} (a : Along n t s d e at m least turn) where
    pub along_more : {f : List ℕ} {r : ℕ} (k : ℕ) → Next least k s
        → Wrote e f m r (bytes_of (stopped_answers n t (buffer (number_in (slot_at k s)) (ticket_in (slot_at k s)) (timestamp_in (slot_at k s)) ∷ [])))
        → Along n t s d f at r (number_in (slot_at k s) + 1) (turn + 1)
    along_more {f} {r} k x w =
        let i = buffer (number_in (slot_at k s)) (ticket_in (slot_at k s)) (timestamp_in (slot_at k s)) in
        record {
          passed = a.passed ++ (i ∷ []);
          counted = length-append a.passed (i ∷ []) ∙ (omega (arith, a.counted));
          order =
              rw (add-one (number_in (slot_at k s)))
              (append_assoc a.passed (i ∷ []) _ ∙ ap (λ (l : List Buffer). a.passed ++ l) (sym x.order) ∙ a.order);
          wrote =
              subst (λ (l : List Answer). Wrote d f at r (bytes_of l)) (sym (map-append _ a.passed (i ∷ [])))
              (wrote_more (stopped_answers n t a.passed) (stopped_answers n t (i ∷ [])) a.wrote w);
        }

    -- nothing is left
    ended : keep (not_below (λ (i : Buffer). i.resource) least) (by_resource (queued_in s)) ≡ [] → Wrote d e at m (bytes_of (stopped_answers n t (by_resource (queued_in s))))
    ended none_left =
        let all : a.passed ≡ by_resource (queued_in s) = sym (append-nil a.passed) ∙ ap (λ (l : List Buffer). a.passed ++ l) (sym none_left) ∙ a.order in
        subst (λ (l : List Buffer). Wrote d e at m (bytes_of (stopped_answers n t l))) all a.wrote

    pub along_missed : Distinct s → next_queued least s ≡ None → Wrote d e at m (bytes_of (stopped_answers n t (by_resource (queued_in s))))
    along_missed z h = ended (next_missed least s z h)

    pub along_full : length s ≡ 16 → 16 ≤ turn → Wrote d e at m (bytes_of (stopped_answers n t (by_resource (queued_in s))))
    along_full h k =
        let left = keep (not_below (λ (i : Buffer). i.resource) least) (by_resource (queued_in s)) in
        ended (no_element left (omega (
          arith,
          a.counted,
          length-append a.passed left,
          ap length a.order,
          length_ascending (λ (i : Buffer). i.resource) (queued_in s),
          length_queued s,
        )))

    -- the same, by what the code reads
    pub along_next : {f : List ℕ} {r : ℕ} (k v : ℕ) → v ≡ number_in (slot_at k s) → Distinct s → next_queued least s ≡ Some k
        → ((i : Buffer) → i.ticket ≡ ticket_in (slot_at k s) → i.timestamp ≡ timestamp_in (slot_at k s) → Wrote e f m r (bytes_of (stopped_answers n t (i ∷ []))))
        → Along n t s d f at r (v + 1) (turn + 1)
    along_next {f} {r} k v is z found w =
        subst (λ (x : ℕ). Along n t s d f at r (x + 1) (turn + 1)) (sym is)
        (along_more k (next_found least s z k found) (w (buffer (number_in (slot_at k s)) (ticket_in (slot_at k s)) (timestamp_in (slot_at k s))) refl refl))

-- What is answered, and what is left

module _ {d e : List ℕ} {at r : ℕ} (n : ℕ) where
  pub wrote_buffer : {ticket ticket' ts ts' : ℕ} (flags : ℕ) (q : QueueType) → ticket ≡ ticket' → ts ≡ ts'
      → Wrote d e at r (bytes_of (answer_to ticket n (buffer_done q ts flags) ∷ [])) → Wrote d e at r (bytes_of (answer_to ticket' n (buffer_done q ts' flags) ∷ []))
  wrote_buffer {ticket} {ts' = ts'} flags q p u w =
      subst (λ (x : ℕ). Wrote d e at r (bytes_of (answer_to x n (buffer_done q ts' flags) ∷ []))) p
      (subst (λ (x : ℕ). Wrote d e at r (bytes_of (answer_to ticket n (buffer_done q x flags) ∷ []))) u w)

  pub wrote_drain : (t : ℕ) (x : Option ℕ) → Some t ≡ x → Wrote d e at r (plain_bytes t (response_type drain_done) n) → Wrote d e at r (bytes_of (drain_answers n x))
  wrote_drain t x is w = subst (λ (o : Option ℕ). Wrote d e at r (bytes_of (drain_answers n o))) is (wrote_plain t n drain_done refl w)

  pub wrote_ended : (ends ends' : Bool) (b : Stream) → ends ≡ ends' → Wrote d e at r (bytes_of (drain_answers n (drain_ended ends b))) → Wrote d e at r (bytes_of (drain_answers n (drain_ended ends' b)))
  wrote_ended ends ends' b is w = subst (λ (x : Bool). Wrote d e at r (bytes_of (drain_answers n (drain_ended x b)))) is w

pub wrote_no_drain : (d : List ℕ) (at n : ℕ) (x : Option ℕ) → None ≡ x → Wrote d d at at (bytes_of (drain_answers n x))
wrote_no_drain d at n x is = subst (λ (o : Option ℕ). Wrote d d at at (bytes_of (drain_answers n o))) is (wrote_none d at)

module _ (n : ℕ) (ends : Bool) (b : Stream) where
  pub drain_ended_lem : ends ≡ true → place_words (occupied n (with_drain None b)) ≡ place_words (occupied n (without_ended ends b))
  drain_ended_lem e = rw e

  pub drain_left : ends ≡ false → place_words (occupied n b) ≡ place_words (occupied n (without_ended ends b))
  drain_left e = rw e

-- a drain that ends is no part of a queue
queue_kept : (o : QueueType) (ends : Bool) (b : Stream) → queue_of o (without_ended ends b) ≡ queue_of o b
queue_kept input true b = refl
queue_kept output true b = refl
queue_kept o false b = refl

-- a queue of the record without that drain, lent and back with what f makes of it
pub queue_ended : {n : ℕ} {w : List ℕ} {b : Stream} → BlockOf n w b → (ends : Bool) (q : QueueType) (a : ℕ) → a ≡ queue_start q → (l ys : List ℕ) (f : Queue → Queue)
    → l ≡ place_words (occupied n (without_ended ends b)) → ((x : Queue) → part a (a + 84 - a) l ≡ queue_words x → ys ≡ queue_words (f x))
    → with_part a (a + 84 - a) l ys ≡ place_words (occupied n (with_queue q (f (queue_of q b)) (without_ended ends b)))
queue_ended {n} {b = b} h ends q a at l ys f held back =
    let x = without_ended ends b in
    queue_lent n x (queue_sized n x (λ o. ap (λ (y : Queue). length y.slots) (queue_kept o ends b) ∙ slot_count h o)) q a at l held ys (f (queue_of q x)) (back (queue_of q x))
    ∙ ap (λ (y : Queue). place_words (occupied n (with_queue q (f y) x))) (queue_kept q ends b)

-- the resource in slot k is the one that a finish names
pub finish_leaves_lem : (m flags k : ℕ) (b : Stream) (q : QueueType) → Distinct (queue_of q b).slots → find_resource m (queue_of q b).slots ≡ Some k
    → with_queue q (with_slots (set (queue_of q b).slots k (resource (number_in (slot_at k (queue_of q b).slots)) dequeued)) (queue_of q b)) (without_ended (has_eos flags) b) ≡ finish_leaves m flags b q
finish_leaves_lem m flags k b q z found =
    let s = (queue_of q b).slots in
    ap (λ (x : List Slot). with_queue q (with_slots x (queue_of q b)) (without_ended (has_eos flags) b))
    (ap (λ (r : ℕ). set s k (resource r dequeued)) (find_number m k s found) ∙ sym (find_set m k s found z dequeued))

module _ (n t : ℕ) (f : List ℕ) (b : Stream) where
  pub clear_is : (q : QueueType) → on_clear (request_to n t f b) b q ≡ reply (clear_answers n t q b) (Some (clear_leaves q b))
  unfolding on_clear
  clear_is q = refl

  pub destroy_is : on_destroy (request_to n t f b) b ≡ reply (destroy_answers n t b) None
  unfolding on_destroy
  destroy_is = refl
