-- Laws of the words of a slot and of a queue: their lengths, that decoding undoes encoding, and one slot among a queue's.
use mathlib.Core.Path.{◌≡◌, refl, sym, ap, ◌∙◌}
use mathlib.Core.Bool.{true, false}
use mathlib.Core.List.{List, [], ◌∷◌, ◌++◌}
use Prim.Native.Nat.{ℕ, ◌+◌, ◌*◌, ◌/◌, ◌%◌, ◌^◌, ◌<◌}
use native.Mathlib.Nat.{add-zero}
use native.Mathlib.Omega.{arith}
use lib.ListN.{length, get_or, set, drop}
use lib.Dec.{eqb}
use lib.Seq.{get_or-take, get_or-drop}
use Rattle.laws.specs.Parts.{part, with_part, pieces, read_pieces}
use Rattle.laws.proofs.Tests.{never}
use Rattle.laws.proofs.Lists.{all_true}
use Rattle.laws.proofs.Parts.{part_after, with_part_after}
use Rattle.laws.proofs.Stores.{five_stored}
use Rattle.laws.proofs.Pieces.{pieces_length, pieces_part, pieces_with_part, pieces_read, read_length}
use Rattle.model.specs.Device.{created, queued, dequeued, Slot, free, resource, Queue, with_slots}
use Rattle.queue.specs.Words.{slot_words, queue_words, decode_slot, decode_queue}
use Rattle.queue.specs.Search.{slot_at, is_free, is_resource, is_queued, number_in, ticket_in, timestamp_in}

-- Lengths

pub slot_length : (s : Slot) → length (slot_words s) ≡ 5
slot_length free = refl
slot_length (resource r created) = refl
slot_length (resource r (queued t ts)) = refl
slot_length (resource r dequeued) = refl

queue_head : Queue → List ℕ
queue_head q = 0 ∷ q.width ∷ q.height ∷ q.rate ∷ []

-- four words, and five for each slot
words_length : (q : Queue) → length (queue_words q) ≡ 4 + 5 * length q.slots
unfolding queue_words
words_length q = omega (arith, pieces_length slot_words 5 (λ s. true) (λ s _. slot_length s) q.slots (all_true q.slots))

pub queue_length_lem : (q : Queue) → length q.slots ≡ 16 → length (queue_words q) ≡ 84
queue_length_lem q h = omega (arith, words_length q)

pub queue_slots_lem : (q : Queue) → length (queue_words q) ≡ 84 → length q.slots ≡ 16
queue_slots_lem q h = omega (arith, words_length q)

-- 84 words that are those of a queue are those of one with sixteen slots
pub held_slots : (l : List ℕ) (q : Queue) → length l ≡ 84 → l ≡ queue_words q → length q.slots ≡ 16
held_slots l q h e = queue_slots_lem q (ap length (sym e) ∙ h)

pub decoded_slots : (w : List ℕ) → length (decode_queue w).slots ≡ 16
unfolding decode_queue
decoded_slots w = read_length decode_slot 5 16 (drop 4 w)

-- Decoding undoes encoding

pub decode_slot_lem : (s : Slot) → decode_slot (slot_words s) ≡ s
unfolding decode_slot
decode_slot_lem free = refl
decode_slot_lem (resource r created) = refl
decode_slot_lem (resource r (queued t ts)) = ap (λ (n : ℕ). resource r (queued t n)) (let w : ts % 2 ^ 32 + 2 ^ 32 * (ts / 2 ^ 32) ≡ ts = omega arith in w)
decode_slot_lem (resource r dequeued) = refl

pub decode_queue_lem : (q : Queue) → length q.slots ≡ 16 → decode_queue (queue_words q) ≡ q
unfolding decode_queue queue_words
decode_queue_lem q h =
    let back : read_pieces decode_slot 5 16 (pieces slot_words q.slots) ≡ q.slots = rw h at (pieces_read slot_words 5 (λ s. true) (λ s _. slot_length s) decode_slot (λ s _. decode_slot_lem s) q.slots (all_true q.slots)) in
    λ i. record { width = q.width; height = q.height; rate = q.rate; slots = back i }

-- The slot at i

module _ (q : Queue) (i : ℕ) (h : i < length q.slots) where
  pub slot_part : part (4 + 5 * i) 5 (queue_words q) ≡ slot_words (slot_at i q.slots)
  unfolding queue_words queue_head
  slot_part =
      part_after (queue_head q) (pieces slot_words q.slots) 4 (5 * i) 5 refl
      ∙ pieces_part slot_words 5 (λ s. true) (λ s _. slot_length s) q.slots (all_true q.slots) i free h

  pub slot_put : (s : Slot) → with_part (4 + 5 * i) 5 (queue_words q) (slot_words s) ≡ queue_words (with_slots (set q.slots i s) q)
  unfolding queue_words queue_head
  slot_put s =
      with_part_after (queue_head q) (pieces slot_words q.slots) 4 (5 * i) 5 (slot_words s) refl
      ∙ ap (λ (l : List ℕ). queue_head q ++ l) (pieces_with_part slot_words 5 (λ s. true) (λ s _. slot_length s) q.slots (all_true q.slots) i s h)

-- What the words of a slot say

pub free_test : (s : Slot) → eqb (get_or (slot_words s) 0 0) 0 ≡ is_free s
free_test free = refl
free_test (resource r created) = refl
free_test (resource r (queued t ts)) = refl
free_test (resource r dequeued) = refl

pub queued_test : (s : Slot) → eqb (get_or (slot_words s) 0 0) 2 ≡ is_queued s
queued_test free = refl
queued_test (resource r created) = refl
queued_test (resource r (queued t ts)) = refl
queued_test (resource r dequeued) = refl

pub number_word : (s : Slot) → get_or (slot_words s) 1 0 ≡ number_in s
number_word free = refl
number_word (resource r created) = refl
number_word (resource r (queued t ts)) = refl
number_word (resource r dequeued) = refl

pub ticket_word : (s : Slot) → get_or (slot_words s) 2 0 ≡ ticket_in s
ticket_word free = refl
ticket_word (resource r created) = refl
ticket_word (resource r (queued t ts)) = refl
ticket_word (resource r dequeued) = refl

pub timestamp_words : (s : Slot) → get_or (slot_words s) 3 0 + 4294967296 * get_or (slot_words s) 4 0 ≡ timestamp_in s
timestamp_words free = refl
timestamp_words (resource r created) = refl
timestamp_words (resource r (queued t ts)) = omega arith
timestamp_words (resource r dequeued) = refl

-- a free slot holds no number, and any other its own
pub holds_free : (r : ℕ) (s : Slot) → is_free s ≡ true → is_resource r s ≡ false
holds_free r free e = refl
holds_free r (resource m p) e = never (sym e)

pub holds_number_lem : (r : ℕ) (s : Slot) → is_free s ≡ false → is_resource r s ≡ eqb (number_in s) r
holds_number_lem r free e = never e
holds_number_lem r (resource m p) e = refl

-- The words of the slot at i are read, lent and come back as those of s, or stored one by one

module _ (l : List ℕ) (q : Queue) (i : ℕ) (long : length l ≡ 84) (h : i < 16) (e : l ≡ queue_words q) where
  inside : i < length q.slots
  inside = omega (arith, held_slots l q long e)

  pub slot_stored : (s : Slot) (a b c d f : ℕ) → slot_words s ≡ a ∷ b ∷ c ∷ d ∷ f ∷ []
      → set (set (set (set (set l (4 + 5 * i) a) (4 + 5 * i + 1) b) (4 + 5 * i + 2) c) (4 + 5 * i + 3) d) (4 + 5 * i + 4) f ≡ queue_words (with_slots (set q.slots i s) q)
  slot_stored s a b c d f w =
      five_stored l (4 + 5 * i) a b c d f (omega arith)
      ∙ ap (with_part (4 + 5 * i) 5 l) (sym w)
      ∙ rw e (slot_put q i inside s)

  pub slot_word : (j : ℕ) → j < 5 → get_or l (4 + 5 * i + j) 0 ≡ get_or (slot_words (slot_at i q.slots)) j 0
  slot_word j n =
      let here : part (4 + 5 * i) 5 l ≡ slot_words (slot_at i q.slots) = rw e (slot_part q i inside) in
      sym (get_or-take 5 (drop (4 + 5 * i) l) j 0 n ∙ get_or-drop (4 + 5 * i) l j 0)
      ∙ ap (λ (w : List ℕ). get_or w j 0) here

  pub slot_state : get_or l (4 + 5 * i) 0 ≡ get_or (slot_words (slot_at i q.slots)) 0 0
  slot_state = ap (λ (n : ℕ). get_or l n 0) (sym (add-zero (4 + 5 * i))) ∙ slot_word 0 (omega arith)

  pub free_word : eqb (get_or l (4 + 5 * i) 0) 0 ≡ is_free (slot_at i q.slots)
  free_word = ap (λ (n : ℕ). eqb n 0) slot_state ∙ free_test (slot_at i q.slots)

  pub queued_word : eqb (get_or l (4 + 5 * i) 0) 2 ≡ is_queued (slot_at i q.slots)
  queued_word = ap (λ (n : ℕ). eqb n 2) slot_state ∙ queued_test (slot_at i q.slots)

pub width_word : (l : List ℕ) (q : Queue) → l ≡ queue_words q → get_or l 1 0 ≡ q.width
unfolding queue_words
width_word l q e = ap (λ (w : List ℕ). get_or w 1 0) e

pub height_word : (l : List ℕ) (q : Queue) → l ≡ queue_words q → get_or l 2 0 ≡ q.height
unfolding queue_words
height_word l q e = ap (λ (w : List ℕ). get_or w 2 0) e
