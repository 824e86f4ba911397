-- The numbers in elements of some words each: words as elements, numbers from an element on, and those of slots and of places.
use mathlib.Core.Path.{◌≡◌, refl, sym, ap, ◌∙◌}
use mathlib.Core.Bool.{true, false}
use mathlib.Core.List.{List, ◌∷◌}
use Prim.Native.Nat.{ℕ, zero, suc, ◌/◌}
use Rattle.std.specs.Simd.{first_chunks}
use native.Mathlib.Omega.{arith}
use lib.ListN.{length, take, drop, length-drop}
use lib.Seq.{length-take-le, take_all}
use Rattle.laws.specs.Lists.{all_of, numbers_in, distinct}
use Rattle.laws.specs.Parts.{part, pieces, read_pieces}
use Rattle.laws.proofs.Tests.{never, ne_true}
use Rattle.laws.proofs.Lists.{all_true}
use Rattle.laws.proofs.Pieces.{pieces_length}
use Rattle.laws.proofs.Distinct.{distinct_from, numbers_read}
use Rattle.model.specs.Device.{created, queued, dequeued, Slot, free, resource, Queue, Place, vacant, occupied, slot_number, place_number}
use Rattle.queue.specs.Words.{slot_words, queue_words}
use Rattle.queue.proofs.Records.{slot_length, held_slots}
use Rattle.table.specs.Blocks.{head_words, place_words}
use Rattle.table.specs.Search.{has_all_slots}
use Rattle.table.proofs.Records.{place_length}
use Rattle.table.proofs.Heads.{vacant_word}
use Rattle.valid.specs.Rules.{words_number, numbers_from}

-- words as k elements of n words each
chunks_read : (n k : ℕ) (w : List ℕ) → first_chunks n k w ≡ read_pieces (λ x. x) n k w
unfolding read_pieces
chunks_read n zero w = refl
chunks_read n (suc k) w = ap (λ (l : List (List ℕ)). take n w ∷ l) (chunks_read n k (drop n w))

pub elements_read : {l : List (List ℕ)} (n k size : ℕ) (w : List ℕ) → length w ≡ size → size / n ≡ k → l ≡ first_chunks n (length w / n) w → l ≡ read_pieces (λ x. x) n k w
elements_read n k size w long e h = h ∙ ap (λ (c : ℕ). first_chunks n c w) (ap (λ (m : ℕ). m / n) long ∙ e) ∙ chunks_read n k w

-- a queue's words behind the first four as sixteen slots
pub slots_read : {l : List (List ℕ)} (q : List ℕ) → length q ≡ 84 → l ≡ first_chunks 5 (length (part 4 80 q) / 5) (part 4 80 q) → l ≡ read_pieces (λ x. x) 5 16 (part 4 80 q)
slots_read q long h = elements_read 5 16 80 (part 4 80 q) (length-take-le 80 (drop 4 q) (omega (arith, length-drop 4 q))) refl h

-- numbers that are not distinct from a place on are not distinct
pub from_fails : (l : List (List ℕ)) (i : ℕ) → distinct (numbers_in words_number (drop i l)) ≡ false → false ≡ distinct (numbers_in words_number l)
from_fails l i e = sym (ne_true (distinct (numbers_in words_number l)) (λ t. never (sym (distinct_from words_number l i t) ∙ e)))

-- Slots and places

slot_number_lem : (s : Slot) → words_number (slot_words s) ≡ slot_number s
slot_number_lem free = refl
slot_number_lem (resource r created) = refl
slot_number_lem (resource r (queued t ts)) = refl
slot_number_lem (resource r dequeued) = refl

pub slots_numbers : {w : List (List ℕ)} (l : List ℕ) (q : Queue) → length l ≡ 84 → l ≡ queue_words q → w ≡ read_pieces (λ x. x) 5 16 (part 4 80 l) → numbers_in words_number w ≡ numbers_in slot_number q.slots
unfolding queue_words
slots_numbers l q long e h =
    let sixteen = held_slots l q long e in
    ap (numbers_in words_number) h
    ∙ ap (λ (w : List ℕ). numbers_in words_number (read_pieces (λ x. x) 5 16 w))
    (ap (part 4 80) e ∙ take_all 80 (pieces slot_words q.slots) (omega (arith, pieces_length slot_words 5 (λ s. true) (λ s _. slot_length s) q.slots (all_true q.slots))))
    ∙ rw sixteen at (numbers_read slot_number slot_words words_number 5 (λ s. true) (λ s _. slot_length s) slot_number_lem q.slots (all_true q.slots))

place_number_lem : (p : Place) → words_number (place_words p) ≡ place_number p
unfolding place_words head_words
place_number_lem vacant = rw (vacant_word refl)
place_number_lem (occupied n b) = refl

pub places_numbers : (l : List ℕ) (d : List Place) → all_of has_all_slots d ≡ true → length d ≡ 8 → l ≡ pieces place_words d → numbers_from 0 512 8 l ≡ numbers_in place_number d
unfolding numbers_from
places_numbers l d s eight e =
    ap (λ (w : List ℕ). numbers_in words_number (read_pieces (λ x. x) 512 8 w)) e
    ∙ rw eight at (numbers_read place_number place_words words_number 512 has_all_slots place_length place_number_lem d s)
