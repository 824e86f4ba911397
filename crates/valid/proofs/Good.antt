-- The rules of a place on words of 32 bits: what is left to test once each word is one.
use mathlib.Core.Path.{◌≡◌, refl, sym, ◌∙◌}
use mathlib.Core.Bool.{Bool, true, false, ◌&&◌}
use Rattle.std.specs.Prelude.{Option, None, Some}
use mathlib.Core.List.{List, [], ◌∷◌, ◌++◌}
use Prim.Native.Nat.{ℕ, ◌/◌, ◌%◌, ◌^◌, ◌<◌}
use native.Mathlib.Omega.{arith}
use lib.ListN.{length}
use borrow.Author.Tests.{ltb-true, lt-ltb, eq-eqb}
use Rattle.laws.specs.Lists.{all_of}
use Rattle.laws.specs.Tests.{within}
use Rattle.laws.specs.Parts.{zeros, pieces}
use Rattle.laws.proofs.Tests.{both, and_left, and_right}
use Rattle.laws.proofs.Lists.{all_append}
use Rattle.model.specs.Numbers.{first_coded, last_coded}
use Rattle.model.specs.Device.{input, output, created, queued, dequeued, Slot, free, resource, Queue, Stream, occupied}
use Rattle.model.specs.Commands.{good_extent}
use Rattle.model.specs.WellFormed.{u32, u64, good_slot, distinct_slots, good_queue, good_drain, good_place}
use Rattle.queue.specs.Words.{slot_words, queue_words}
use Rattle.table.specs.Blocks.{drain_words, head_words, place_words}
use Rattle.table.specs.Search.{has_all_slots}
use Rattle.table.proofs.Records.{sized_queue}

-- both of two lists
module _ (a b : List ℕ) (h : all_of u32 (a ++ b) ≡ true) where
  front : all_of u32 a ≡ true
  front = and_left (all_of u32 a) _ (sym (all_append u32 a b) ∙ h)

  back : all_of u32 b ≡ true
  back = and_right (all_of u32 a) _ (sym (all_append u32 a b) ∙ h)

word_below : (v : ℕ) → u32 v ≡ true → v < 2 ^ 32
unfolding u32
word_below v h = ltb-true v (2 ^ 32) h

whole : (v : ℕ) → u32 (v / 2 ^ 32) ≡ true → u64 v ≡ true
unfolding u64
whole v h = let high = word_below (v / 2 ^ 32) h in lt-ltb v (2 ^ 64) (omega arith)

wide_slot : (s : Slot) → all_of u32 (slot_words s) ≡ true → good_slot s ≡ true
wide_slot free h = refl
wide_slot (resource r created) h = both (and_left (u32 r) _ (and_right (u32 1) _ h)) refl
wide_slot (resource r dequeued) h = both (and_left (u32 r) _ (and_right (u32 3) _ h)) refl
wide_slot (resource r (queued t ts)) h =
    let from_r = and_right (u32 2) _ h in
    let from_t = and_right (u32 r) _ from_r in
    let from_low = and_right (u32 t) _ from_t in
    let from_high = and_right (u32 (ts % 2 ^ 32)) _ from_low in
    both (and_left (u32 r) _ from_r) (both (and_left (u32 t) _ from_t) (whole ts (and_left (u32 (ts / 2 ^ 32)) _ from_high)))

wide_slots : (l : List Slot) → all_of u32 (pieces slot_words l) ≡ true → all_of good_slot l ≡ true
unfolding pieces
wide_slots [] h = refl
wide_slots (s ∷ l) h = both (wide_slot s (front (slot_words s) (pieces slot_words l) h)) (wide_slots l (back (slot_words s) (pieces slot_words l) h))

-- the rules of a queue that its words can break
abbrev pub queue_rules : Queue → Bool
queue_rules q = good_extent q.width && (good_extent q.height && distinct_slots q.slots)

pub wide_queue : (q : Queue) → length q.slots ≡ 16 → all_of u32 (queue_words q) ≡ true → good_queue q ≡ queue_rules q
unfolding queue_words
wide_queue q sixteen h =
    let from_width = and_right (u32 0) _ h in
    let from_height = and_right (u32 q.width) _ from_width in
    let from_rate = and_right (u32 q.height) _ from_height in
    rw (eq-eqb (length q.slots) 16 sixteen, wide_slots q.slots (and_right (u32 q.rate) _ from_rate), and_left (u32 q.rate) _ from_rate)
    (turned (distinct_slots q.slots) (good_extent q.width) (good_extent q.height))
  where
    turned : (d w v : Bool) → (true && (true && d)) && (w && (v && true)) ≡ w && (v && d)
    turned true true true = refl
    turned true true false = refl
    turned true false v = refl
    turned false true true = refl
    turned false true false = refl
    turned false false v = refl

wide_drain : (d : Option ℕ) → all_of u32 (drain_words d ++ zeros 3) ≡ true → good_drain d ≡ true
wide_drain None h = refl
wide_drain (Some t) h = and_left (u32 t) _ (and_right (u32 1) _ h)

pub wide_place : (n : ℕ) (b : Stream) → has_all_slots (occupied n b) ≡ true → all_of u32 (place_words (occupied n b)) ≡ true
    → good_place (occupied n b) ≡ within b.format first_coded last_coded && (queue_rules b.inputs && queue_rules b.outputs)
unfolding place_words head_words
wide_place n b s h =
    let head = head_words n b.format b.draining in
    let ins = queue_words b.inputs in
    let outs = queue_words b.outputs in
    let queues = back head (ins ++ (outs ++ zeros 336)) h in
    let from_number = and_right (u32 1) _ (front head (ins ++ (outs ++ zeros 336)) h) in
    let from_format = and_right (u32 n) _ from_number in
    let from_drain = and_right (u32 b.format) _ from_format in
    rw (
      and_left (u32 n) _ from_number,
      wide_drain b.draining from_drain,
      wide_queue b.inputs (sized_queue input n b s) (front ins (outs ++ zeros 336) queues),
      wide_queue b.outputs (sized_queue output n b s) (front outs (zeros 336) (back ins (outs ++ zeros 336) queues)),
    )
