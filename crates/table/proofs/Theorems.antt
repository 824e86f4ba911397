-- The statements of specs/Promises, proved: the layout is lawful, valid is exactly the tables of well-formed devices, questions give what the records hold, and
-- condition 3 and the model's other promises hold over its tables.
use Rattle.std.proofs.Common.{◌≡◌, ℕ, zero, suc, ◌+◌, ◌-◌, ◌*◌, ◌/◌, ◌%◌, ◌^◌, ◌<◌, ◌≤◌, Bool, true, ◌&&◌, eqb, List, [], ◌++◌, map, length, get_or, take, drop, replicate, sym, refl, ap, ◌∙◌, subst, ap₂, mul-zero, mul-suc, arith, length-append, get_or-drop, get_or-take, take-take, ltb-true, lt-ltb, eqb-true}
use Rattle.std.specs.Prelude.{Option, None, Some}
use lib.ListN.{length-map}
use Rattle.laws.specs.Lists.{all_of, to_list, same}
use Rattle.laws.specs.Tests.{within}
use Rattle.laws.specs.Parts.{zeros, pieces, read_pieces}
use Rattle.laws.proofs.Tests.{both, and_left, and_right, within_bounds}
use Rattle.laws.proofs.Lists.{all_append, all_implied, all_map}
use Rattle.laws.proofs.Parts.{zeros_append}
use Rattle.laws.proofs.Pieces.{all_pieces}
use Rattle.laws.proofs.Same.{same_refl}
use Rattle.model.specs.Numbers.{table_words, stream_places, stream_numbers, first_coded, last_coded}
use Rattle.model.specs.Device.{created, queued, dequeued, Slot, free, resource, Queue, Stream, Place, vacant, occupied, Device, fresh, record_of, pending_of, pending_at, pending_among}
use Rattle.model.specs.Steps.{Event, final}
use Rattle.model.specs.Ledger.{ledger_of}
use Rattle.model.specs.Commands.{good_extent}
use Rattle.model.specs.WellFormed.{u32, u64, good_slot, good_slots, good_queue, good_drain, good_place, spent_in, well_formed}
use Rattle.model.specs.Tables.{valid}
use Rattle.model.proofs.WellFormed.{well_fresh, well_places, well_spent}
use Rattle.model.proofs.Tables.{final_well, valid_device, valid_used, valid_whole, same_events, same_table_lem, on_tables, fresh_short_lem, fresh_long_lem}
use Rattle.model.proofs.Figures.{total_of_ledger_lem}
use Rattle.model.proofs.Refusals.{only_listed_lem, no_table_refusal_lem}
use Rattle.model.proofs.SpentForGood.{spent_for_good_lem}
use Rattle.model.proofs.SpentExactly.{spent_exactly_lem}
use Rattle.model.proofs.LastPicture.{drains_end_lem, no_drain_after_eos_lem}
use Rattle.model.proofs.Order.{finishes_swap_lem, any_order}
use Rattle.model.proofs.Unchanged.{refusal_changes_nothing_lem, error_changes_nothing_lem, keeps_rest_lem, stays_valid_lem, writes_at_most_lem}
use Rattle.queue.specs.Words.{slot_words, queue_words}
use Rattle.table.specs.Spent.{word_numbers, spent_size, bits_word, spent_words}
use Rattle.table.specs.Figures.{marks_at, place_figures_at, place_mark, figure_words, marked_place, places_visited, words_read, asked_in_all, asked_of_stream}
use Rattle.table.specs.Blocks.{drain_words, head_words, place_words, blocks, blocks_size, gap_size, unused_size, behind, encode, decode, layout}
use Rattle.table.specs.Search.{find_stream, has_all_slots}
use Rattle.table.specs.Promises.{MeetsLaws, ValidExactly, Narrow, SpentBits, FreshIsZero, ShortRefused, reads_for, FewWords, NoOtherWord, Counts, CountsRight, TotalOfLedger, ConditionThree, TablePromises}
use Rattle.table.proofs.Bits.{spent_narrow, number_bit, bit_spent}
use Rattle.table.specs.declared.figures.PendingFigure.{PendingFigure}
use Rattle.table.proofs.Records.{used_length, spent_part, decode_device}
use Rattle.table.proofs.Counted.{mark_below, pending_most, all_most, asked_found, reads_found, marked_below, total_short, stream_short, total_long, total_there, long_enough, asked_stream, same_answer, same_total}

-- The laws

good_slots_lem : (q : Queue) → good_queue q ≡ true → length q.slots ≡ 16
good_slots_lem q h = eqb-true (length q.slots) 16 (and_left (eqb (length q.slots) 16) _ (and_left (good_slots q.slots) _ h))

-- the queues of a good record
module _ (n : ℕ) (b : Stream) (h : good_place (occupied n b) ≡ true) where
  good_rest : good_drain b.draining && (good_queue b.inputs && good_queue b.outputs) ≡ true
  good_rest = and_right (within b.format first_coded last_coded) _ (and_right (u32 n) _ h)

  good_queues : good_queue b.inputs && good_queue b.outputs ≡ true
  good_queues = and_right (good_drain b.draining) _ good_rest

  good_inputs : good_queue b.inputs ≡ true
  good_inputs = and_left (good_queue b.inputs) _ good_queues

  good_outputs : good_queue b.outputs ≡ true
  good_outputs = and_right (good_queue b.inputs) _ good_queues

pub good_sized : (p : Place) → good_place p ≡ true → has_all_slots p ≡ true
good_sized vacant h = refl
good_sized (occupied n b) h =
    both (and_left (eqb (length b.inputs.slots) 16) _ (and_left (good_slots b.inputs.slots) _ (good_inputs n b h)))
    (and_left (eqb (length b.outputs.slots) 16) _ (and_left (good_slots b.outputs.slots) _ (good_outputs n b h)))

module _ (d : Device) (h : well_formed d ≡ true) where
  pub well_sized : all_of has_all_slots d.places ≡ true
  well_sized = all_implied good_place has_all_slots good_sized d.places (well_places d h).each

  pub well_eight : length d.places ≡ 8
  well_eight = (well_places d h).size

  pub well_numbers : length d.spent ≡ stream_numbers
  well_numbers = (well_spent d h).size

pub meets_laws : MeetsLaws
meets_laws = record {
  size = λ d h. used_length d (well_sized d h) (well_eight d h);
  back = λ d h. decode_device d (well_sized d h) (well_eight d h) (well_numbers d h);
  counts = λ d h rest n. ap (λ (f : PendingFigure). f.pending) (asked_stream d rest (well_sized d h) (well_eight d h) n);
}

-- No rule is missing and none is added

-- only the used words count
pub valid_front : (t : List ℕ) → valid layout (take table_words t) ≡ valid layout t
unfolding valid
valid_front t = ap (λ (w : List ℕ). well_formed (decode w) && same w (encode (decode w))) (take-take table_words table_words t (omega arith))

pub valid_exactly : ValidExactly
unfolding valid
valid_exactly t = (
  λ v. (decode (take table_words t), (valid_device layout t v, valid_used layout t v)),
  λ s.
      let d = s.0 in
      let back : decode (take table_words t) ≡ d = ap decode s.1.1 ∙ meets_laws.back d s.1.0 in
      both (ap well_formed back ∙ s.1.0) (ap₂ same s.1.1 (ap encode back) ∙ same_refl (encode d)),
)

-- The words are 32-bit words

u32_of : (v : ℕ) → v < 2 ^ 32 → u32 v ≡ true
unfolding u32
u32_of v h = lt-ltb v (2 ^ 32) h

below_u64 : (v : ℕ) → u64 v ≡ true → v < 2 ^ 64
unfolding u64
below_u64 v h = ltb-true v (2 ^ 64) h

narrow_zeros : (n : ℕ) → all_of u32 (zeros n) ≡ true
unfolding zeros
narrow_zeros zero = refl
narrow_zeros (suc n) = both (u32_of 0 (omega arith)) (narrow_zeros n)

narrow_slot : (s : Slot) → good_slot s ≡ true → all_of u32 (slot_words s) ≡ true
unfolding u32
narrow_slot free h = refl
narrow_slot (resource r created) h = both (and_left (u32 r) _ h) refl
narrow_slot (resource r (queued t ts)) h =
    let rest = and_right (u32 r) _ h in
    let whole : ts < 2 ^ 64 = below_u64 ts (and_right (u32 t) _ rest) in
    both (and_left (u32 r) _ h) (both (and_left (u32 t) _ rest) (both (u32_of (ts % 2 ^ 32) (omega arith)) (both (u32_of (ts / 2 ^ 32) (omega arith)) refl)))
narrow_slot (resource r dequeued) h = both (and_left (u32 r) _ h) refl

narrow_extent : (v : ℕ) → good_extent v ≡ true → u32 v ≡ true
narrow_extent v h = let high = (within_bounds v 16 4096 (and_left (within v 16 4096) _ h)).1 in u32_of v (omega arith)

narrow_queue : (q : Queue) → good_queue q ≡ true → all_of u32 (queue_words q) ≡ true
unfolding queue_words
narrow_queue q h =
    let slots = and_left (good_slots q.slots) _ h in
    let params = and_right (good_slots q.slots) _ h in
    let more = and_right (good_extent q.width) _ params in
    both (u32_of 0 (omega arith))
    (both (narrow_extent q.width (and_left (good_extent q.width) _ params))
    (both (narrow_extent q.height (and_left (good_extent q.height) _ more))
    (both (and_right (good_extent q.height) _ more)
    (all_pieces u32 slot_words good_slot narrow_slot q.slots (and_left (all_of good_slot q.slots) _ (and_right (eqb (length q.slots) 16) _ slots))))))

narrow_drain : (d : Option ℕ) → good_drain d ≡ true → all_of u32 (drain_words d ++ zeros 3) ≡ true
unfolding u32
narrow_drain None h = narrow_zeros 3
narrow_drain (Some t) h = both h (narrow_zeros 3)

narrow_head : (n format : ℕ) (d : Option ℕ) → u32 n ≡ true → within format first_coded last_coded ≡ true → good_drain d ≡ true → all_of u32 (head_words n format d) ≡ true
unfolding head_words
narrow_head n format d u w g =
    let high = (within_bounds format first_coded last_coded w).1 in
    both (u32_of 1 (omega arith)) (both u (both (u32_of format (omega arith)) (narrow_drain d g)))

narrow_place : (p : Place) → good_place p ≡ true → all_of u32 (place_words p) ≡ true
unfolding place_words
narrow_place vacant h = narrow_zeros 512
narrow_place (occupied n b) h =
    let head = head_words n b.format b.draining in
    let ins = queue_words b.inputs in
    let outs = queue_words b.outputs in
    all_append u32 head (ins ++ (outs ++ zeros 336))
    ∙ both (narrow_head n b.format b.draining (and_left (u32 n) _ h) (and_left (within b.format first_coded last_coded) _ (and_right (u32 n) _ h)) (and_left (good_drain b.draining) _ (good_rest n b h)))
    (all_append u32 ins (outs ++ zeros 336)
    ∙ both (narrow_queue b.inputs (good_inputs n b h)) (all_append u32 outs (zeros 336) ∙ both (narrow_queue b.outputs (good_outputs n b h)) (narrow_zeros 336)))

narrow_mark : (s : List Bool) → length s ≡ stream_numbers → (p : Place) → spent_in s p ≡ true → u32 (place_mark p) ≡ true
narrow_mark s long p h = u32_of (place_mark p) (omega (arith, mark_below s long p h))

narrow_pending : (p : Place) → has_all_slots p ≡ true → u32 (pending_at p) ≡ true
narrow_pending p h = u32_of (pending_at p) (omega (arith, pending_most p h))

narrow_figures : (d : Device) → well_formed d ≡ true → all_of u32 (figure_words d.places) ≡ true
unfolding figure_words
narrow_figures d h =
    let ps = d.places in
    both (u32_of (pending_among ps) (omega (arith, all_most ps (well_sized d h), well_eight d h)))
    (all_append u32 (map place_mark ps) (map pending_at ps)
    ∙ both (all_map (spent_in d.spent) u32 place_mark (narrow_mark d.spent (well_numbers d h)) ps (well_spent d h).each) (all_map has_all_slots u32 pending_at narrow_pending ps (well_sized d h)))

pub narrow : Narrow
unfolding encode blocks behind
narrow d h =
    let figures = figure_words d.places in
    all_append u32 (blocks d.places) (behind d.spent d.places)
    ∙ both (all_pieces u32 place_words good_place narrow_place d.places (well_places d h).each)
    (all_append u32 (spent_words d.spent) (zeros gap_size ++ (figures ++ zeros unused_size))
    ∙ both (spent_narrow d.spent (well_numbers d h))
    (all_append u32 (zeros gap_size) (figures ++ zeros unused_size)
    ∙ both (narrow_zeros gap_size) (all_append u32 figures (zeros unused_size) ∙ both (narrow_figures d h) (narrow_zeros unused_size))))

-- A number's bit

pub spent_bits : SpentBits
unfolding number_bit
spent_bits d h n below =
    let i : ℕ = n / word_numbers in
    let word : get_or (encode d) (blocks_size + i) 0 ≡ get_or (spent_words d.spent) i 0 =
    sym (get_or-take spent_size (drop blocks_size (encode d)) i 0 (omega arith) ∙ get_or-drop blocks_size (encode d) i 0)
    ∙ ap (λ (w : List ℕ). get_or w i 0) (spent_part d (well_sized d h) (well_eight d h)) in
    ap (λ (w : ℕ). eqb (w / 2 ^ (n % word_numbers) % 2) 1) word ∙ bit_spent d.spent (well_numbers d h) n below

-- No streams

no_zeros : zeros 0 ≡ []
unfolding zeros
no_zeros = refl

vacant_zero : (n : ℕ) → blocks (replicate n vacant) ≡ zeros (512 * n)
unfolding blocks pieces place_words
vacant_zero zero = sym (ap zeros (mul-zero 512) ∙ no_zeros)
vacant_zero (suc n) =
    ap (λ (w : List ℕ). zeros 512 ++ w) (vacant_zero n)
    ∙ zeros_append 512 (512 * n)
    ∙ ap zeros (let next : 512 + 512 * n ≡ 512 * suc n = omega (arith, mul-suc 512 n) in next)

behind_zero : behind fresh.spent fresh.places ≡ zeros (table_words - blocks_size)
unfolding behind fresh spent_words read_pieces bits_word figure_words zeros
behind_zero = refl

pub fresh_is_zero : FreshIsZero
unfolding encode fresh
fresh_is_zero = ap₂ ◌++◌ (vacant_zero stream_places) behind_zero ∙ zeros_append blocks_size (table_words - blocks_size)

pub zero_is_fresh : decode (zeros table_words) ≡ fresh
zero_is_fresh = ap decode (sym fresh_is_zero) ∙ meets_laws.back fresh well_fresh

-- Questions

reads_for_lem : (o : Option ℕ) → length (words_read o) ≡ reads_for o
reads_for_lem None = refl
reads_for_lem (Some k) = reads_found k

pub short_refused_lem : ShortRefused
short_refused_lem t h = (total_short t h, λ n. stream_short t n h)

-- as many as the places and the figure
places_read : (o : Option ℕ) → length (words_read o) ≡ length (places_visited o) + length (to_list o)
places_read o =
    length-append (map (λ k. marks_at + k) (places_visited o)) (map (λ k. place_figures_at + k) (to_list o))
    ∙ ap₂ ◌+◌ (length-map (places_visited o) (λ k. marks_at + k)) (length-map (to_list o) (λ k. place_figures_at + k))

pub few_words : FewWords
few_words t long = record {
  for_total = ap (λ (f : PendingFigure). f.reads) (total_long t long);
  for_stream = reads;
  for_places = λ n. ap (λ (f : PendingFigure). f.reads) (asked_found t n (marked_place t n) refl long) ∙ places_read (marked_place t n);
  at_most = λ n. most n (marked_place t n) refl;
}
  where
    reads : (n : ℕ) → (asked_of_stream t n).reads ≡ reads_for (marked_place t n)
    reads n = ap (λ (f : PendingFigure). f.reads) (asked_found t n (marked_place t n) refl long) ∙ reads_for_lem (marked_place t n)

    most : (n : ℕ) (o : Option ℕ) → marked_place t n ≡ o → (asked_of_stream t n).reads ≤ 9
    most n None e = omega (arith, reads n, ap reads_for e)
    most n (Some k) e = omega (arith, reads n, ap reads_for e, marked_below t n k long e)

pub no_other_word_lem : NoOtherWord
no_other_word_lem t u long long' = record { total_only = λ agree. same_total t u long long' agree.0; stream_only = same_answer t u long long' }

counts : (d : Device) (rest : List ℕ) → well_formed d ≡ true → Counts (encode d ++ rest) d
counts d rest h = record {
  in_all = total_long (encode d ++ rest) long ∙ (λ i. record { refusal = 0; pending = total_there d rest (well_sized d h) (well_eight d h) i; reads = 1 });
  of_stream = λ n.
      asked_stream d rest (well_sized d h) (well_eight d h) n
      ∙ (λ i. record { refusal = 0; pending = pending_of (record_of n d.places); reads = reads_for_lem (find_stream n d.places) i });
}
  where
    long : table_words ≤ length (encode d ++ rest)
    long = long_enough d rest (well_sized d h) (well_eight d h)

pub counts_right_lem : CountsRight
counts_right_lem t v = subst (λ (x : List ℕ). Counts x (decode (take table_words t))) (valid_whole layout t v) (counts (decode (take table_words t)) (drop table_words t) (valid_device layout t v))

pub total_ledger : TotalOfLedger
total_ledger t ss h m =
    let rest = drop table_words t in
    ap (λ (x : List ℕ). (asked_in_all x).pending) (same_table_lem layout meets_laws t h ss m)
    ∙ ap (λ (f : PendingFigure). f.pending) (counts (final fresh ss) rest (final_well fresh ss well_fresh m)).in_all
    ∙ total_of_ledger_lem ss m
    ∙ ap (λ (es : List Event). length (ledger_of es)) (sym (same_events layout meets_laws t h ss m))

-- Over tables

pub condition_three : ConditionThree
condition_three = on_tables layout meets_laws

pub table_promises : TablePromises
table_promises =
    record {
      fresh_short = fresh_short_lem layout;
      fresh_long = fresh_long_lem layout meets_laws;
      refusal_changes_nothing = refusal_changes_nothing_lem layout;
      error_changes_nothing = error_changes_nothing_lem layout;
      keeps_rest = keeps_rest_lem layout meets_laws;
      stays_valid = stays_valid_lem layout meets_laws;
      only_listed = only_listed_lem layout;
      no_table_refusal = no_table_refusal_lem layout meets_laws;
      writes_at_most = writes_at_most_lem layout;
      spent_exactly = spent_exactly_lem layout meets_laws;
      spent_for_good = spent_for_good_lem layout meets_laws;
      drains_end = drains_end_lem layout meets_laws;
      no_drain_after_eos = no_drain_after_eos_lem layout meets_laws;
      finishes_swap = finishes_swap_lem layout meets_laws;
      any_order = any_order layout meets_laws;
      short_refused = short_refused_lem;
      few_words = few_words;
      no_other_word = no_other_word_lem;
      counts_right = counts_right_lem;
      total_of_ledger = total_ledger;
    }
