-- The statements of specs/ClearMark, proved: with and without the clear-in-progress mark every list of steps from a fresh table shows the same.
use mathlib.Core.Path.{◌≡◌, refl, sym, ap, ap₂, ◌∙◌}
use mathlib.Core.Bool.{true, false, and-false}
use Rattle.std.specs.Prelude.{Option, None, Some}
use mathlib.Core.List.{List, [], ◌∷◌, ◌++◌}
use Prim.Native.Nat.{ℕ, ◌+◌, ◌*◌, ◌<◌}
use native.Mathlib.Nat.{add-zero}
use native.Mathlib.Omega.{arith}
use lib.ListN.{length, get_or, set, take, drop}
use lib.Seq.{set-get_or, get_or-take, get_or-drop}
use lib.Dec.{lit<}
use borrow.Author.Tests.{le-ltb}
use Rattle.laws.specs.Lists.{all_of, same}
use Rattle.laws.specs.Tests.{within}
use Rattle.laws.specs.InOrder.{by_tests}
use Rattle.field.specs.Field.{field, little_endian}
use Rattle.tag.specs.Utf8.{class_of, utf8_after, utf8}
use Rattle.tag.specs.Tag.{nul_at, good_tag}
use Rattle.laws.specs.Ascending.{insert_by, below, not_below}
use Rattle.laws.specs.Parts.{part, zeros, pieces}
use Rattle.laws.proofs.Tests.{and_left, and_right, ne_true}
use Rattle.laws.proofs.Lists.{all_get_d}
use Rattle.laws.proofs.Parts.{zero_at}
use Rattle.model.specs.Numbers.{table_words, answer_room}
use Rattle.model.specs.Device.{QueueType, input, output, Place, vacant, occupied, Device, fresh, put_record, is_spent, spend}
use Rattle.model.specs.Frames.{rule_of, queue_named, queue_type, stream_id}
use Rattle.model.specs.Answers.{response_bytes, read_from}
use Rattle.model.specs.Commands.{on_create, on_destroy, on_create_resource, on_queue, on_clear, on_command}
use Rattle.model.specs.Steps.{Act, command, finish, drained, Step, stream_of, serve, DeviceReply, host_refusal, step_on, Event, event_of, events_of, final, accepted}
use Rattle.model.specs.Tables.{valid, effect}
use Rattle.model.proofs.WellFormed.{well_fresh}
use Rattle.model.proofs.Tables.{valid_device, valid_used, same_events, same_table_lem, final_well}
use Rattle.queue.specs.Words.{queue_words}
use Rattle.table.specs.Blocks.{queue_start, head_words, place_words, blocks, behind, encode, decode, layout}
use Rattle.table.specs.Search.{place_at, has_all_slots}
use Rattle.clear_mark.specs.ClearMark.{Marks, MarkedDevice, mark_of, mark_hits, marked_step, marks_after, marked_after, marked_events, marked_final, marked_fresh, marked_words, marked_encode, NoClearInProgress, MarkRefused, MarkCase}
use Rattle.table.proofs.Records.{queue_part, block_part}
use Rattle.table.proofs.Theorems.{meets_laws, well_sized, well_eight}

-- no mark stands
abbrev Unmarked : Marks → Type 0
Unmarked m = (n : ℕ) (q : QueueType) → m n q ≡ false

-- A step

unmarked_of : (m : Marks) (n : ℕ) (x : Option QueueType) → Unmarked m → mark_of m n x ≡ false
unmarked_of m n None u = refl
unmarked_of m n (Some q) u = u n q

no_hit_of : (d : MarkedDevice) (a : Act) → Unmarked d.marks → mark_hits d a ≡ false
unfolding mark_hits
no_hit_of d (command t f) u = simp (unmarked_of d.marks (stream_id f) (queue_named (queue_type f)) u, and-false)
no_hit_of d (finish n qt r flags ts) u = refl
no_hit_of d (drained n) u = refl

same_step : (d : MarkedDevice) (s : Step) → Unmarked d.marks → marked_step d s ≡ step_on d.device s
unfolding marked_step
same_step d s u = simp (no_hit_of d s.act u, and-false)

-- a step sets no mark
still_unmarked : (d : MarkedDevice) (e : Event) → Unmarked d.marks → Unmarked (marks_after d e)
unfolding marks_after
still_unmarked d e u n q = simp (u n q)

-- Lists

module _ {d : MarkedDevice} {x : Device} (u : Unmarked d.marks) (e : d.device ≡ x) (s : Step) where
  step_is : marked_step d s ≡ step_on x s
  step_is = same_step d s u ∙ ap (λ (y : Device). step_on y s) e

  after_is : (marked_after d s).device ≡ (step_on x s).device
  after_is = ap (λ (o : DeviceReply). o.device) step_is

  after_unmarked : Unmarked (marked_after d s).marks
  after_unmarked = still_unmarked d (event_of s (marked_step d s)) u

events_are : (d : MarkedDevice) (x : Device) (ss : List Step) → Unmarked d.marks → d.device ≡ x → marked_events d ss ≡ events_of x ss
events_are d x [] u e = refl
events_are d x (s ∷ ss) u e =
    ap₂ (λ (v : Event) (l : List Event). v ∷ l) (ap (event_of s) (step_is u e s)) (events_are (marked_after d s) (step_on x s).device ss (after_unmarked u e s) (after_is u e s))

final_is : (d : MarkedDevice) (x : Device) (ss : List Step) → Unmarked d.marks → d.device ≡ x → (marked_final d ss).device ≡ final x ss
final_is d x [] u e = e
final_is d x (s ∷ ss) u e = final_is (marked_after d s) (step_on x s).device ss (after_unmarked u e s) (after_is u e s)

final_unmarked : (d : MarkedDevice) (ss : List Step) → Unmarked d.marks → Unmarked (marked_final d ss).marks
final_unmarked d [] u = u
final_unmarked d (s ∷ ss) u = final_unmarked (marked_after d s) ss (after_unmarked u refl s)

-- Words

-- a queue's first word stands in its place, and first in its own part of it
queue_inside : (q : QueueType) → queue_start q < 512
queue_inside input = lit< tt
queue_inside output = lit< tt

first_word : (l : List ℕ) (a k : ℕ) → 0 < k → get_or l a 0 ≡ get_or (part a k l) 0 0
first_word l a k h = ap (λ (i : ℕ). get_or l i 0) (sym (add-zero a)) ∙ sym (get_or-take k (drop a l) 0 0 h ∙ get_or-drop a l 0 0)

-- it is zero
spare_zero : (p : Place) (q : QueueType) → has_all_slots p ≡ true → get_or (place_words p) (queue_start q) 0 ≡ 0
unfolding place_words queue_words
spare_zero vacant q h = zero_at 512 (queue_start q) (queue_inside q)
spare_zero (occupied n b) q h =
    first_word (place_words (occupied n b)) (queue_start q) 84 (lit< tt)
    ∙ ap (λ (w : List ℕ). get_or w 0 0) (queue_part n b h q)

-- zero written over it changes nothing
spare_kept : (p : Place) (q : QueueType) → has_all_slots p ≡ true → set (place_words p) (queue_start q) 0 ≡ place_words p
spare_kept p q h = ap (set (place_words p) (queue_start q)) (sym (spare_zero p q h)) ∙ set-get_or (place_words p) (queue_start q) 0

words_are : (m : Marks) (p : Place) → Unmarked m → has_all_slots p ≡ true → marked_words m p ≡ place_words p
unfolding marked_words
words_are m vacant u h = refl
words_are m (occupied n b) u h =
    rw (u n input, u n output)
    (ap (λ (w : List ℕ). set w (queue_start output) 0) (spare_kept (occupied n b) input h) ∙ spare_kept (occupied n b) output h)

blocks_are : (m : Marks) (ps : List Place) → Unmarked m → all_of has_all_slots ps ≡ true → pieces (marked_words m) ps ≡ blocks ps
unfolding pieces blocks
blocks_are m [] u h = refl
blocks_are m (p ∷ ps) u h =
    ap₂ ◌++◌ (words_are m p u (and_left (has_all_slots p) (all_of has_all_slots ps) h)) (blocks_are m ps u (and_right (has_all_slots p) (all_of has_all_slots ps) h))

encode_is : (d : MarkedDevice) (x : Device) → Unmarked d.marks → d.device ≡ x → all_of has_all_slots x.places ≡ true → marked_encode d ≡ encode x
unfolding marked_encode encode
encode_is d x u e h =
    ap (λ (y : Device). pieces (marked_words d.marks) y.places ++ behind y.spent y.places) e
    ∙ ap (λ (w : List ℕ). w ++ behind x.spent x.places) (blocks_are d.marks x.places u h)

-- No list tells the two rules apart

pub no_clear_in_progress : NoClearInProgress
no_clear_in_progress t ss h m =
    let none_stands = final_unmarked marked_fresh ss (λ n q. refl) in
    let well = well_sized (final fresh ss) (final_well fresh ss well_fresh m) in
    record {
      no_mark = none_stands;
      events = events_are marked_fresh fresh ss (λ n q. refl) refl ∙ sym (same_events layout meets_laws t h ss m);
      table =
          ap (λ (w : List ℕ). w ++ drop table_words t) (encode_is (marked_final marked_fresh ss) (final fresh ss) none_stands (final_is marked_fresh fresh ss (λ n q. refl) refl) well)
          ∙ sym (same_table_lem layout meets_laws t h ss m);
    }

-- A table that carries a mark

module _ (t : List ℕ) (v : valid layout t ≡ true) (k : ℕ) (q : QueueType) (h : k < 8) where
  abbrev device_read : Device
  device_read = decode (take table_words t)

  block : part (512 * k) 512 (take table_words t) ≡ place_words (place_at k device_read.places)
  block = block_part device_read (well_sized device_read (valid_device layout t v)) (well_eight device_read (valid_device layout t v)) (take table_words t) k h (valid_used layout t v)

  valid_spare : get_or t (512 * k + queue_start q) 0 ≡ 0
  valid_spare =
      sym (get_or-take table_words t (512 * k + queue_start q) 0 (omega (arith, queue_inside q)))
      ∙ sym (get_or-take 512 (drop (512 * k) (take table_words t)) (queue_start q) 0 (queue_inside q) ∙ get_or-drop (512 * k) (take table_words t) (queue_start q) 0)
      ∙ ap (λ (w : List ℕ). get_or w (queue_start q) 0) block
      ∙ spare_zero (place_at k device_read.places) q (all_get_d has_all_slots device_read.places k vacant refl (well_sized device_read (valid_device layout t v)))

pub mark_refused : MarkRefused
unfolding effect host_refusal
mark_refused t a room k q long roomy h marked =
    let invalid : valid layout t ≡ false = ne_true (valid layout t) (λ v. marked (valid_spare t v k q h)) in
    simp (le-ltb (length t) table_words long, le-ltb (length room) answer_room roomy, invalid)

-- With a mark

pub mark_case : MarkCase
unfolding within same insert_by below not_below field little_endian class_of utf8_after utf8 nul_at good_tag fresh put_record is_spent spend rule_of queue_named response_bytes read_from by_tests on_create on_destroy on_create_resource on_queue on_clear on_command stream_of serve host_refusal step_on accepted pieces zeros head_words queue_words place_words behind mark_hits marked_step marks_after marked_words marked_encode
mark_case = record { input_words = refl; output_words = refl; differ = refl; list_order = refl; dropped = refl; gone = refl; anew = refl }
