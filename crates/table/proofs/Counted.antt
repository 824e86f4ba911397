-- Laws of the figures: how large they can be, what the questions give on the words of a device, and that they look at no other words than those they read.
use Rattle.std.proofs.Common.{◌≡◌, ℕ, suc, ◌+◌, ◌-◌, ◌*◌, ◌%◌, ◌^◌, ◌<◌, ◌≤◌, Bool, true, false, eqb, List, [], ◌∷◌, ◌++◌, map, length, get_or, take, drop, set, sym, refl, ap, ◌∙◌, append_assoc, arith, length-append, length-drop, length-set, length-take-le, get_or-drop, take_all, get_or-take, ext_get_or, drop_at, le-ltb, lt-ltb, eq-eqb, ne_eqb, eqb-true}
use Rattle.std.specs.Prelude.{Option, None, Some}
use lib.ListN.{length-map, get_or-append, get_or-map}
use lib.Seq.{get_or_at, set-append_left}
use borrow.Author.Tests.{eqb-false}
use Rattle.laws.specs.Lists.{all_of, to_list, position, total, numbers_below}
use Rattle.laws.specs.Parts.{part, zeros}
use Rattle.laws.proofs.Tests.{and_left, and_right}
use Rattle.laws.proofs.Lists.{decide, map_set, set_append_add, below_length, each_below, each_behind}
use Rattle.laws.proofs.Parts.{part_mid}
use Rattle.laws.proofs.Positions.{position_ext, position_map, position_below, position_agrees}
use Rattle.model.specs.Numbers.{table_words, stream_places, stream_numbers}
use Rattle.model.specs.Device.{input, output, Place, vacant, occupied, Device, record_of, pending_of, pending_at, pending_among}
use Rattle.model.proofs.Slots.{queued_most}
use Rattle.model.specs.WellFormed.{spent_in}
use Rattle.model.proofs.Spent.{spent_below}
use Rattle.table.specs.Figures.{total_at, marks_at, place_figures_at, place_mark, figure_words, marked_place, words_read, AgreeOn, figure_found, not_read, figure_read, asked_in_all, asked_of_stream}
use Rattle.table.specs.Blocks.{unused_size, encode}
use Rattle.table.specs.Search.{place_at, is_stream, find_stream, has_all_slots}
use Rattle.table.proofs.Records.{sized_queue, used_length, front_words, front_length, figures_seam}
use Rattle.table.proofs.Bridge.{stream_found, stream_missing}

-- How large they can be

-- the number of a live place is below 1,024
pub mark_below : (s : List Bool) → length s ≡ stream_numbers → (p : Place) → spent_in s p ≡ true → place_mark p ≤ stream_numbers
mark_below s long vacant h = omega arith
mark_below s long (occupied n b) h = omega (arith, spent_below n s h)

-- sixteen inputs, sixteen outputs and a drain
pub pending_most : (p : Place) → has_all_slots p ≡ true → pending_at p ≤ 33
pending_most vacant h = omega arith
pending_most (occupied n b) h =
    omega (
      arith,
      queued_most b.inputs.slots,
      queued_most b.outputs.slots,
      sized_queue input n b h,
      sized_queue output n b h,
      one b.draining,
    )
  where
    one : (d : Option ℕ) → length (to_list d) ≤ 1
    one None = omega arith
    one (Some t) = omega arith

pub all_most : (ps : List Place) → all_of has_all_slots ps ≡ true → pending_among ps ≤ 33 * length ps
all_most [] h = omega arith
all_most (p ∷ ps) h = omega (arith, pending_most p (and_left (has_all_slots p) _ h), all_most ps (and_right (has_all_slots p) _ h))

-- The figures with those of another place

module _ (ps : List Place) (k : ℕ) (p : Place) (eight : length ps ≡ stream_places) (h : k < stream_places) where
  abbrev new_marks : List ℕ
  new_marks = map place_mark (set ps k p)

  abbrev new_figures : List ℕ
  new_figures = map pending_at (set ps k p)

  -- its mark and its figure are set
  pub place_set : (w : List ℕ) → w ≡ figure_words ps → set (set w (1 + k) (place_mark p)) (9 + k) (pending_at p) ≡ pending_among ps ∷ (new_marks ++ new_figures)
  unfolding figure_words
  place_set w e =
      let all = pending_among ps in
      let first : 1 + k ≡ suc k = omega arith in
      let second : 9 + k ≡ suc (length new_marks + k) = omega (arith, length-map (set ps k p) place_mark, length-set ps k p) in
      ap (λ (x : List ℕ). set (set x (1 + k) (place_mark p)) (9 + k) (pending_at p)) e
      ∙ ap (λ (i : ℕ). set (set (all ∷ (map place_mark ps ++ map pending_at ps)) i (place_mark p)) (9 + k) (pending_at p)) first
      ∙ ap (λ (x : List ℕ). set (all ∷ x) (9 + k) (pending_at p))
      (set-append_left (map place_mark ps) (map pending_at ps) k (place_mark p) (omega (arith, length-map ps place_mark)) ∙ ap (λ (x : List ℕ). x ++ map pending_at ps) (sym (map_set place_mark ps k p)))
      ∙ ap (λ (i : ℕ). set (all ∷ (new_marks ++ map pending_at ps)) i (pending_at p)) second
      ∙ ap (λ (x : List ℕ). all ∷ x) (set_append_add new_marks (map pending_at ps) k (pending_at p) ∙ ap (λ (x : List ℕ). new_marks ++ x) (sym (map_set pending_at ps k p)))

  -- the figures are then those of the places
  pub figures_part : (w : List ℕ) (all : ℕ) → w ≡ all ∷ (new_marks ++ new_figures) → part 9 8 w ≡ new_figures
  figures_part w all e =
      ap (part 9 8) e
      ∙ ap (take 8) (drop_at new_marks new_figures 8 (length-map (set ps k p) place_mark ∙ length-set ps k p ∙ eight))
      ∙ take_all 8 new_figures (omega (arith, length-map (set ps k p) pending_at, length-set ps k p))

-- the sum of the figures is that of all: no word is too small for it
pub sum_is : (w : List ℕ) (ps : List Place) → all_of has_all_slots ps ≡ true → length ps ≡ stream_places → w ≡ map pending_at ps → total w % 2 ^ 32 ≡ pending_among ps
sum_is w ps sized eight e = ap (λ (x : List ℕ). total x % 2 ^ 32) e ∙ omega (arith, all_most ps sized)

-- Questions on the words of a device

-- a question on a table that is long enough
asked_long : (t : List ℕ) (figure : ℕ) (words : List ℕ) → table_words ≤ length t → figure_read t figure words ≡ record { refusal = 0; pending = figure; reads = length words }
asked_long t figure words h = simp (le-ltb (length t) table_words h)

asked_short : (t : List ℕ) (figure : ℕ) (words : List ℕ) → length t < table_words → figure_read t figure words ≡ not_read
asked_short t figure words h = simp (lt-ltb (length t) table_words h)

module _ (t : List ℕ) where
  pub total_short : length t < table_words → asked_in_all t ≡ not_read
  unfolding asked_in_all
  total_short h = asked_short t (get_or t total_at 0) (total_at ∷ []) h

  pub total_long : table_words ≤ length t → asked_in_all t ≡ record { refusal = 0; pending = get_or t total_at 0; reads = 1 }
  unfolding asked_in_all
  total_long h = asked_long t (get_or t total_at 0) (total_at ∷ []) h

  pub stream_short : (n : ℕ) → length t < table_words → asked_of_stream t n ≡ not_read
  unfolding asked_of_stream
  stream_short n h = asked_short t (figure_found t (marked_place t n)) (words_read (marked_place t n)) h

-- a question for a stream, by the place that the marks give
pub asked_found : (t : List ℕ) (n : ℕ) (o : Option ℕ) → marked_place t n ≡ o → table_words ≤ length t → asked_of_stream t n ≡ record { refusal = 0; pending = figure_found t o; reads = length (words_read o) }
unfolding asked_of_stream
asked_found t n o e h = ap (λ (x : Option ℕ). figure_read t (figure_found t x) (words_read x)) e ∙ asked_long t (figure_found t o) (words_read o) h

-- a mark for each place up to the one that was found, and its figure
pub reads_found : (k : ℕ) → length (words_read (Some k)) ≡ k + 2
reads_found k =
    let marks = map (λ i. marks_at + i) (numbers_below (suc k)) in
    omega (arith, length-append marks ((place_figures_at + k) ∷ []), length-map (numbers_below (suc k)) (λ i. marks_at + i), below_length (suc k))

pub asked_at : (t : List ℕ) (n k : ℕ) → marked_place t n ≡ Some k → table_words ≤ length t → asked_of_stream t n ≡ record { refusal = 0; pending = get_or t (place_figures_at + k) 0; reads = k + 2 }
asked_at t n k e h = asked_found t n (Some k) e h ∙ (λ i. record { refusal = 0; pending = get_or t (place_figures_at + k) 0; reads = reads_found k i })

-- 0 is nobody's mark
pub no_mark_lem : (w n : ℕ) → w ≡ 0 → eqb w (suc n) ≡ false
no_mark_lem w n h = ne_eqb w (suc n) (λ e. omega (arith, h, e))

-- a word other than 0 is the mark of the number before it
pub mark_less : (w n : ℕ) → (w ≡ 0 → ⊥) → eqb (w - 1) n ≡ eqb w (suc n)
mark_less w n h =
    decide (eqb w (suc n))
    (λ e. let is = eqb-true w (suc n) e in eq-eqb (w - 1) n (omega arith) ∙ sym e)
    (λ e. ne_eqb (w - 1) n (λ is. eqb-false w (suc n) e (omega (arith, is, h))) ∙ sym e)

-- a place's mark is that of a number exactly where it holds the number's stream
mark_is : (n : ℕ) (p : Place) → eqb (place_mark p) (suc n) ≡ is_stream n p
mark_is n vacant = no_mark_lem 0 n refl
mark_is n (occupied m b) = sym (mark_less (suc m) n (λ e. omega (arith, e))) ∙ ap (λ (k : ℕ). eqb k n) (let less : suc m - 1 ≡ m = omega arith in less)

-- the marks of a table, by their places
module _ (t : List ℕ) where
  pub marks_size : table_words ≤ length t → length (part marks_at stream_places t) ≡ stream_places
  marks_size h = length-take-le stream_places (drop marks_at t) (omega (arith, length-drop marks_at t))

  -- the place of a number is one of the eight
  pub marked_below : (n k : ℕ) → table_words ≤ length t → marked_place t n ≡ Some k → k < stream_places
  unfolding marked_place
  marked_below n k h e = position_below (λ w. eqb w (suc n)) 0 (part marks_at stream_places t) stream_places (marks_size h) k e

  pub mark_at : (k : ℕ) → k < stream_places → get_or (part marks_at stream_places t) k 0 ≡ get_or t (marks_at + k) 0
  mark_at k h = get_or-take stream_places (drop marks_at t) k 0 h ∙ get_or-drop marks_at t k 0

module _ (d : Device) (rest : List ℕ) (sized : all_of has_all_slots d.places ≡ true) (eight : length d.places ≡ stream_places) where
  abbrev words : List ℕ
  words = encode d ++ rest

  abbrev marks : List ℕ
  marks = map place_mark d.places

  abbrev figures : List ℕ
  figures = map pending_at d.places

  abbrev before_total : List ℕ
  before_total = front_words d.places d.spent

  abbrev behind_figures : List ℕ
  behind_figures = zeros unused_size ++ rest

  total_length : length before_total ≡ total_at
  total_length = front_length d.places d.spent sized eight

  -- the total, the marks and the figures, one after the other
  in_parts : words ≡ before_total ++ (pending_among d.places ∷ (marks ++ (figures ++ behind_figures)))
  unfolding encode figure_words
  in_parts = ap (λ (w : List ℕ). w ++ rest) (figures_seam d.places d.places d.spent) ∙ simp append_assoc

  abbrev with_total : List ℕ
  with_total = before_total ++ pending_among d.places ∷ []

  from_marks : words ≡ with_total ++ (marks ++ (figures ++ behind_figures))
  from_marks = in_parts ∙ sym (append_assoc before_total (pending_among d.places ∷ []) (marks ++ (figures ++ behind_figures)))

  with_length : length with_total ≡ marks_at
  with_length = omega (arith, length-append before_total (pending_among d.places ∷ []), total_length)

  marks_length : length marks ≡ stream_places
  marks_length = length-map d.places place_mark ∙ eight

  marks_there : part marks_at stream_places words ≡ marks
  marks_there = ap (part marks_at stream_places) from_marks ∙ part_mid with_total marks (figures ++ behind_figures) marks_at stream_places with_length marks_length

  figures_there : drop place_figures_at words ≡ figures ++ behind_figures
  figures_there =
      ap (drop place_figures_at) (from_marks ∙ sym (append_assoc with_total marks (figures ++ behind_figures)))
      ∙ drop_at (with_total ++ marks) (figures ++ behind_figures) place_figures_at (omega (arith, length-append with_total marks, with_length, marks_length))

  figure_there : (k : ℕ) → k < stream_places → get_or words (place_figures_at + k) 0 ≡ pending_at (place_at k d.places)
  figure_there k h =
      sym (get_or-drop place_figures_at words k 0)
      ∙ ap (λ (w : List ℕ). get_or w k 0) figures_there
      ∙ get_or-append figures behind_figures 0 k (omega (arith, length-map d.places pending_at))
      ∙ get_or-map pending_at d.places k vacant

  pub total_there : get_or words total_at 0 ≡ pending_among d.places
  total_there = ap (λ (w : List ℕ). get_or w total_at 0) in_parts ∙ get_or_at before_total (pending_among d.places) (marks ++ (figures ++ behind_figures)) 0 total_at total_length

  -- the place of a number by the marks is that of its stream
  marked : (n : ℕ) → marked_place words n ≡ find_stream n d.places
  unfolding marked_place
  marked n =
      ap (position (λ w. eqb w (suc n))) marks_there
      ∙ position_map (λ w. eqb w (suc n)) place_mark d.places
      ∙ position_ext _ _ (mark_is n) d.places

  -- and its figure is what its record gives
  found_figure : (n : ℕ) (o : Option ℕ) → find_stream n d.places ≡ o → figure_found words o ≡ pending_of (record_of n d.places)
  found_figure n None e = ap pending_of (sym (stream_missing n d.places e))
  found_figure n (Some k) e =
      let at = stream_found n d.places k e in
      figure_there k (omega (arith, at.inside)) ∙ ap pending_at at.at ∙ ap pending_of (sym at.known)

  pub long_enough : table_words ≤ length words
  long_enough = omega (arith, length-append (encode d) rest, used_length d sized eight)

  pub asked_stream : (n : ℕ) → asked_of_stream words n ≡ record { refusal = 0; pending = pending_of (record_of n d.places); reads = length (words_read (find_stream n d.places)) }
  asked_stream n =
      let found = find_stream n d.places in
      asked_found words n found (marked n) long_enough ∙ (λ i. record { refusal = 0; pending = found_figure n found refl i; reads = length (words_read found) })

-- No other words than those that are read

module _ (t u : List ℕ) (long : table_words ≤ length t) (long' : table_words ≤ length u) where
  abbrev agree_at : ℕ → Type 0
  agree_at i = get_or t i 0 ≡ get_or u i 0

  marks_agree : (m : ℕ) (rest : List ℕ) → m ≤ stream_places → AgreeOn t u (map (λ i. marks_at + i) (numbers_below m) ++ rest) → (i : ℕ) → i < m
      → get_or (part marks_at stream_places t) i 0 ≡ get_or (part marks_at stream_places u) i 0
  marks_agree m rest below e i h =
      mark_at t i (omega arith) ∙ each_below agree_at (λ k. marks_at + k) m rest e i h ∙ sym (mark_at u i (omega arith))

  as_many : length (part marks_at stream_places t) ≡ length (part marks_at stream_places u)
  as_many = marks_size t long ∙ sym (marks_size u long')

  same_place : (n : ℕ) (o : Option ℕ) → marked_place t n ≡ o → AgreeOn t u (words_read o) → marked_place u n ≡ o
  unfolding marked_place
  same_place n None e agree =
      ap (position (λ w. eqb w (suc n)))
      (sym (ext_get_or 0 (part marks_at stream_places t) (part marks_at stream_places u) as_many (λ i h. marks_agree stream_places [] (omega arith) agree i (omega (arith, h, marks_size t long)))))
      ∙ e
  same_place n (Some k) e agree =
      let below = marked_below t n k long e in
      position_agrees (λ w. eqb w (suc n)) 0 (part marks_at stream_places t) (part marks_at stream_places u) k as_many e
      (λ i h. marks_agree (suc k) ((place_figures_at + k) ∷ []) (omega arith) agree i (omega arith))

  same_figure : (o : Option ℕ) → AgreeOn t u (words_read o) → figure_found t o ≡ figure_found u o
  same_figure None agree = refl
  same_figure (Some k) agree = (each_behind agree_at (map (λ i. marks_at + i) (numbers_below (suc k))) ((place_figures_at + k) ∷ []) agree).0

  pub same_answer : (n : ℕ) → AgreeOn t u (words_read (marked_place t n)) → asked_of_stream t n ≡ asked_of_stream u n
  same_answer n agree =
      let o = marked_place t n in
      asked_found t n o refl long
      ∙ (λ i. record { refusal = 0; pending = same_figure o agree i; reads = length (words_read o) })
      ∙ sym (asked_found u n o (same_place n o refl agree) long')

  pub same_total : agree_at total_at → asked_in_all t ≡ asked_in_all u
  same_total agree = total_long t long ∙ (λ i. record { refusal = 0; pending = agree i; reads = 1 }) ∙ sym (total_long u long')
