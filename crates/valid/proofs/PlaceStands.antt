-- The test whether words are those of the device that they stand for, block by block and part by part.
use mathlib.Core.Path.{◌≡◌, refl, sym, ap, ap₂, ◌∙◌, subst}
use mathlib.Core.Bool.{Bool, true, false, ◌&&◌, and-true, and-false, and_comm, and_assoc}
use mathlib.Core.List.{List, [], ◌∷◌, ◌++◌}
use Prim.Native.Nat.{ℕ, ◌+◌, ◌*◌, ◌%◌, ◌^◌, ◌<◌, ◌≤◌}
use native.Mathlib.Omega.{arith}
use lib.ListN.{length, get_or, take, drop, length-drop, get_or-eq_default}
use lib.Seq.{drop-drop, take_all, length-take-le, get_or-take, get_or-drop}
use lib.Dec.{eqb, ltb, lit<}
use borrow.Author.Tests.{eq-eqb, ne_eqb, eqb-true, ltb-true, ltb-false}
use Rattle.laws.specs.Lists.{all_of, same, distinct, total}
use Rattle.laws.specs.Tests.{all_below}
use Rattle.laws.specs.Parts.{part, zeros, read_pieces}
use Rattle.laws.proofs.Tests.{all_ext, below_both, and_left, and_right}
use Rattle.laws.proofs.Parts.{zero_length}
use Rattle.laws.proofs.Lists.{decide, cond_elim, eqb_same}
use Rattle.laws.proofs.Same.{same_eq, same_true, same_cut}
use Rattle.laws.proofs.Pieces.{same_pieces, read_length, read_at, all_places, all_read, pieces_again}
use Rattle.model.specs.Numbers.{table_words, stream_places, stream_numbers}
use Rattle.model.specs.Device.{QueueType, input, output, Stream, Place, vacant, queue_of, is_spent, pending_at, pending_among}
use Rattle.model.specs.WellFormed.{good_place, distinct_places, good_places, spent_in, well_formed}
use Rattle.model.specs.Tables.{valid}
use Rattle.queue.specs.Words.{queue_words, decode_queue}
use Rattle.queue.proofs.Records.{queue_length_lem, decoded_slots}
use Rattle.table.specs.Spent.{spent_size, spent_words, decode_spent}
use Rattle.table.specs.Figures.{total_at, figures_size, first_mark, first_figure, place_mark, figure_words}
use Rattle.table.specs.Blocks.{place_size, head_words, place_words, blocks, blocks_size, gap_size, unused_size, behind, encode, drain_in, decode_place, places_in, decode, layout}
use Rattle.table.specs.Search.{place_at, has_all_slots}
use Rattle.valid.specs.Rules.{head_stands, place_stands, place_spent, place_valid, place_right, numbers_from, blocks_valid, blocks_right}
use Rattle.table.proofs.Bits.{spent_length, all_words, spent_decoded, spent_again}
use Rattle.table.proofs.Records.{head_length, queue_sized, place_length, blocks_length, figure_length}
use Rattle.table.proofs.Heads.{vacant_word}
use Rattle.table.proofs.Counted.{mark_below}
use Rattle.valid.proofs.Elements.{places_numbers}
use Rattle.valid.proofs.FigureStands.{counted_at, figures_test, counted_sum}

-- What is decoded has its sizes

abbrev stream_read : List ℕ → Stream
stream_read w = record {
  format = get_or w 2 0;
  draining = drain_in (get_or w 3 0) (get_or w 4 0);
  inputs = decode_queue (part 8 84 w);
  outputs = decode_queue (part 92 84 w);
}

sixteen : (w : List ℕ) (q : QueueType) → length (queue_of q (stream_read w)).slots ≡ 16
sixteen w input = decoded_slots (part 8 84 w)
sixteen w output = decoded_slots (part 92 84 w)

pub decoded_sized : (w : List ℕ) → has_all_slots (decode_place w) ≡ true
unfolding decode_place
decoded_sized w = cond_elim (λ (p : Place). has_all_slots p ≡ true) (eqb (get_or w 0 0) 1) (λ _. queue_sized (get_or w 1 0) (stream_read w) (sixteen w)) (λ _. refl)

pub decode_sized : (w : List ℕ) → all_of has_all_slots (places_in w) ≡ true
unfolding places_in
decode_sized w = all_read decode_place has_all_slots 512 decoded_sized 8 w

decode_eight : (w : List ℕ) → length (places_in w) ≡ 8
unfolding places_in
decode_eight w = read_length decode_place 512 8 w

-- The blocks, one by one

stands_test : (t : List ℕ) → length t ≡ blocks_size → same t (blocks (places_in t)) ≡ all_below 8 (λ k. place_stands (part (512 * k) 512 t))
unfolding blocks places_in
stands_test t long =
    ap (same t) (pieces_again place_words decode_place 512 8 t)
    ∙ same_pieces (λ w. place_words (decode_place w)) 512 (λ w. place_length (decode_place w) (decoded_sized w)) (λ w. w) 8 t long

-- A block, by its parts

pub stands_vacant : (b : List ℕ) → (get_or b 0 0 ≡ 1 → ⊥) → place_stands b ≡ same b (zeros 512)
unfolding decode_place place_words
stands_vacant b h = rw (ne_eqb (get_or b 0 0) 1 h)

module _ (b : List ℕ) (long : length b ≡ 512) (live : get_or b 0 0 ≡ 1) where
  abbrev queue_read : ℕ → List ℕ
  queue_read a = queue_words (decode_queue (part a 84 b))

  abbrev queue_stands : ℕ → Bool
  queue_stands a = same (part a 84 b) (queue_read a)

  queue_84 : (a : ℕ) → length (queue_read a) ≡ 84
  queue_84 a = queue_length_lem (decode_queue (part a 84 b)) (decoded_slots (part a 84 b))

  abbrev head_of : List ℕ
  head_of = head_words (get_or b 1 0) (get_or b 2 0) (drain_in (get_or b 3 0) (get_or b 4 0))

  word_at : (i : ℕ) → i < 8 → get_or b i 0 ≡ get_or (take 8 b) i 0
  word_at i l = sym (get_or-take 8 b i 0 l)

  cut8 : same b (head_of ++ (queue_read 8 ++ (queue_read 92 ++ zeros 336))) ≡ head_stands (take 8 b) && same (drop 8 b) (queue_read 8 ++ (queue_read 92 ++ zeros 336))
  cut8 =
      same_cut b head_of (queue_read 8 ++ (queue_read 92 ++ zeros 336)) 8 (omega arith) (head_length (get_or b 1 0) (get_or b 2 0) (drain_in (get_or b 3 0) (get_or b 4 0)))
      ∙ rw (word_at 1 (lit< tt), word_at 2 (lit< tt), word_at 3 (lit< tt), word_at 4 (lit< tt))

  cut92 : same (drop 8 b) (queue_read 8 ++ (queue_read 92 ++ zeros 336)) ≡ queue_stands 8 && same (drop 92 b) (queue_read 92 ++ zeros 336)
  cut92 = same_cut (drop 8 b) (queue_read 8) (queue_read 92 ++ zeros 336) 84 (rw length-drop (omega arith)) (queue_84 8) ∙ rw (drop-drop 84 8 b)

  cut176 : same (drop 92 b) (queue_read 92 ++ zeros 336) ≡ queue_stands 92 && same (part 176 336 b) (zeros (length (part 176 336 b)))
  cut176 =
      same_cut (drop 92 b) (queue_read 92) (zeros 336) 84 (rw length-drop (omega arith)) (queue_84 92)
      ∙ rw (drop-drop 84 92 b, take_all 336 (drop 176 b) (rw length-drop (omega arith)), length-drop 176 b, long)

  pub stands_live : place_stands b ≡ head_stands (take 8 b) && (queue_stands 8 && (queue_stands 92 && same (part 176 336 b) (zeros (length (part 176 336 b)))))
  unfolding decode_place place_words
  stands_live =
      rw (eq-eqb (get_or b 0 0) 1 live)
      (cut8 ∙ ap (λ (x : Bool). head_stands (take 8 b) && x) (cut92 ∙ ap (λ (x : Bool). queue_stands 8 && x) cut176))

-- what the test of a block's words takes
pub ruleset block_laws = (stands_vacant, stands_live)

-- a block that stands for its place and does not begin with 0 is that of a live stream, whose number is its second word
live_first : (b : List ℕ) → (get_or b 0 0 ≡ 0 → ⊥) → place_stands b ≡ true → get_or b 0 0 ≡ 1
unfolding decode_place
live_first b used stands =
    decide (eqb (get_or b 0 0) 1) (eqb-true (get_or b 0 0) 1)
    (λ e. absurd (used (vacant_word (same_true b (place_words vacant) (rw e at stands)))))

pub number_spent : {r : Bool} (spent b : List ℕ) → (get_or b 0 0 ≡ 0 → ⊥) → place_stands b ≡ true → r ≡ is_spent (get_or b 1 0) (decode_spent spent) → r ≡ place_spent spent b
unfolding place_spent decode_place
number_spent spent b used stands e = e ∙ rw (eq-eqb (get_or b 0 0) 1 (live_first b used stands))

-- a block that passes stands for its place
pub valid_words : (spent b : List ℕ) → place_valid spent b ≡ true → b ≡ place_words (decode_place b)
unfolding place_valid
valid_words spent b e = same_true b (place_words (decode_place b)) (and_left (place_stands b) _ e)

-- and as the number of its stream is spent, its mark is exact
pub mark_exact : {r : ℕ} (spent b : List ℕ) → length spent ≡ spent_size → place_valid spent b ≡ true → (b ≡ place_words (decode_place b) → r ≡ place_mark (decode_place b) % 2 ^ 32) → r ≡ place_mark (decode_place b)
unfolding place_spent place_valid
mark_exact spent b long v e =
    let number = and_right (good_place (decode_place b)) _ (and_right (place_stands b) _ v) in
    omega (arith, e (valid_words spent b v), mark_below (decode_spent spent) (spent_decoded spent long) (decode_place b) number)

-- a vacant block, with its mark and its figure
pub vacant_right : (spent : List ℕ) (mark figure : ℕ) (b : List ℕ) → get_or b 0 0 ≡ 0 → place_right spent mark figure b ≡ (eqb mark 0 && (eqb figure 0 && same b (zeros 512)))
unfolding place_right place_valid place_spent decode_place place_words
vacant_right spent mark figure b first = rw (ne_eqb (get_or b 0 0) 1 (λ e. omega (arith, first, e)), and-true (same b (zeros 512))) (turned (same b (zeros 512)) (eqb mark 0) (eqb figure 0))
  where
    turned : (z m f : Bool) → (z && (m && f)) ≡ (m && (f && z))
    turned z true f = and_comm z f
    turned z false f = and-false z

-- the tests of eight blocks, each in its place among the words
pub each_block : {l : List (List ℕ)} (spent figures w : List ℕ) → l ≡ read_pieces (λ x. x) place_size stream_places w
    → all_below stream_places (λ k. place_right spent (get_or figures (first_mark + k) 0) (get_or figures (first_figure + k) 0) (get_or l k []))
    ≡ all_below stream_places (λ k. place_right spent (get_or figures (first_mark + k) 0) (get_or figures (first_figure + k) 0) (part (place_size * k) place_size w))
each_block {l} spent figures w e =
    all_ext _ _ stream_places (λ k h. ap (place_right spent (get_or figures (first_mark + k) 0) (get_or figures (first_figure + k) 0))
    (ap (λ (x : List (List ℕ)). get_or x k []) e ∙ read_at (λ x. x) place_size stream_places w k [] h))

-- The eight words before the queues, by the drain's first word

eight : (P : List ℕ → Type 0) → ((a n f o t x y z : ℕ) → P (a ∷ n ∷ f ∷ o ∷ t ∷ x ∷ y ∷ z ∷ [])) → (h : List ℕ) → length h ≡ 8 → P h
eight P g [] e = absurd (omega arith)
eight P g (a ∷ []) e = absurd (omega arith)
eight P g (a ∷ n ∷ []) e = absurd (omega arith)
eight P g (a ∷ n ∷ f ∷ []) e = absurd (omega arith)
eight P g (a ∷ n ∷ f ∷ o ∷ []) e = absurd (omega arith)
eight P g (a ∷ n ∷ f ∷ o ∷ t ∷ []) e = absurd (omega arith)
eight P g (a ∷ n ∷ f ∷ o ∷ t ∷ x ∷ []) e = absurd (omega arith)
eight P g (a ∷ n ∷ f ∷ o ∷ t ∷ x ∷ y ∷ []) e = absurd (omega arith)
eight P g (a ∷ n ∷ f ∷ o ∷ t ∷ x ∷ y ∷ z ∷ []) e = g a n f o t x y z
eight P g (a ∷ n ∷ f ∷ o ∷ t ∷ x ∷ y ∷ z ∷ w ∷ r) e = absurd (omega arith)

module _ (h : List ℕ) (long : length h ≡ 8) where
  pub head_idle : get_or h 0 0 ≡ 1 → get_or h 3 0 ≡ 0 → same (part 4 4 h) (zeros (length (part 4 4 h))) ≡ head_stands h
  unfolding same head_words zeros
  head_idle =
      eight (λ x. get_or x 0 0 ≡ 1 → get_or x 3 0 ≡ 0 → same (part 4 4 x) (zeros (length (part 4 4 x))) ≡ head_stands x)
      (λ a n f o t x y z one e. rw (one, e, eqb_same n, eqb_same f, eq-eqb o 0 e)) h long

  pub head_draining : get_or h 0 0 ≡ 1 → get_or h 3 0 ≡ 1 → same (part 5 3 h) (zeros (length (part 5 3 h))) ≡ head_stands h
  unfolding same head_words zeros
  head_draining =
      eight (λ x. get_or x 0 0 ≡ 1 → get_or x 3 0 ≡ 1 → same (part 5 3 x) (zeros (length (part 5 3 x))) ≡ head_stands x)
      (λ a n f o t x y z one e. rw (one, e, eqb_same n, eqb_same f, eqb_same t, eq-eqb o 1 e)) h long

  pub head_other : get_or h 0 0 ≡ 1 → (get_or h 3 0 ≡ 0 → ⊥) → (get_or h 3 0 ≡ 1 → ⊥) → false ≡ head_stands h
  unfolding same head_words zeros
  head_other =
      eight (λ x. get_or x 0 0 ≡ 1 → (get_or x 3 0 ≡ 0 → ⊥) → (get_or x 3 0 ≡ 1 → ⊥) → false ≡ head_stands x)
      (λ a n f o t x y z one e d. rw (one, ne_eqb o 1 d, ne_eqb o 0 e, eqb_same n, eqb_same f)) h long

-- The whole test of eight blocks: each is that of a place that keeps the rules, and no number stands twice

turned : (good apart spent stands once : Bool) → (stands ≡ true → apart ≡ once) → ((good && apart) && spent) && stands ≡ (stands && (good && spent)) && once
turned g a s false o h = and-false ((g && a) && s)
turned false a s true o h = refl
turned true true s true o h = and-true s ∙ sym (and-true s) ∙ ap (λ (x : Bool). s && x) (h refl)
turned true false s true o h = sym (and-false s) ∙ ap (λ (x : Bool). s && x) (h refl)

-- each place is read from its block
each_test : (p : Place → Bool) (t : List ℕ) → all_of p (places_in t) ≡ all_below stream_places (λ k. p (decode_place (part (place_size * k) place_size t)))
unfolding places_in
each_test p t =
    all_places p vacant (places_in t)
    ∙ ap (λ (n : ℕ). all_below n (λ k. p (place_at k (places_in t)))) (decode_eight t)
    ∙ all_ext _ _ stream_places (λ k h. ap p (read_at decode_place place_size stream_places t k vacant h))

-- the rules of the places and those of their numbers, place by place
rules_test : (t w : List ℕ) → (all_of good_place (places_in t) && all_of (spent_in (decode_spent w)) (places_in t)) ≡ all_below stream_places (λ k. good_place (decode_place (part (place_size * k) place_size t)) && place_spent w (part (place_size * k) place_size t))
unfolding place_spent
rules_test t w = ap₂ (λ (x y : Bool). x && y) (each_test good_place t) (each_test (spent_in (decode_spent w)) t) ∙ sym (below_both _ _ stream_places)

blocks_test : (t w : List ℕ) → length t ≡ blocks_size → (good_places (places_in t) && all_of (spent_in (decode_spent w)) (places_in t)) && same t (blocks (places_in t)) ≡ blocks_valid w t
unfolding place_valid blocks blocks_valid
blocks_test t w long =
    let stands : ℕ → Bool = λ k. place_stands (part (place_size * k) place_size t) in
    let good : ℕ → Bool = λ k. good_place (decode_place (part (place_size * k) place_size t)) && place_spent w (part (place_size * k) place_size t) in
    rw (eq-eqb (length (places_in t)) stream_places (decode_eight t), stands_test t long)
    (turned (all_of good_place (places_in t)) (distinct_places (places_in t)) (all_of (spent_in (decode_spent w)) (places_in t)) (all_below stream_places stands) (distinct (numbers_from 0 place_size stream_places t))
    (λ e. ap distinct (sym (places_numbers t (places_in t) (decode_sized t) (decode_eight t) (same_true _ _ (stands_test t long ∙ e)))))
    ∙ ap (λ (b : Bool). (all_below stream_places stands && b) && distinct (numbers_from 0 place_size stream_places t)) (rules_test t w)
    ∙ ap (λ (b : Bool). b && distinct (numbers_from 0 place_size stream_places t)) (sym (below_both stands good stream_places)))

-- The used words: the blocks, the spent numbers, the figures, and words without use

blocks_length_of : (t : List ℕ) → length (blocks (places_in t)) ≡ blocks_size
blocks_length_of t = omega (arith, blocks_length (places_in t) (decode_sized t), decode_eight t)

-- what is tested of them: the blocks with their figures, the word before the figures, the total, and the words behind
abbrev pub right_blocks : List ℕ → Bool
right_blocks t = blocks_right (part blocks_size spent_size t) (part total_at figures_size t) (take blocks_size t)

abbrev pub gap_zero : List ℕ → Bool
gap_zero t = same (part (blocks_size + spent_size) gap_size t) (zeros gap_size)

abbrev pub total_right : List ℕ → Bool
total_right t = eqb (get_or (part total_at figures_size t) 0 0) (pending_among (places_in (take blocks_size t)))

abbrev pub unused_zero : List ℕ → Bool
unused_zero t = same (part (total_at + figures_size) unused_size t) (zeros unused_size)

-- of the words behind the blocks those of the numbers may be any, the figures are those of the places, and the others are zero
module _ (t : List ℕ) (long : length t ≡ table_words) where
  abbrev numbers : List ℕ
  numbers = part blocks_size spent_size t

  numbers_size : length numbers ≡ spent_size
  numbers_size = length-take-le spent_size (drop blocks_size t) (omega (arith, length-drop blocks_size t))

  -- n words without use from a on
  pub unused_test : (a n : ℕ) → a + n ≤ table_words → same (part a n t) (zeros (length (part a n t))) ≡ same (part a n t) (zeros n)
  unused_test a n h = ap (λ (m : ℕ). same (part a n t) (zeros m)) (length-take-le n (drop a t) (omega (arith, length-drop a t)))

  -- the words from a on are those of x and y exactly where the first are those of x
  cut_at : (a n : ℕ) (x y : List ℕ) → a + n ≤ table_words → length x ≡ n → same (drop a t) (x ++ y) ≡ (same (part a n t) x && same (drop (a + n) t) y)
  cut_at a n x y h e = same_cut (drop a t) x y n (omega (arith, length-drop a t)) e ∙ ap (λ (w : List ℕ). same (part a n t) x && same w y) (drop-drop n a t)

  abbrev rest_valid : List Place → Bool
  rest_valid ps = gap_zero t && (same (part total_at figures_size t) (figure_words ps) && unused_zero t)

  module _ (narrow : (i : ℕ) → get_or t i 0 < 2 ^ 32) where
    numbers_narrow : (i : ℕ) → get_or numbers i 0 < 2 ^ 32
    numbers_narrow i =
        decide (ltb i spent_size)
        (λ h. subst (λ (v : ℕ). v < 2 ^ 32) (sym (get_or-take spent_size (drop blocks_size t) i 0 (ltb-true i spent_size h) ∙ get_or-drop blocks_size t i 0)) (narrow (blocks_size + i)))
        (λ h. subst (λ (v : ℕ). v < 2 ^ 32) (sym (get_or-eq_default numbers 0 {n = i} (omega (arith, ltb-false i spent_size h, numbers_size)))) (omega arith))

    behind_test : (ps : List Place) → length ps ≡ stream_places → same (drop blocks_size t) (behind (decode_spent numbers) ps) ≡ rest_valid ps
    unfolding behind
    behind_test ps eight =
        let spent = spent_words (decode_spent numbers) in
        cut_at blocks_size spent_size spent (zeros gap_size ++ (figure_words ps ++ zeros unused_size)) (omega arith) (spent_length (decode_spent numbers))
        ∙ ap₂ (λ (x y : Bool). x && y)
        (same_eq numbers spent (sym (spent_again numbers numbers_size (all_words numbers numbers_narrow))))
        (cut_at (blocks_size + spent_size) gap_size (zeros gap_size) (figure_words ps ++ zeros unused_size) (omega arith) (zero_length gap_size)
        ∙ ap (λ (x : Bool). gap_zero t && x)
        (cut_at total_at figures_size (figure_words ps) (zeros unused_size) (omega arith) (figure_length ps eight)
        ∙ ap (λ (w : List ℕ). same (part total_at figures_size t) (figure_words ps) && same w (zeros unused_size))
        (sym (take_all unused_size (drop (total_at + figures_size) t) (omega (arith, length-drop (total_at + figures_size) t))))))

    valid_test : valid layout t ≡ (blocks_valid numbers (take blocks_size t) && rest_valid (places_in (take blocks_size t)))
    unfolding valid well_formed encode decode
    valid_test =
        let b = take blocks_size t in
        let ps = places_in b in
        let s = decode_spent numbers in
        let spent : Bool = all_of (spent_in s) ps in
        let whole = blocks ps ++ behind s ps in
        let cut : same t whole ≡ (same b (blocks ps) && rest_valid ps) =
        same_cut t (blocks ps) (behind s ps) blocks_size (omega arith) (blocks_length_of b)
        ∙ ap (λ (x : Bool). same b (blocks ps) && x) (behind_test ps (decode_eight b)) in
        ap (λ (w : List ℕ). well_formed (decode w) && same w (encode (decode w))) (take_all table_words t (omega arith))
        ∙ ap₂ (λ (x y : Bool). (good_places ps && (x && spent)) && y) (eq-eqb (length s) stream_numbers (spent_decoded numbers numbers_size)) cut
        ∙ sym (and_assoc (good_places ps && spent) (same b (blocks ps)) (rest_valid ps))
        ∙ ap (λ (x : Bool). x && rest_valid ps) (blocks_test b numbers (length-take-le blocks_size t (omega arith)))

    -- the mark and the figure of each place are tested with its block, and the figure of all behind them
    abbrev figures : List ℕ
    figures = part total_at figures_size t

    abbrev front : List ℕ
    front = take blocks_size t

    -- the tests of all places, those of their numbers, the gap, the total, the counts and the words behind
    reorder : (a d g t c u : Bool) → (a && d) && (g && ((t && c) && u)) ≡ ((((a && c) && d) && g) && t) && u
    reorder a d g t c u = grind arith

    each_right : (all_below stream_places (λ k. place_valid numbers (part (place_size * k) place_size front)) && all_below stream_places (counted_at figures (places_in front)))
        ≡ all_below stream_places (λ k. place_right numbers (get_or figures (1 + k) 0) (get_or figures (9 + k) 0) (part (place_size * k) place_size front))
    unfolding place_right places_in
    each_right =
        sym (below_both _ _ stream_places)
        ∙ all_ext _ _ stream_places (λ k h.
        let w = part (place_size * k) place_size front in
        let mark = get_or figures (1 + k) 0 in
        let figure = get_or figures (9 + k) 0 in
        ap (λ (p : Place). place_valid numbers w && (eqb mark (place_mark p) && eqb figure (pending_at p))) (read_at decode_place place_size stream_places front k vacant h))

    figures_size_lem : length figures ≡ figures_size
    figures_size_lem = length-take-le figures_size (drop total_at t) (omega (arith, length-drop total_at t))

    pub right_test : valid layout t ≡ (((right_blocks t && gap_zero t) && total_right t) && unused_zero t)
    unfolding blocks_valid blocks_right
    right_test =
        let ps = places_in front in
        let each = all_below stream_places (λ k. place_valid numbers (part (place_size * k) place_size front)) in
        let once = distinct (numbers_from 0 place_size stream_places front) in
        valid_test
        ∙ ap (λ (x : Bool). (each && once) && (gap_zero t && (x && unused_zero t))) (figures_test figures ps figures_size_lem (decode_eight front))
        ∙ reorder each once (gap_zero t) (total_right t) (all_below stream_places (counted_at figures ps)) (unused_zero t)
        ∙ ap (λ (x : Bool). (((x && once) && gap_zero t) && total_right t) && unused_zero t) each_right

    -- where the blocks are right, the total that is kept has to be the sum of the figures
    pub right_sum : right_blocks t ≡ true → total (part 9 stream_places figures) % 2 ^ 32 ≡ pending_among (places_in front)
    unfolding blocks_right
    right_sum e =
        counted_sum figures (places_in front) figures_size_lem (decode_eight front) (decode_sized front)
        (and_right (all_below stream_places (λ k. place_valid numbers (part (place_size * k) place_size front))) _ (each_right ∙ and_left _ _ e))
