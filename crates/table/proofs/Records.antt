-- Laws of the words of a place and of a device: their lengths, the parts of a place, one place among the blocks, and that decoding undoes encoding.
use Rattle.std.proofs.Common.{◌≡◌, ℕ, ◌+◌, ◌-◌, ◌*◌, ◌<◌, ◌≤◌, Bool, true, false, eqb, List, ◌++◌, map, length, get_or, take, set, sym, refl, ap, ◌∙◌, ap₂, append_assoc, arith, length-append, take_at, eq-eqb, eqb-true}
use Rattle.std.specs.Prelude.{Option, None, Some}
use native.Mathlib.Nat.{add-sub_cancel_left}
use lib.ListN.{length-map}
use Rattle.laws.specs.Lists.{all_of}
use Rattle.laws.specs.Parts.{part, with_part, zeros}
use Rattle.laws.proofs.Tests.{both, and_left, and_right}
use Rattle.laws.proofs.Parts.{zero_length, zero_at, part_mid, with_part_mid, part_front, with_part_front, lent}
use Rattle.laws.proofs.Pieces.{pieces_length, pieces_part, pieces_with_part, pieces_read}
use Rattle.model.specs.Numbers.{table_words, stream_places, stream_numbers}
use Rattle.model.specs.Device.{QueueType, input, output, Queue, Stream, Place, vacant, occupied, Device, queue_of, with_queue, pending_at}
use Rattle.queue.specs.Words.{queue_words, decode_queue}
use Rattle.queue.proofs.Records.{queue_length_lem, decode_queue_lem}
use Rattle.table.specs.Spent.{spent_size, spent_words, decode_spent}
use Rattle.table.specs.Figures.{total_at, figures_size, place_mark, figure_words}
use Rattle.table.specs.Blocks.{queue_start, drain_words, head_words, place_words, blocks, blocks_size, gap_size, unused_size, behind, encode, with_places, with_spent, unsettled, drain_in, decode_place, places_in, decode}
use Rattle.table.specs.Search.{place_at, has_all_slots}
use Rattle.table.proofs.Bits.{spent_length, decode_spent_lem}

-- Lengths

pub head_length : (n format : ℕ) (d : Option ℕ) → length (head_words n format d) ≡ 8
unfolding head_words zeros
head_length n format None = refl
head_length n format (Some t) = refl

-- a sized place's queues have sixteen slots each
pub sized_queue : (q : QueueType) (n : ℕ) (b : Stream) → has_all_slots (occupied n b) ≡ true → length (queue_of q b).slots ≡ 16
sized_queue input n b h = eqb-true (length b.inputs.slots) 16 (and_left (eqb (length b.inputs.slots) 16) _ h)
sized_queue output n b h = eqb-true (length b.outputs.slots) 16 (and_right (eqb (length b.inputs.slots) 16) _ h)

pub queue_sized : (n : ℕ) (b : Stream) → ((q : QueueType) → length (queue_of q b).slots ≡ 16) → has_all_slots (occupied n b) ≡ true
queue_sized n b h = both (eq-eqb (length b.inputs.slots) 16 (h input)) (eq-eqb (length b.outputs.slots) 16 (h output))

pub place_length : (p : Place) → has_all_slots p ≡ true → length (place_words p) ≡ 512
unfolding place_words
place_length vacant h = zero_length 512
place_length (occupied n b) h =
    simp (length-append, head_length, queue_length_lem b.inputs (sized_queue input n b h), queue_length_lem b.outputs (sized_queue output n b h), zero_length)

-- A queue in its place

module _ (n : ℕ) (b : Stream) (h : has_all_slots (occupied n b) ≡ true) where
  block_head : List ℕ
  block_head = head_words n b.format b.draining

  ins : length (queue_words b.inputs) ≡ 84
  ins = queue_length_lem b.inputs (sized_queue input n b h)

  outs : length (queue_words b.outputs) ≡ 84
  outs = queue_length_lem b.outputs (sized_queue output n b h)

  front : length (head_words n b.format b.draining ++ queue_words b.inputs) ≡ 92
  front = simp (length-append, head_length, ins)

  pub queue_part : (q : QueueType) → part (queue_start q) 84 (place_words (occupied n b)) ≡ queue_words (queue_of q b)
  unfolding place_words block_head
  queue_part input = part_mid block_head (queue_words b.inputs) (queue_words b.outputs ++ zeros 336) 8 84 (head_length n b.format b.draining) ins
  queue_part output =
      ap (part 92 84) (sym (append_assoc block_head (queue_words b.inputs) (queue_words b.outputs ++ zeros 336)))
      ∙ part_mid (block_head ++ queue_words b.inputs) (queue_words b.outputs) (zeros 336) 92 84 front outs

  pub queue_put : (q : QueueType) (x : Queue) → with_part (queue_start q) 84 (place_words (occupied n b)) (queue_words x) ≡ place_words (occupied n (with_queue q x b))
  unfolding place_words block_head
  queue_put input x =
      with_part_mid block_head (queue_words b.inputs) (queue_words b.outputs ++ zeros 336) 8 84 (head_length n b.format b.draining) ins (queue_words x)
  queue_put output x =
      ap (λ (l : List ℕ). with_part 92 84 l (queue_words x)) (sym (append_assoc block_head (queue_words b.inputs) (queue_words b.outputs ++ zeros 336)))
      ∙ with_part_mid (block_head ++ queue_words b.inputs) (queue_words b.outputs) (zeros 336) 92 84 front outs (queue_words x)
      ∙ append_assoc block_head (queue_words b.inputs) (queue_words x ++ zeros 336)

  -- its words, from a on, are read, or lent and come back as those of x
  module _ (q : QueueType) (a : ℕ) (at : a ≡ queue_start q) (l : List ℕ) (e : l ≡ place_words (occupied n b)) where
    here : part a 84 l ≡ queue_words (queue_of q b)
    here = ap₂ (λ (i : ℕ) (w : List ℕ). part i 84 w) at e ∙ queue_part q

    pub queue_read_lem : part a (a + 84 - a) l ≡ queue_words (queue_of q b)
    queue_read_lem = rw (add-sub_cancel_left a 84) here

    pub queue_lent : (ys : List ℕ) (x : Queue) → (part a (a + 84 - a) l ≡ queue_words (queue_of q b) → ys ≡ queue_words x)
        → with_part a (a + 84 - a) l ys ≡ place_words (occupied n (with_queue q x b))
    queue_lent ys x =
        lent a (a + 84) 84 l (queue_words (queue_of q b)) (queue_words x) (place_words (occupied n (with_queue q x b))) ys (add-sub_cancel_left a 84) here
        (ap₂ (λ (i : ℕ) (w : List ℕ). with_part i 84 w (queue_words x)) at e ∙ queue_put q x)

-- A place among the blocks

pub blocks_length : (ps : List Place) → all_of has_all_slots ps ≡ true → length (blocks ps) ≡ 512 * length ps
unfolding blocks
blocks_length ps s = pieces_length place_words 512 has_all_slots place_length ps s

-- 4,096 words that are the blocks of sized places are those of eight
pub held_places : (l : List ℕ) (ps : List Place) → all_of has_all_slots ps ≡ true → length l ≡ blocks_size → l ≡ blocks ps → length ps ≡ 8
held_places l ps s long e = omega (arith, blocks_length ps s, ap length e)

module _ (ps : List Place) (k : ℕ) (s : all_of has_all_slots ps ≡ true) (h : k < length ps) where
  pub place_part : part (512 * k) 512 (blocks ps) ≡ place_words (place_at k ps)
  unfolding blocks
  place_part = pieces_part place_words 512 has_all_slots place_length ps s k vacant h

  pub place_put : (p : Place) → with_part (512 * k) 512 (blocks ps) (place_words p) ≡ blocks (set ps k p)
  unfolding blocks
  place_put p = pieces_with_part place_words 512 has_all_slots place_length ps s k p h

-- its words are read
pub place_read : (l : List ℕ) (ps : List Place) (k : ℕ) → length l ≡ blocks_size → k < 8 → all_of has_all_slots ps ≡ true → l ≡ blocks ps
    → part (512 * k) (512 * k + 512 - 512 * k) l ≡ place_words (place_at k ps)
place_read l ps k long h s e = rw (e, add-sub_cancel_left (512 * k) 512) (place_part ps k s (omega (arith, held_places l ps s long e)))

-- The words behind the blocks

pub figure_length : (ps : List Place) → length ps ≡ stream_places → length (figure_words ps) ≡ figures_size
unfolding figure_words
figure_length ps eight = omega (arith, length-append (map place_mark ps) (map pending_at ps), length-map ps place_mark, length-map ps pending_at)

-- the figures and the words without use around them
abbrev rest : List Place → List ℕ
rest ps = zeros gap_size ++ (figure_words ps ++ zeros unused_size)

behind_length : (s : List Bool) (ps : List Place) → length ps ≡ stream_places → length (behind s ps) ≡ table_words - blocks_size
unfolding behind
behind_length s ps eight = simp (length-append, spent_length, zero_length, figure_length ps eight)

module _ (d : Device) (s : all_of has_all_slots d.places ≡ true) (eight : length d.places ≡ 8) where
  all_blocks : length (blocks d.places) ≡ blocks_size
  all_blocks = omega (arith, blocks_length d.places s)

  abbrev after : List ℕ
  after = behind d.spent d.places

  pub used_length : length (encode d) ≡ table_words
  unfolding encode
  used_length = omega (arith, length-append (blocks d.places) after, all_blocks, behind_length d.spent d.places eight)

  pub blocks_front : take blocks_size (encode d) ≡ blocks d.places
  unfolding encode
  blocks_front = take_at (blocks d.places) after blocks_size all_blocks

  -- the words of the spent numbers, which are lent and come back as those of s'
  pub spent_part : part blocks_size spent_size (encode d) ≡ spent_words d.spent
  unfolding encode behind
  spent_part = part_mid (blocks d.places) (spent_words d.spent) (rest d.places) blocks_size spent_size all_blocks (spent_length d.spent)

  spent_put : (s' : List Bool) → with_part blocks_size spent_size (encode d) (spent_words s') ≡ encode (with_spent s' d)
  unfolding encode behind
  spent_put s' = with_part_mid (blocks d.places) (spent_words d.spent) (rest d.places) blocks_size spent_size all_blocks (spent_length d.spent) (spent_words s')

  pub spent_lent : (l ys : List ℕ) (s' : List Bool) → l ≡ encode d → (part blocks_size spent_size l ≡ spent_words d.spent → ys ≡ spent_words s')
      → with_part blocks_size spent_size l ys ≡ encode (with_spent s' d)
  spent_lent l ys s' e f =
      lent blocks_size (blocks_size + spent_size) spent_size l (spent_words d.spent) (spent_words s') (encode (with_spent s' d)) ys (add-sub_cancel_left blocks_size spent_size)
      (ap (part blocks_size spent_size) e ∙ spent_part) (ap (λ (w : List ℕ). with_part blocks_size spent_size w (spent_words s')) e ∙ spent_put s') f

  -- a block is lent, and comes back as that of p; the figures are then not yet those of the places
  module _ (l : List ℕ) (k : ℕ) (h : k < 8) (e : l ≡ encode d) where
    ends : 512 * k + 512 ≤ length (blocks d.places)
    ends = omega (arith, all_blocks)

    pub block_part : part (512 * k) 512 l ≡ place_words (place_at k d.places)
    unfolding encode
    block_part = rw e (part_front (blocks d.places) after (512 * k) 512 ends ∙ place_part d.places k s (omega arith))

    block_put : (p : Place) → with_part (512 * k) 512 l (place_words p) ≡ unsettled (set d.places k p) d
    unfolding encode unsettled
    block_put p =
        rw e (with_part_front (blocks d.places) after (512 * k) 512 ends (place_words p)
        ∙ ap (λ (w : List ℕ). w ++ after) (place_put d.places k s (omega arith) p))

    pub block_lent : (ys : List ℕ) (p : Place) → (part (512 * k) (512 * k + 512 - 512 * k) l ≡ place_words (place_at k d.places) → ys ≡ place_words p)
        → with_part (512 * k) (512 * k + 512 - 512 * k) l ys ≡ unsettled (set d.places k p) d
    block_lent ys p =
        lent (512 * k) (512 * k + 512) 512 l (place_words (place_at k d.places)) (place_words p) (unsettled (set d.places k p) d) ys
        (add-sub_cancel_left (512 * k) 512) block_part (block_put p)

-- The figures of the places qs, behind the blocks of the places ps

-- the words before them
abbrev pub front_words : List Place → List Bool → List ℕ
front_words ps s = blocks ps ++ (spent_words s ++ zeros gap_size)

pub front_length : (ps : List Place) (s : List Bool) → all_of has_all_slots ps ≡ true → length ps ≡ 8 → length (front_words ps s) ≡ total_at
front_length ps s sized eight =
    omega (arith, length-append (blocks ps) (spent_words s ++ zeros gap_size), length-append (spent_words s) (zeros gap_size), blocks_length ps sized, spent_length s, zero_length gap_size)

pub figures_seam : (ps qs : List Place) (s : List Bool) → blocks ps ++ behind s qs ≡ front_words ps s ++ (figure_words qs ++ zeros unused_size)
unfolding behind
figures_seam ps qs s = simp append_assoc

module _ (ps qs : List Place) (s : List Bool) (sized : all_of has_all_slots ps ≡ true) (eight : length ps ≡ 8) (as_many : length qs ≡ 8) where
  figures_in : part total_at figures_size (blocks ps ++ behind s qs) ≡ figure_words qs
  figures_in = ap (part total_at figures_size) (figures_seam ps qs s) ∙ part_mid (front_words ps s) (figure_words qs) (zeros unused_size) total_at figures_size (front_length ps s sized eight) (figure_length qs as_many)

  figures_put : with_part total_at figures_size (blocks ps ++ behind s qs) (figure_words ps) ≡ blocks ps ++ behind s ps
  unfolding behind
  figures_put =
      ap (λ (w : List ℕ). with_part total_at figures_size w (figure_words ps)) (figures_seam ps qs s)
      ∙ with_part_mid (front_words ps s) (figure_words qs) (zeros unused_size) total_at figures_size (front_length ps s sized eight) (figure_length qs as_many) (figure_words ps)
      ∙ simp append_assoc

-- a block is read before they are settled
pub unsettled_read : (d : Device) (ps : List Place) (k : ℕ) (l : List ℕ) → all_of has_all_slots ps ≡ true → length ps ≡ 8 → k < 8 → l ≡ unsettled ps d
    → part (512 * k) (512 * k + 512 - 512 * k) l ≡ place_words (place_at k ps)
unfolding unsettled
unsettled_read d ps k l sized eight h e =
    rw (e, add-sub_cancel_left (512 * k) 512)
    (part_front (blocks ps) (behind d.spent d.places) (512 * k) 512 (omega (arith, blocks_length ps sized)) ∙ place_part ps k sized (omega arith))

-- they are lent, and come back as those of the places
pub figures_lent : (d : Device) (ps : List Place) (l ys : List ℕ) → all_of has_all_slots ps ≡ true → length ps ≡ 8 → length d.places ≡ 8 → l ≡ unsettled ps d
    → (part total_at figures_size l ≡ figure_words d.places → ys ≡ figure_words ps) → with_part total_at figures_size l ys ≡ encode (with_places ps d)
unfolding encode unsettled
figures_lent d ps l ys sized eight as_many e f =
    lent total_at (total_at + figures_size) figures_size l (figure_words d.places) (figure_words ps) (encode (with_places ps d)) ys (add-sub_cancel_left total_at figures_size)
    (ap (part total_at figures_size) e ∙ figures_in ps d.places d.spent sized eight as_many)
    (ap (λ (w : List ℕ). with_part total_at figures_size w (figure_words ps)) e ∙ figures_put ps d.places d.spent sized eight as_many) f

-- Decoding undoes encoding

drain_back : (d : Option ℕ) (z r : List ℕ) → drain_in (get_or (drain_words d ++ z ++ r) 0 0) (get_or (drain_words d ++ z ++ r) 1 0) ≡ d
drain_back None z r = refl
drain_back (Some t) z r = refl

-- the first of some zeros is no mark of a live stream
none_live : (n : ℕ) → 0 < n → eqb (get_or (zeros n) 0 0) 1 ≡ false
none_live n h = rw (zero_at n 0 h)

pub decode_place_lem : (p : Place) → has_all_slots p ≡ true → decode_place (place_words p) ≡ p
unfolding decode_place place_words head_words
decode_place_lem vacant h = rw (none_live 512 (omega arith))
decode_place_lem (occupied n b) h = λ i. occupied n (record {
  format = b.format;
  draining = drain_back b.draining (zeros 3) (queue_words b.inputs ++ (queue_words b.outputs ++ zeros 336)) i;
  inputs = (ap decode_queue (queue_part n b h input) ∙ decode_queue_lem b.inputs (sized_queue input n b h)) i;
  outputs = (ap decode_queue (queue_part n b h output) ∙ decode_queue_lem b.outputs (sized_queue output n b h)) i;
})

pub decode_places : (ps : List Place) → all_of has_all_slots ps ≡ true → length ps ≡ 8 → places_in (blocks ps) ≡ ps
unfolding places_in blocks
decode_places ps s eight = rw eight at (pieces_read place_words 512 has_all_slots place_length decode_place decode_place_lem ps s)

pub decode_device : (d : Device) → all_of has_all_slots d.places ≡ true → length d.places ≡ 8 → length d.spent ≡ stream_numbers → decode (encode d) ≡ d
unfolding decode
decode_device d s eight long = λ i. record {
  places = (ap places_in (blocks_front d s eight) ∙ decode_places d.places s eight) i;
  spent = (ap decode_spent (spent_part d s eight) ∙ decode_spent_lem d.spent long) i;
}
