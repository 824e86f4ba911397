-- What the first words of a block say, and a block with other words there.
use Rattle.std.proofs.Common.{◌≡◌, ℕ, List, ◌∷◌, ◌++◌, length, get_or, set, sym, refl, ap, ◌∙◌, ap₂, append_assoc, arith, length-append}
use Rattle.std.specs.Prelude.{Option, None, Some}
use borrow.Author.Tests.{eqb-false}
use Rattle.laws.specs.Parts.{part, with_part, zeros, pieces}
use Rattle.laws.proofs.Parts.{zero_length, zero_at, zeros_append, part_mid, with_part_mid}
use Rattle.model.specs.Device.{Stream, Place, vacant, occupied, new_queue, new_stream, with_drain}
use Rattle.queue.specs.Words.{queue_words}
use Rattle.queue.proofs.Records.{queue_length_lem}
use Rattle.table.specs.Blocks.{drain_words, head_words, place_words}
use Rattle.table.specs.Search.{is_vacant, is_stream, head_is}

-- Live or vacant, and the number

pub vacant_word : {l : List ℕ} → l ≡ place_words vacant → get_or l 0 0 ≡ 0
unfolding place_words
vacant_word e = ap (λ (x : List ℕ). get_or x 0 0) e ∙ zero_at 512 0 (omega arith)

pub live_word : (l : List ℕ) (n : ℕ) (b : Stream) → l ≡ place_words (occupied n b) → get_or l 0 0 ≡ 1
unfolding place_words head_words
live_word l n b e = ap (λ (x : List ℕ). get_or x 0 0) e

pub stream_word : (l : List ℕ) (n : ℕ) (b : Stream) → l ≡ place_words (occupied n b) → get_or l 1 0 ≡ n
unfolding place_words head_words
stream_word l n b e = ap (λ (x : List ℕ). get_or x 1 0) e

-- a live stream's block starts with 1 and its number, and a vacant one with zeros
pub stream_starts : (n : ℕ) (p : Place) → head_is 1 n (place_words p) ≡ is_stream n p
unfolding head_is place_words head_words
stream_starts n vacant = rw (vacant_word refl)
stream_starts n (occupied m b) = refl

pub vacant_starts : (p : Place) → head_is 0 0 (place_words p) ≡ is_vacant p
unfolding head_is place_words head_words
vacant_starts vacant = rw (zero_at 512 0 (omega arith), zero_at 512 1 (omega arith))
vacant_starts (occupied m b) = refl

-- Coded format and drain

pub format_word : (l : List ℕ) (n : ℕ) (b : Stream) → l ≡ place_words (occupied n b) → get_or l 2 0 ≡ b.format
unfolding place_words head_words
format_word l n b e = ap (λ (x : List ℕ). get_or x 2 0) e

-- the words from 3 on
no_drain_words : (d : Option ℕ) (z r : List ℕ) → get_or (drain_words d ++ z ++ r) 0 0 ≡ 0 → None ≡ d
no_drain_words None z r e = refl
no_drain_words (Some t) z r e = absurd (eqb-false 1 0 refl e)

drain_words_lem : (d : Option ℕ) (z r : List ℕ) → (get_or (drain_words d ++ z ++ r) 0 0 ≡ 0 → ⊥) → Some (get_or (drain_words d ++ z ++ r) 1 0) ≡ d
drain_words_lem None z r e = absurd (e refl)
drain_words_lem (Some t) z r e = refl

put_drain : (d : Option ℕ) (z r : List ℕ) (x y : ℕ) → set (set (drain_words d ++ z ++ r) 0 x) 1 y ≡ x ∷ y ∷ (z ++ r)
put_drain None z r x y = refl
put_drain (Some t) z r x y = refl

module _ (l : List ℕ) (n : ℕ) (b : Stream) (e : l ≡ place_words (occupied n b)) where
  pub drain_absent : get_or l 3 0 ≡ 0 → None ≡ b.draining
  unfolding place_words head_words
  drain_absent z = no_drain_words b.draining (zeros 3) _ (rw e at z)

  pub drain_pending : (get_or l 3 0 ≡ 0 → ⊥) → Some (get_or l 4 0) ≡ b.draining
  unfolding place_words head_words
  drain_pending z = ap (λ (x : List ℕ). Some (get_or x 4 0)) e ∙ drain_words_lem b.draining (zeros 3) _ (rw e at z)

  pub drain_set : (t : ℕ) → set (set l 3 1) 4 t ≡ place_words (occupied n (with_drain (Some t) b))
  unfolding place_words head_words
  drain_set t = ap (λ (x : List ℕ). set (set x 3 1) 4 t) e ∙ ap (λ (x : List ℕ). 1 ∷ n ∷ b.format ∷ x) (put_drain b.draining (zeros 3) _ 1 t)

  pub drain_dropped : set (set l 3 0) 4 0 ≡ place_words (occupied n (with_drain None b))
  unfolding place_words head_words
  drain_dropped = ap (λ (x : List ℕ). set (set x 3 0) 4 0) e ∙ ap (λ (x : List ℕ). 1 ∷ n ∷ b.format ∷ x) (put_drain b.draining (zeros 3) _ 0 0)

-- A new stream

pub new_queue_lem : (l : List ℕ) → l ≡ zeros 84 → set (set l 1 640) 2 480 ≡ queue_words new_queue
unfolding zeros queue_words pieces
new_queue_lem l e = ap (λ (x : List ℕ). set (set x 1 640) 2 480) e

-- a vacant block in its four parts
four : zeros 8 ++ (zeros 84 ++ (zeros 84 ++ zeros 336)) ≡ zeros 512
four = ap (λ (x : List ℕ). zeros 8 ++ (zeros 84 ++ x)) (zeros_append 84 336) ∙ ap (λ (x : List ℕ). zeros 8 ++ x) (zeros_append 84 420) ∙ zeros_append 8 504

-- a block with a live stream's first words
abbrev pub headed : List ℕ → ℕ → ℕ → List ℕ
headed l n f = set (set (set l 0 1) 1 n) 2 f

put_head : (r : List ℕ) (n f : ℕ) → headed (zeros 8 ++ r) n f ≡ head_words n f None ++ r
unfolding zeros head_words
put_head r n f = refl

module _ (l q r : List ℕ) (e : l ≡ place_words vacant) where
  new : length (queue_words new_queue) ≡ 84
  new = queue_length_lem new_queue refl

  front : length (zeros 8 ++ queue_words new_queue) ≡ 92
  front = simp (length-append, zero_length, new)

  parts : l ≡ zeros 8 ++ (zeros 84 ++ (zeros 84 ++ zeros 336))
  unfolding place_words
  parts = e ∙ sym four

  -- both queues are written over zeros, and then the first words
  pub new_block : (part 8 84 l ≡ zeros 84 → q ≡ queue_words new_queue) → (part 92 84 (with_part 8 84 l q) ≡ zeros 84 → r ≡ queue_words new_queue)
      → (n f : ℕ) → headed (with_part 92 84 (with_part 8 84 l q) r) n f ≡ place_words (occupied n (new_stream f))
  unfolding place_words
  new_block first second n f =
      let one : q ≡ queue_words new_queue = first (ap (part 8 84) parts ∙ part_mid (zeros 8) (zeros 84) (zeros 84 ++ zeros 336) 8 84 (zero_length 8) (zero_length 84)) in
      let input : with_part 8 84 l q ≡ zeros 8 ++ queue_words new_queue ++ (zeros 84 ++ zeros 336) =
      ap₂ (with_part 8 84) parts one
      ∙ with_part_mid (zeros 8) (zeros 84) (zeros 84 ++ zeros 336) 8 84 (zero_length 8) (zero_length 84) (queue_words new_queue)
      ∙ sym (append_assoc (zeros 8) (queue_words new_queue) (zeros 84 ++ zeros 336)) in
      let two : r ≡ queue_words new_queue = second (ap (part 92 84) input ∙ part_mid (zeros 8 ++ queue_words new_queue) (zeros 84) (zeros 336) 92 84 front (zero_length 84)) in
      let output : with_part 92 84 (with_part 8 84 l q) r ≡ zeros 8 ++ (queue_words new_queue ++ (queue_words new_queue ++ zeros 336)) =
      ap₂ (with_part 92 84) input two
      ∙ with_part_mid (zeros 8 ++ queue_words new_queue) (zeros 84) (zeros 336) 92 84 front (zero_length 84) (queue_words new_queue)
      ∙ append_assoc (zeros 8) (queue_words new_queue) (queue_words new_queue ++ zeros 336) in
      ap (λ (x : List ℕ). headed x n f) output ∙ put_head (queue_words new_queue ++ (queue_words new_queue ++ zeros 336)) n f
