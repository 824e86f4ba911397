-- When words are those of the slot, and of the queue, that they stand for: a test for each state of a slot, and slot by slot.
use mathlib.Core.Path.{◌≡◌, refl, sym, ap, ◌∙◌}
use mathlib.Core.Bool.{Bool, true, false, ◌&&◌, and-true, and_assoc}
use mathlib.Core.List.{List, [], ◌∷◌, ◌++◌}
use Prim.Native.Nat.{ℕ, zero, suc, ◌+◌, ◌*◌, ◌/◌, ◌%◌, ◌^◌, ◌<◌, ◌≤◌}
use native.Mathlib.Nat.{mul-suc, pos_of_ne-zero}
use native.Mathlib.Omega.{arith}
use native.Mathlib.Decide.{ℕ_discrete}
use lib.ListN.{length, get_or, take, drop, length-drop}
use lib.Seq.{take_all}
use lib.Dec.{eqb}
use borrow.Author.Tests.{eq-eqb}
use Rattle.std.specs.List.{list_all}
use Rattle.laws.specs.Lists.{same}
use Rattle.laws.specs.Parts.{part, zeros, pieces, read_pieces}
use Rattle.laws.proofs.Lists.{no_element}
use Rattle.laws.proofs.Same.{same_eq, same_ne, same_cut}
use Rattle.model.specs.Device.{created, queued, dequeued, Slot, free, resource}
use Rattle.queue.specs.Words.{slot_words, queue_words, decode_slot, decode_queue}
use Rattle.queue.proofs.Records.{slot_length}

-- words are zero, and so is one word more
pub zero_more : {a b : Bool} (l : List ℕ) (x : ℕ) → a ≡ same l (zeros (length l)) → b ≡ (a && eqb x 0) → b ≡ same (l ++ x ∷ []) (zeros (length (l ++ x ∷ [])))
unfolding same zeros
zero_more l x e h = h ∙ ap (λ (z : Bool). z && eqb x 0) e ∙ go l
  where
    go : (l : List ℕ) → (same l (zeros (length l)) && eqb x 0) ≡ same (l ++ x ∷ []) (zeros (length (l ++ x ∷ [])))
    go [] = sym (and-true (eqb x 0))
    go (y ∷ l) = and_assoc (eqb y 0) (same l (zeros (length l))) (eqb x 0) ∙ ap (λ (z : Bool). eqb y 0 && z) (go l)

abbrev pub slot_stands : List ℕ → Bool
slot_stands w = same w (slot_words (decode_slot w))

-- a list of five words
five : (P : List ℕ → Type 0) → ((s r t l h : ℕ) → P (s ∷ r ∷ t ∷ l ∷ h ∷ [])) → (w : List ℕ) → length w ≡ 5 → P w
five P f [] e = absurd (omega arith)
five P f (s ∷ []) e = absurd (omega arith)
five P f (s ∷ r ∷ []) e = absurd (omega arith)
five P f (s ∷ r ∷ t ∷ []) e = absurd (omega arith)
five P f (s ∷ r ∷ t ∷ l ∷ []) e = absurd (omega arith)
five P f (s ∷ r ∷ t ∷ l ∷ h ∷ []) e = f s r t l h
five P f (s ∷ r ∷ t ∷ l ∷ h ∷ x ∷ xs) e = absurd (omega arith)

-- A slot's five words, by the state

module _ (w : List ℕ) (long : length w ≡ 5) where
  pub free_words : get_or w 0 0 ≡ 0 → same (part 1 4 w) (zeros (length (part 1 4 w))) ≡ same w (slot_words (decode_slot w))
  unfolding same decode_slot zeros
  free_words = five (λ x. get_or x 0 0 ≡ 0 → same (part 1 4 x) (zeros (length (part 1 4 x))) ≡ slot_stands x) (λ s r t l h e. rw e) w long

  -- a timestamp's low word is below 2^32
  pub queued_words : get_or w 0 0 ≡ 2 → get_or w 3 0 < 2 ^ 32 → true ≡ same w (slot_words (decode_slot w))
  unfolding decode_slot
  queued_words =
      five (λ x. get_or x 0 0 ≡ 2 → get_or x 3 0 < 2 ^ 32 → true ≡ slot_stands x)
      (λ s r t l h e b.
      let low : (l + 2 ^ 32 * h) % 2 ^ 32 ≡ l = omega arith in
      let high : (l + 2 ^ 32 * h) / 2 ^ 32 ≡ h = omega arith in
      sym (same_eq (s ∷ r ∷ t ∷ l ∷ h ∷ []) _ (rw (e, low, high)))) w long

  pub other_words : (get_or w 0 0 ≡ 0 → ⊥) → (get_or w 0 0 ≡ 2 → ⊥) → get_or w 0 0 ≤ 3 → same (part 2 3 w) (zeros (length (part 2 3 w))) ≡ same w (slot_words (decode_slot w))
  unfolding same decode_slot zeros
  other_words =
      five (λ x. (get_or x 0 0 ≡ 0 → ⊥) → (get_or x 0 0 ≡ 2 → ⊥) → get_or x 0 0 ≤ 3 → same (part 2 3 x) (zeros (length (part 2 3 x))) ≡ slot_stands x)
      (λ s r t l h a b c. go s r t l h (ℕ_discrete s 1) a b c) w long
    where
      go : (s r t l h : ℕ) → Dec (s ≡ 1) → (s ≡ 0 → ⊥) → (s ≡ 2 → ⊥) → s ≤ 3 → same (t ∷ l ∷ h ∷ []) (0 ∷ 0 ∷ 0 ∷ []) ≡ slot_stands (s ∷ r ∷ t ∷ l ∷ h ∷ [])
      go s r t l h (yes e) a b c = rw (e, eq-eqb r r refl)
      go s r t l h (no d) a b c = let e : s ≡ 3 = omega (arith, pos_of_ne-zero a, b, d) in rw (e, eq-eqb r r refl)

  pub high_words : 3 < get_or w 0 0 → false ≡ same w (slot_words (decode_slot w))
  high_words g = sym (same_ne w (slot_words (decode_slot w)) (None (decode_slot w)))
    where
      None : (x : Slot) → w ≡ slot_words x → ⊥
      None free e = omega (arith, g, ap (λ (x : List ℕ). get_or x 0 0) e)
      None (resource r created) e = omega (arith, g, ap (λ (x : List ℕ). get_or x 0 0) e)
      None (resource r (queued t ts)) e = omega (arith, g, ap (λ (x : List ℕ). get_or x 0 0) e)
      None (resource r dequeued) e = omega (arith, g, ap (λ (x : List ℕ). get_or x 0 0) e)

-- A queue's words

-- each slot's words are those of the slot that they stand for
slots_test : (n : ℕ) (w : List ℕ) → length w ≡ 5 * n → same w (pieces slot_words (read_pieces decode_slot 5 n w)) ≡ list_all slot_stands (read_pieces (λ x. x) 5 n w)
unfolding pieces read_pieces
slots_test zero w h = same_eq w [] (no_element w h)
slots_test (suc n) w h =
    let long : length w ≡ 5 + 5 * n = omega (arith, h, mul-suc 5 n) in
    same_cut w (slot_words (decode_slot (take 5 w))) (pieces slot_words (read_pieces decode_slot 5 n (drop 5 w))) 5 (omega arith) (slot_length (decode_slot (take 5 w)))
    ∙ ap (λ (b : Bool). slot_stands (take 5 w) && b) (slots_test n (drop 5 w) (omega (arith, length-drop 5 w)))

-- and the first word is zero
pub queue_test : (w : List ℕ) → length w ≡ 84 → same w (queue_words (decode_queue w)) ≡ eqb (get_or w 0 0) 0 && list_all slot_stands (read_pieces (λ x. x) 5 16 (part 4 80 w))
unfolding queue_words decode_queue same
queue_test [] h = absurd (omega arith)
queue_test (a ∷ []) h = absurd (omega arith)
queue_test (a ∷ b ∷ []) h = absurd (omega arith)
queue_test (a ∷ b ∷ c ∷ []) h = absurd (omega arith)
queue_test (a ∷ b ∷ c ∷ d ∷ r) h =
    rw (eq-eqb b b refl, eq-eqb c c refl, eq-eqb d d refl, take_all 80 r (omega arith)) (ap (λ (x : Bool). eqb a 0 && x) (slots_test 16 r (omega arith)))
