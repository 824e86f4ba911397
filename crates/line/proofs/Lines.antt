-- Laws of lines that are read in pieces: where a line ends, and what is kept of it.
use mathlib.Core.Path.{◌≡◌, refl, sym, ap, ◌∙◌}
use mathlib.Core.Bool.{Bool, true, false, true≢false}
use mathlib.Core.List.{List, [], ◌∷◌, ◌++◌, append_assoc}
use Prim.Native.Nat.{ℕ, suc, ◌+◌, ◌-◌, ◌≤◌, ◌<◌, min}
use native.Mathlib.Numerals.{add-one}
use native.Mathlib.Omega.{arith}
use lib.Dec.{eqb, ltb}
use lib.ListN.{length, take, drop, length-append, length-take}
use lib.Seq.{take_at, take_all, length-take-le, take-append-add}
use borrow.Author.Tests.{eqb-true, ne_eqb, lt-ltb, le-ltb, ltb-true, ltb-false}
use Rattle.laws.specs.Lists.{is_empty}
use Rattle.laws.proofs.Lists.{decide, no_element, empty_is}
use Rattle.laws.proofs.Parts.{take_some}
use Rattle.laws.proofs.Tests.{was_true, was_false}
use Rattle.line.specs.Split.{prefixed, lines_in, line_room, kept, line_end, split}

-- a line ends at a byte 10, and no sooner
pub end_here : (b : ℕ) (s : List ℕ) → b ≡ 10 → line_end (b ∷ s) ≡ 0
unfolding line_end
end_here b s h = rw h

pub end_later : (b : ℕ) (s : List ℕ) → (b ≡ 10 → ⊥) → line_end (b ∷ s) ≡ line_end s + 1
unfolding line_end
end_later b s h = rw (ne_eqb b 10 h, add-one (line_end s))

pub end_none : line_end [] ≡ 0
unfolding line_end
end_none = refl

pub end_within : (s : List ℕ) → line_end s ≤ length s
unfolding line_end
end_within [] = omega arith
end_within (b ∷ s) = decide (eqb b 10) (λ e. rw e (omega arith)) (λ e. rw e (omega (arith, end_within s)))

-- the first line of what is not empty, and the lines behind its byte 10
pub first_line_lem : (s : List ℕ) → 0 < length s → lines_in s ≡ take (line_end s) s ∷ lines_in (drop (suc (line_end s)) s)
unfolding lines_in line_end
first_line_lem [] h = absurd (omega arith)
first_line_lem (b ∷ []) h = decide (eqb b 10) (λ e. rw e) (λ e. rw e)
first_line_lem (b ∷ x ∷ s) h = decide (eqb b 10) (λ e. rw e) (λ e. rw e (ap (prefixed b) (first_line_lem (x ∷ s) (omega arith))))

-- What is kept of a line

-- the first n bytes are none where n is 0, and only there
pub none_first : (n : ℕ) (l : List ℕ) → n ≤ length l → eqb n 0 ≡ is_empty (take n l)
none_first n l h =
    decide (eqb n 0) (λ e. rw (eqb-true n 0 e)) (λ e. e ∙ sym (take_some n l (λ z. true≢false (sym (ap (λ (m : ℕ). eqb m 0) z) ∙ e)) h))

-- whether any byte is
module _ {empty : Bool} (line : List ℕ) (is : empty ≡ is_empty line) where
  pub empty_kept : empty ≡ true → length line ≡ 0
  empty_kept e = ap length (empty_is line (was_true is e))

  pub some_kept : empty ≡ false → length line ≡ 0 → ⊥
  some_kept e n = true≢false (sym (ap is_empty (no_element line n)) ∙ was_false is e)

-- the first m of p and what follows it
first_of : (p s : List ℕ) (m : ℕ) → length p ≤ m → take m (p ++ s) ≡ p ++ take (m - length p) s
first_of p s m h =
    let n : m ≡ length p + (m - length p) = omega arith in
    ap (λ (k : ℕ). take k (p ++ s)) n ∙ take-append-add p s (m - length p)

-- text behind the bytes that are kept, as far as it is kept: up to end, whatever stands behind that
module _ (held text : List ℕ) (have end : ℕ) (h : have ≤ line_room) (size : length held ≡ line_room) (e : end ≡ min line_room (have + length text)) where
  in_room : take (end - have) text ≡ take (line_room - have) text
  in_room =
      decide (ltb (line_room - have) (length text))
      (λ t. let more = ltb-true (line_room - have) (length text) t in
      let n : end - have ≡ line_room - have = omega arith in ap (λ (k : ℕ). take k text) n)
      (λ t. let all = ltb-false (line_room - have) (length text) t in
      take_all (end - have) text (omega arith) ∙ sym (take_all (line_room - have) text all))

  front : length (take have held) ≡ have
  front = length-take-le have held (omega arith)

  ends : length (take have held ++ take (end - have) text) ≡ end
  ends = length-append (take have held) (take (end - have) text) ∙ (omega (arith, front, length-take (end - have) text))

  pub append_kept : (rest : List ℕ) → take end (take have held ++ (take (end - have) text ++ rest)) ≡ kept (take have held ++ text)
  unfolding kept
  append_kept rest =
      ap (take end) (sym (append_assoc (take have held) (take (end - have) text) rest))
      ∙ take_at (take have held ++ take (end - have) text) rest end ends
      ∙ ap (λ (t : List ℕ). take have held ++ t) in_room
      ∙ sym (first_of (take have held) text line_room (omega (arith, front)) ∙ ap (λ (n : ℕ). take have held ++ take (line_room - n) text) front)

-- the two ways through `gather`
module _ (line piece : List ℕ) (n : ℕ) (at : n ≡ line_end piece) (l : List ℕ) (k : l ≡ kept (line ++ take n piece)) where
  pub split_ended : n < length piece → record { ended = true; used = n + 1; line = l } ≡ split line piece
  unfolding split
  split_ended h = rw (← at, lt-ltb n (length piece) h, k, add-one n)

  pub split_open : length piece ≤ n → record { ended = false; used = length piece; line = l } ≡ split line piece
  unfolding split
  split_open h =
      let all : n ≡ length piece = omega (arith, end_within piece) in
      rw (← at, le-ltb n (length piece) h, k, all)
