-- The lines that stand in a text from one place to another, in the form that the code has them: none, or the first one and those behind it.
use mathlib.Core.Path.{◌≡◌, sym, ap, ◌∙◌}
use mathlib.Core.List.{List, [], ◌∷◌}
use Prim.Native.Nat.{ℕ, suc, ◌+◌, ◌-◌, ◌≤◌, ◌<◌, min}
use native.Mathlib.Omega.{arith}
use lib.Dec.{ltb}
use lib.ListN.{length, take, drop, length-take, length-drop, drop_of_length-le}
use lib.Seq.{length-take-le, drop-drop}
use borrow.Author.Tests.{ltb-true, ltb-false}
use Rattle.laws.specs.Parts.{part}
use Rattle.line.specs.Split.{lines_in, line_end}
use Rattle.line.proofs.Lines.{first_line_lem}
use Rattle.laws.proofs.Lists.{decide}
use Rattle.laws.proofs.Parts.{slice_part, take_most}
use Rattle.checker.specs.Meant.{due_in}

-- what follows a place, by how much it is
rest_again : (k : ℕ) (l : List ℕ) → drop (length l - length (drop k l)) l ≡ drop k l
rest_again k l =
    decide (ltb k (length l))
    (λ e. let inside = ltb-true k (length l) e in let n : length l - length (drop k l) ≡ k = omega (arith, length-drop k l) in ap (λ (m : ℕ). drop m l) n)
    (λ e. let past = ltb-false k (length l) e in rw (drop_of_length-le l {i = k} past) (drop_of_length-le l {i = length l - 0} (omega arith)))

module _ (at end : ℕ) (text : List ℕ) where
  pub due_none : end ≤ at → due_in at end text ≡ []
  unfolding due_in lines_in
  due_none h = rw (drop_of_length-le (take end text) {i = at} (omega (arith, length-take end text)))

  -- no more is read of the text than it has
  pub due_most : {r : ℕ} (m : ℕ) → r ≡ min end m → length text ≡ m → due_in at r text ≡ due_in at end text
  unfolding due_in
  due_most m e h = rw (take_most end m text e h)

  -- the first line, and those in what follows it
  pub due_first : at < end → end ≤ length text
      → due_in at end text ≡ take (line_end (part at (end - at) text)) (part at (end - at) text) ∷ due_in (end - length (drop (suc (line_end (part at (end - at) text))) (part at (end - at) text))) end text
  unfolding due_in
  due_first begins fits =
      let s = part at (end - at) text in
      let n = suc (line_end s) in
      let whole = take end text in
      let here : drop at whole ≡ s = slice_part at end text (omega arith) fits in
      let size : length whole ≡ end = length-take-le end text fits in
      let behind : drop n s ≡ drop (at + n) whole = ap (drop n) (sym here) ∙ drop-drop n at whole in
      let some : 0 < length s = omega (arith, length-take (end - at) (drop at text), length-drop at text) in
      ap lines_in here
      ∙ first_line_lem s some
      ∙ ap (λ (l : List ℕ). take (line_end s) s ∷ lines_in l)
      (behind ∙ sym (rest_again (at + n) whole) ∙ ap (λ (k : ℕ). drop k whole) (let k : length whole - length (drop (at + n) whole) ≡ end - length (drop n s) = omega (arith, size, ap length behind) in k))
