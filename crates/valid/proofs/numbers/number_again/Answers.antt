-- `valid::numbers::number_again` meets its contract: a number whose mark is missing is new, and leaves its mark.
use mathlib.Core.Path.{◌≡◌, sym, subst}
use mathlib.Core.Bool.{Bool, true, false}
use mathlib.Core.List.{List, ◌∷◌}
use Prim.Native.Nat.{ℕ, ◌%◌}
use native.Mathlib.Omega.{arith}
use lib.ListN.{get_or, set}
use borrow.Author.Tests.{ne_eqb}
use Rattle.std.proofs.lemmas.Grind.{common_steps}
use Rattle.laws.specs.Lists.{numbers_in}
use Rattle.valid.specs.Rules.{words_number, Apart, Told}
use Rattle.valid.proofs.numbers.number_again.Goals as goal

told_new : (n : ℕ) (l : List ℕ) (marks : List Bool) → Apart marks l → get_or marks (n % 64) false ≡ false → Told false (set marks (n % 64) true) (n ∷ l)
told_new n l marks a missing = grind (arith, common_steps)

pub returns : goal.returns
returns g c =
    let e = c.args.element.now in
    let front : numbers_in words_number (e ∷ c.args.behind.now) ≡ get_or e 1 0 ∷ numbers_in words_number c.args.behind.now = rw (ne_eqb (get_or e 0 0) 0 c.if-element-eq0.false) in
    λ a. subst (Told false _) (sym front) (told_new _ _ c.args.marks.now a c.if-marks-mark.false)
