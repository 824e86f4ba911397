-- `valid::numbers::number_stands` meets its contract. The invariant: the answer is that of the elements that are left.
use mathlib.Core.Path.{◌≡◌}
use lib.ListN.{drop}
use Rattle.laws.specs.Lists.{numbers_in, stands_in}
use Rattle.valid.specs.Rules.{words_number}
use Rattle.valid.proofs.numbers.number_stands.Given as goal

abbrev pub invariant-loop-element : goal.invariant-loop-element
invariant-loop-element g l =
    stands_in l.number (numbers_in words_number l.elements) ≡ stands_in l.number (numbers_in words_number (drop l.element-index l.elements))
