-- `valid::numbers::numbers_distinct` meets its contract. The invariant: the numbers of the elements from `i` on are apart.
use lib.ListN.{drop}
use Rattle.laws.specs.Lists.{numbers_in}
use Rattle.valid.specs.Rules.{words_number, Apart}
use Rattle.valid.proofs.numbers.numbers_distinct.Given as goal

abbrev pub invariant-loop-i : goal.invariant-loop-i
invariant-loop-i g l = Apart l.marks (numbers_in words_number (drop l.i l.elements))
