-- `table::figures::marked_place` meets its contract: the lowest place whose mark is the number's.
use Rattle.std.proofs.Common.{◌≡◌, ℕ, ◌+◌, suc, eqb, get_or, true, false, sym, ap, rules}
use Rattle.std.proofs.lemmas.Iterator.{first_from_Range}
use borrow.Author.Tests.{tests}
use Rattle.laws.specs.Parts.{part}
use Rattle.laws.proofs.Positions.{position_from}
use Rattle.model.specs.Numbers.{stream_places}
use Rattle.table.specs.Figures.{marks_at, marked_place}
use Rattle.table.proofs.Counted.{mark_at, marks_size}
use Rattle.table.proofs.figures.marked_place.Goals as goal

pub returns-clause-found : goal.returns-clause-found
unfolding marked_place
returns-clause-found c =
    let p = λ (k : ℕ). eqb (get_or c.args.table.now (marks_at + k) 0) (suc c.args.number) in
    position_from (λ v. eqb v (suc c.args.number)) 0 (part marks_at stream_places c.args.table.now) stream_places (marks_size c.args.table.now c.requires) p
    (λ k l. ap (λ v. eqb v (suc c.args.number)) (sym (mark_at c.args.table.now k l))) c.find.result
    (first_from_Range _ _ _ _ (λ k. p k ≡ true) (λ k. p k ≡ false) c.find.ensures.ran (λ x q k. search (rules, tests)) (λ x q k. search (rules, tests)))
