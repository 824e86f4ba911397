-- `table::spent::bit_is_set` meets its contract.
use Rattle.std.proofs.Common.{ℕ, ◌/◌, ◌%◌, ◌<◌, eqb, get_or, sym, ap, ◌∙◌, subst, arith}
use native.Mathlib.Nat.{one-le-pow}
use Rattle.table.specs.Spent.{word_numbers}
use Rattle.table.proofs.Bits.{number_bit, bit_decoded}
use Rattle.table.proofs.spent.bit_is_set.Goals as goal

pub nonzero_div-result : goal.nonzero_div-result
nonzero_div-result c =
    subst (λ (b : ℕ). 0 < b) (sym c.bit_of-bit.ensures) (one-le-pow (c.args.number % word_numbers) 2 (omega arith))

pub returns : goal.returns
unfolding number_bit
returns c =
    ap (λ (b : ℕ). eqb (get_or c.args.w.now (c.args.number / word_numbers) 0 / b % 2) 1) c.bit_of-bit.ensures
    ∙ bit_decoded c.args.w.now c.requires.0 (λ i. omega (arith, c.shared_slice_known-2-1.given i)) c.args.number c.requires.1
