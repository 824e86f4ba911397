-- `table::spent::spend` meets its contract: a bit that is not set is added, and fits.
use Rattle.std.proofs.Common.{◌≡◌, ℕ, ◌+◌, ◌/◌, ◌%◌, ◌^◌, ◌<◌, false, eqb, List, length, get_or, set, sym, ap, ◌∙◌, subst, ap₂, arith}
use Rattle.model.specs.Device.{is_spent}
use Rattle.model.proofs.Spent.{spend_spent}
use Rattle.table.specs.Spent.{word_numbers, spent_size, spent_words, decode_spent}
use Rattle.table.proofs.Bits.{number_bit, bit_fits, all_words, spent_decoded, spent_again, bit_decoded, spend_words}
use Rattle.table.proofs.spent.spend.Goals as goal

-- the words are those of the numbers that they stand for
own_words : (w : List ℕ) → length w ≡ spent_size → ((i : ℕ) → get_or w i 0 < 2 ^ 32) → spent_words (decode_spent w) ≡ w
own_words w size narrow = spent_again w size (all_words w narrow)

pub returns-then-bit_is_set : goal.returns-then-bit_is_set
returns-then-bit_is_set c =
    sym (ap spent_words (spend_spent c.args.number (decode_spent c.args.w.now) (sym c.bit_is_set.ensures ∙ c.if-bit_is_set.true)) ∙ own_words c.args.w.now c.requires.0 (λ i. omega (arith, c.slice_known-1.given i)))

pub overflow_add-w : goal.overflow_add-w
unfolding number_bit
overflow_add-w c =
    let w = get_or c.args.w.now (c.args.number / word_numbers) 0 in
    let narrow : (i : ℕ) → get_or c.args.w.now i 0 < 2 ^ 32 = λ i. omega (arith, c.slice_known-2-1.given i) in
    let off : eqb (w / 2 ^ (c.args.number % word_numbers) % 2) 1 ≡ false = bit_decoded c.args.w.now c.requires.0 narrow c.args.number c.requires.1 ∙ sym c.bit_is_set.ensures ∙ c.if-bit_is_set.false in
    let fits = subst (λ (b : ℕ). w + b < 2 ^ 32) (sym c.bit_of-bit.ensures) (bit_fits word_numbers w (c.args.number % word_numbers) (narrow (c.args.number / word_numbers)) (omega arith) off) in
    omega (arith, fits)

pub returns : goal.returns
returns c =
    let s = decode_spent c.args.w.now in
    let own = own_words c.args.w.now c.requires.0 (λ i. omega (arith, c.slice_known-2-1.given i)) in
    let off : is_spent c.args.number s ≡ false = sym c.bit_is_set.ensures ∙ c.if-bit_is_set.false in
    ap₂ (λ (x : List ℕ) (b : ℕ). set x (c.args.number / word_numbers) (get_or x (c.args.number / word_numbers) 0 + b)) (sym own) c.bit_of-bit.ensures ∙ sym (spend_words s (spent_decoded c.args.w.now c.requires.0) c.args.number c.requires.1 off)
