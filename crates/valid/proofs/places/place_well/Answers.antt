-- `valid::places::place_well` meets its contract: by cases on the place, and for a live stream one test after the other.
use mathlib.Core.Path.{◌≡◌, refl, sym, ap, ◌∙◌}
use mathlib.Core.Bool.{true, ◌&&◌, and_assoc}
use mathlib.Core.List.{List}
use Prim.Native.Nat.{ℕ, ◌^◌, ◌<◌}
use lib.ListN.{get_or}
use borrow.Author.Tests.{eq-eqb, eqb-false}
use Rattle.laws.specs.Lists.{all_of}
use Rattle.laws.specs.Tests.{within}
use Rattle.model.specs.Numbers.{first_coded, last_coded}
use Rattle.model.specs.Device.{input, output, Stream, vacant, occupied}
use Rattle.model.specs.WellFormed.{u32, good_place}
use Rattle.table.specs.Blocks.{place_words}
use Rattle.table.specs.Search.{has_all_slots}
use Rattle.table.proofs.Records.{queue_read_lem}
use Rattle.table.proofs.Heads.{vacant_word, live_word, format_word}
use Rattle.table.proofs.Bits.{all_words}
use Rattle.valid.proofs.Chains.{next_made, next_left}
use Rattle.valid.proofs.Good.{queue_rules, wide_place}
use Rattle.valid.proofs.places.place_well.Goals as goal
use Rattle.valid.proofs.places.place_well.Goals.{Joined-coded_good, then-coded_good, else-coded_good}

-- what is left to test of a live stream, its words being 32-bit words
live_rules : (l : List ℕ) → ((i : ℕ) → get_or l i 0 < 2 ^ 32) → (n : ℕ) (s : Stream) → has_all_slots (occupied n s) ≡ true → l ≡ place_words (occupied n s)
    → (within s.format first_coded last_coded && queue_rules s.inputs) && queue_rules s.outputs ≡ good_place (occupied n s)
live_rules l narrow n s z e =
    and_assoc (within s.format first_coded last_coded) (queue_rules s.inputs) (queue_rules s.outputs) ∙ sym (wide_place n s z (ap (all_of u32) (sym e) ∙ all_words l narrow))

-- the format and the inputs
format_inputs : (c : Joined-coded_good) (n : ℕ) (s : Stream) → has_all_slots (occupied n s) ≡ true → c.args.b.now ≡ place_words (occupied n s)
    → c.if-coded_good.value ≡ within s.format first_coded last_coded && queue_rules s.inputs
format_inputs c n s z e =
    let format = c.coded_good.ensures ∙ ap (λ (v : ℕ). within v first_coded last_coded) (format_word _ n s e) in
    elim c.if-coded_good.branch [
      | then-coded_good w ↦ next_made format w.if-coded_good.true (w.value-is ∙ w.queue_well.ensures s.inputs (queue_read_lem n s z input 8 refl _ e))
      | else-coded_good w ↦ next_left _ format w.if-coded_good.false w.value-is
    ]

pub returns-then-b-eq0 : goal.returns-then-b-eq0
returns-then-b-eq0 c vacant z e = eq-eqb _ 0 c.if-b-eq0.true
returns-then-b-eq0 c (occupied n s) z e = absurd (eqb-false 1 0 refl (sym (live_word _ n s e) ∙ c.if-b-eq0.true))

pub returns-then-queue_well : goal.returns-then-queue_well
returns-then-queue_well c vacant z e = absurd (c.if-b-eq0.false (vacant_word e))
returns-then-queue_well c (occupied n s) z e =
    next_made (format_inputs (goal.at.returns-then-queue_well c).Joined-coded_good n s z e) c.if-queue_well.true
    (c.queue_well-then-queue_well.ensures s.outputs (queue_read_lem n s z output 92 refl _ e))
    ∙ live_rules _ c.fits-b n s z e

pub returns-else-queue_well : goal.returns-else-queue_well
returns-else-queue_well c vacant z e = absurd (c.if-b-eq0.false (vacant_word e))
returns-else-queue_well c (occupied n s) z e =
    next_left (queue_rules s.outputs) (format_inputs (goal.at.returns-else-queue_well c).Joined-coded_good n s z e) c.if-queue_well.false refl ∙ live_rules _ c.fits-b n s z e
