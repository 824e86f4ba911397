-- `table::figures::pending_in` meets its contract: by cases on the place, and for a live stream its two queues and its drain.
use Rattle.std.proofs.Common.{length, sym, refl, ap, ◌∙◌, arith}
use borrow.Author.Tests.{eqb-false}
use Rattle.laws.specs.Lists.{to_list}
use Rattle.model.specs.Device.{input, output, vacant, occupied}
use Rattle.table.proofs.Records.{queue_read_lem}
use Rattle.table.proofs.Heads.{vacant_word, live_word, drain_absent, drain_pending}
use Rattle.table.proofs.figures.pending_in.Goals as goal

pub returns-then-b-eq0 : goal.returns-then-b-eq0
returns-then-b-eq0 c vacant z e = refl
returns-then-b-eq0 c (occupied n b) z e = absurd (eqb-false 1 0 refl (sym (live_word _ n b e) ∙ c.if-b-eq0.true))

pub returns-then-b-eq0-2 : goal.returns-then-b-eq0-2
returns-then-b-eq0-2 c vacant z e =
    absurd (c.if-b-eq0.false (vacant_word e))
returns-then-b-eq0-2 c (occupied n b) z e =
    omega (
      arith,
      c.count_queued.ensures.counted b.inputs (queue_read_lem n b z input 8 refl _ e),
      c.count_queued-2.ensures.counted b.outputs (queue_read_lem n b z output 92 refl _ e),
      ap (λ d. length (to_list d)) (drain_absent _ n b e c.if-b-eq0-2.true),
    )

pub returns : goal.returns
returns c vacant z e =
    absurd (c.if-b-eq0.false (vacant_word e))
returns c (occupied n b) z e =
    omega (
      arith,
      c.count_queued.ensures.counted b.inputs (queue_read_lem n b z input 8 refl _ e),
      c.count_queued-2.ensures.counted b.outputs (queue_read_lem n b z output 92 refl _ e),
      ap (λ d. length (to_list d)) (drain_pending _ n b e c.if-b-eq0-2.false),
    )
