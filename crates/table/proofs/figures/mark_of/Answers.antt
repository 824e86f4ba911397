-- `table::figures::mark_of` meets its contract: by cases on the place.
use Rattle.std.proofs.Common.{◌≡◌, ℕ, suc, ◌+◌, ◌%◌, ◌^◌, sym, refl, ap, ◌∙◌, arith}
use borrow.Author.Tests.{eqb-false}
use Rattle.model.specs.Device.{vacant, occupied}
use Rattle.table.proofs.Heads.{vacant_word, live_word, stream_word}
use Rattle.table.proofs.figures.mark_of.Goals as goal

pub returns-then-b-eq0 : goal.returns-then-b-eq0
returns-then-b-eq0 c vacant e = refl
returns-then-b-eq0 c (occupied n b) e = absurd (eqb-false 1 0 refl (sym (live_word _ n b e) ∙ c.if-b-eq0.true))

pub returns : goal.returns
returns c vacant e =
    absurd (c.if-b-eq0.false (vacant_word e))
returns c (occupied n b) e = ap (λ (v : ℕ). (v + 1) % 2 ^ 32) (stream_word _ n b e) ∙ ap (λ (v : ℕ). v % 2 ^ 32) (let next : n + 1 ≡ suc n = omega arith in next)
