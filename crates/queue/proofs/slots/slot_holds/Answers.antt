-- `queue::slot_holds` meets its contract: a free slot holds no number, and any other has its number second.
use mathlib.Core.Path.{sym, ap, ◌∙◌}
use Prim.Native.Nat.{ℕ}
use native.Mathlib.Omega.{arith}
use lib.Dec.{eqb}
use borrow.Author.Tests.{eq-eqb, ne_eqb}
use Rattle.queue.specs.Search.{slot_at}
use Rattle.queue.proofs.Records.{slot_word, free_word, number_word, holds_free, holds_number_lem}
use Rattle.queue.proofs.slots.slot_holds.Goals as goal

pub returns-then-q-at-eq-FREE : goal.returns-then-q-at-eq-FREE
returns-then-q-at-eq-FREE c Q e =
    sym (holds_free c.args.number (slot_at c.args.k Q.slots) (sym (free_word _ Q c.args.k c.requires.0 c.requires.1 e) ∙ eq-eqb _ 0 c.if-q-at-eq-FREE.true))

pub returns : goal.returns
returns c Q e =
    ap (λ (n : ℕ). eqb n c.args.number) (slot_word _ Q c.args.k c.requires.0 c.requires.1 e 1 (omega arith) ∙ number_word (slot_at c.args.k Q.slots))
    ∙ sym (holds_number_lem c.args.number (slot_at c.args.k Q.slots) (sym (free_word _ Q c.args.k c.requires.0 c.requires.1 e) ∙ ne_eqb _ 0 c.if-q-at-eq-FREE.false))
