-- `table::block::set_drain` meets its contract: two words of the head.
use Rattle.std.proofs.Common.{ℕ, sym, ap, ◌∙◌}
use Rattle.std.specs.Prelude.{Option}
use Rattle.model.specs.Device.{occupied, with_drain}
use Rattle.table.specs.Blocks.{place_words}
use Rattle.table.proofs.Heads.{drain_set, drain_dropped}
use Rattle.table.proofs.block.set_drain.Goals as goal

pub returns-in-Some : goal.returns-in-Some
returns-in-Some c n s e = drain_set _ n s e c.in-Some.ticket ∙ ap (λ (d : Option ℕ). place_words (occupied n (with_drain d s))) (sym c.in-Some.is)

pub returns-in-None : goal.returns-in-None
returns-in-None c n s e = drain_dropped _ n s e ∙ ap (λ (d : Option ℕ). place_words (occupied n (with_drain d s))) (sym c.in-None.is)
