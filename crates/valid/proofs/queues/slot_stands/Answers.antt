-- `valid::queues::slot_stands` meets its contract: a law for each case of a state up to 3.
use mathlib.Core.Path.{◌∙◌}
use native.Mathlib.Omega.{arith}
use Rattle.valid.proofs.QueueStands.{free_words, queued_words, other_words}
use Rattle.valid.proofs.queues.slot_stands.Goals as goal

pub returns-in-0 : goal.returns-in-0
returns-in-0 c =
    c.all_zero.ensures ∙ free_words _ c.told-w c.in-0.is

pub returns-in-2 : goal.returns-in-2
returns-in-2 c =
    queued_words c.args.w.now c.told-w c.in-2.is (c.fits-w 3)

pub returns-in-0-to-3 : goal.returns-in-0-to-3
returns-in-0-to-3 c =
    c.all_zero-in-0-to-3.ensures ∙ other_words _ c.told-w (λ e. omega arith) (λ e. omega arith) (omega arith)
