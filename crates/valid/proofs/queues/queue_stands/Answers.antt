-- `valid::queues::queue_stands` meets its contract: the first word is zero, and each slot's words are those of the slot that they stand for.
use mathlib.Core.Path.{refl, sym, ap, ◌∙◌}
use borrow.Author.Rules.{rules}
use borrow.Author.Tests.{tests, eq-eqb, ne_eqb}
use Rattle.std.specs.List.{list_all}
use Rattle.std.proofs.lemmas.Iterator.{YieldsList-from_slice}
use Rattle.std.proofs.lemmas.Iterator.Search.{all_from_yields_List}
use Rattle.valid.proofs.Chains.{next_made, next_left}
use Rattle.valid.proofs.Elements.{slots_read}
use Rattle.valid.proofs.QueueStands.{slot_stands, queue_test}
use Rattle.valid.proofs.queues.queue_stands.Goals as goal

pub returns-then-q-eq0 : goal.returns-then-q-eq0
returns-then-q-eq0 c =
    let each = all_from_yields_List slot_stands _ _ c.all.result c.all.ensures.ran (YieldsList-from_slice {s = c.iter.result} _ c.iter.ensures.rest) (λ x b q k. search (rules, tests)) in
    next_made refl (eq-eqb _ 0 c.if-q-eq0.true) (each ∙ ap (list_all slot_stands) (slots_read _ c.requires c.as_chunks.ensures.front)) ∙ sym (queue_test _ c.requires)

pub returns-else-q-eq0 : goal.returns-else-q-eq0
returns-else-q-eq0 c =
    next_left _ refl (ne_eqb _ 0 c.if-q-eq0.false) refl ∙ sym (queue_test _ c.requires)
