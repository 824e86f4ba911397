-- `completion::stop_answers` meets its contract. The invariant: the buffers below `least` are answered, one for each turn; after sixteen turns none is left.
use mathlib.Core.Path.{sym, ◌∙◌}
use native.Mathlib.Omega.{arith}
use borrow.Author.Rules.{rules}
use Rattle.model.proofs.WellFormed.{distinct_of}
use Rattle.queue.proofs.Records.{held_slots}
use Rattle.queue.proofs.Finds.{found_within}
use Rattle.completion.proofs.Ends.{along_start, along_next, along_missed, along_full}
use Rattle.completion.proofs.stops.stop_answers.Goals as goal

pub loop-turn-init : goal.loop-turn-init
loop-turn-init c = (search rules, search rules, λ Q t z e. along_start _ t Q.slots _ _)

pub returns-in_default : goal.returns-in_default
returns-in_default c = record {
  bound = omega arith;
  written = λ Q t z e.
      along_missed _ t Q.slots (c.loop-turn.invariant.2 Q t z e) (distinct_of Q.slots z)
      (sym (c.next_queued.ensures.found Q e) ∙ c.in_default.is);
}

pub stop_answer-next-requires : goal.stop_answer-next-requires
stop_answer-next-requires c = (search rules, found_within 16 c.in-Some.is c.next_queued.ensures.within, omega arith)

pub slot_number-requires : goal.slot_number-requires
slot_number-requires c =
    (search rules, found_within 16 c.in-Some.is c.next_queued.ensures.within)

pub loop-turn-preserved : goal.loop-turn-preserved
loop-turn-preserved c = (
  omega (arith, c.stop_answer-next.ensures.next),
  search rules,
  λ Q t z e.
      along_next _ t Q.slots (c.loop-turn.invariant.2 Q t z e) _ _ (c.slot_number.ensures Q e) (distinct_of Q.slots z)
      (sym (c.next_queued.ensures.found Q e) ∙ c.in-Some.is)
      (λ i p u. c.stop_answer-next.ensures.written Q t i e p u),
)

pub returns : goal.returns
returns c = record { bound = omega arith; written = λ Q t z e. along_full _ t Q.slots (c.loop-turn.invariant.2 Q t z e) (held_slots _ Q c.requires.0 e) (omega (arith, c.loop-turn-test.false)) }
