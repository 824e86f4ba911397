-- `queue::lower_queued` meets its contract: each way out is one case of what slot `k` adds to the slots behind it.
use mathlib.Core.Path.{sym, ap, ◌∙◌}
use native.Mathlib.Omega.{arith}
use Rattle.std.specs.Prelude.{Some}
use Rattle.queue.specs.Search.{slot_at, number_in}
use Rattle.queue.proofs.Records.{held_slots}
use Rattle.queue.proofs.Least.{lower_of, lower_stays, lower_takes, lowest_other, lowest_below_lem, lowest_lower}
use Rattle.queue.proofs.search.lower_queued.Goals as goal

pub returns-then-not-slot_queued : goal.returns-then-not-slot_queued
returns-then-not-slot_queued c Q e b =
    let test = sym (c.slot_queued.ensures Q e) ∙ c.if-not-slot_queued.true in
    lowest_other c.args.least Q.slots c.args.k (omega (arith, held_slots _ Q c.requires.0 e)) c.args.lowest b test

pub returns-then-number-least : goal.returns-then-number-least
returns-then-number-least c Q e b =
    let test = sym (c.slot_queued.ensures Q e) ∙ c.if-not-slot_queued.false in
    let number = c.slot_number-number.ensures Q e in
    lowest_below_lem c.args.least Q.slots c.args.k (omega (arith, held_slots _ Q c.requires.0 e)) c.args.lowest b test (rw number at c.if-number-least.true)

pub returns-in-Some : goal.returns-in-Some
returns-in-Some c Q e b =
    let test = sym (c.slot_queued.ensures Q e) ∙ c.if-not-slot_queued.false in
    let number = c.slot_number-number.ensures Q e in
    sym (ap (lower_of (number_in (slot_at c.args.k Q.slots))) c.in-Some.is ∙ lower_stays _ c.in-Some.other (rw number at c.if-other-number.true))
    ∙ lowest_lower c.args.least Q.slots c.args.k (omega (arith, held_slots _ Q c.requires.0 e)) c.args.lowest b test (rw number at c.if-number-least.false)

pub returns-in_default : goal.returns-in_default
returns-in_default c Q e b =
    let test = sym (c.slot_queued.ensures Q e) ∙ c.if-not-slot_queued.false in
    let number = c.slot_number-number.ensures Q e in
    ap Some number
    ∙ sym (ap (lower_of (number_in (slot_at c.args.k Q.slots))) c.in-Some.is ∙ lower_takes _ c.in-Some.other (rw number at c.if-other-number.false))
    ∙ lowest_lower c.args.least Q.slots c.args.k (omega (arith, held_slots _ Q c.requires.0 e)) c.args.lowest b test (rw number at c.if-number-least.false)

pub returns-in_default-2 : goal.returns-in_default-2
returns-in_default-2 c Q e b =
    let test = sym (c.slot_queued.ensures Q e) ∙ c.if-not-slot_queued.false in
    let number = c.slot_number-number.ensures Q e in
    ap Some number
    ∙ sym (ap (lower_of (number_in (slot_at c.args.k Q.slots))) c.in_default.is)
    ∙ lowest_lower c.args.least Q.slots c.args.k (omega (arith, held_slots _ Q c.requires.0 e)) c.args.lowest b test (rw number at c.if-number-least.false)
