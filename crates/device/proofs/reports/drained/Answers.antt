-- `device::reports::drained` meets its contract: the stream, then its block.
use mathlib.Core.Path.{refl}
use native.Mathlib.Omega.{arith}
use Rattle.model.specs.Steps.{drained, around, serve}
use Rattle.device.proofs.Reported.{no_drain_lem}
use Rattle.queue.proofs.Finds.{found_within}
use Rattle.device.proofs.Served.{denied, in_block, was_found, was_missing}
use borrow.Author.Rules.{rules}
use Rattle.device.proofs.reports.drained.Goals as goal

pub returns-in_default : goal.returns-in_default
returns-in_default c d h =
    denied h _ c.args.stream _ 5 (refl, refl) (no_drain_lem (around d c.args.stream) c.args.stream _ (was_missing h _ c.live_place.ensures.found c.in_default.is))

pub overflow_mul-at : goal.overflow_mul-at
overflow_mul-at c =
    omega (arith, found_within 8 c.in-Some.is c.live_place.ensures.within)

pub overflow_add-at : goal.overflow_add-at
overflow_add-at c = omega (arith, found_within 8 c.in-Some.is c.live_place.ensures.within)

pub offset_bounds-t-at : goal.offset_bounds-t-at
offset_bounds-t-at c = omega (arith, found_within 8 c.in-Some.is c.live_place.ensures.within)

pub slice_bounds-drained-end : goal.slice_bounds-drained-end
slice_bounds-drained-end c = omega (arith, found_within 8 c.in-Some.is c.live_place.ensures.within)

pub settle-requires : goal.settle-requires
settle-requires c =
    (search rules, found_within 8 c.in-Some.is c.live_place.ensures.within)

pub returns : goal.returns
unfolding serve
returns c d h =
    in_block h c.args.stream _ (found_within 8 c.in-Some.is c.live_place.ensures.within) (was_found h _ c.live_place.ensures.found _ c.in-Some.is) (drained c.args.stream)
    c.drained-outcome.ensures c.settle.ensures
