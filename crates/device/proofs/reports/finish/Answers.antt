-- `device::reports::finish` meets its contract: flags, then the stream, then its block.
use mathlib.Core.Path.{refl}
use native.Mathlib.Omega.{arith}
use Rattle.model.specs.Steps.{finish, around, serve}
use Rattle.device.proofs.Reported.{bad_flags, no_stream}
use Rattle.queue.proofs.Finds.{found_within}
use Rattle.device.proofs.Served.{denied, in_block, was_found, was_missing}
use borrow.Author.Rules.{rules}
use Rattle.device.proofs.reports.finish.Goals as goal

pub returns-then-report-gt-ALL_FLAGS : goal.returns-then-report-gt-ALL_FLAGS
returns-then-report-gt-ALL_FLAGS c d h =
    denied h _ c.args.report.stream _ 6 (refl, refl) (bad_flags (around d c.args.report.stream) c.args.report.stream c.args.report.queue c.args.report.resource c.args.report.flags c.args.report.timestamp _ c.if-report-gt-ALL_FLAGS.true)

pub returns-in_default : goal.returns-in_default
returns-in_default c d h =
    denied h _ c.args.report.stream _ 5 (refl, refl)
    (no_stream (around d c.args.report.stream) c.args.report.stream c.args.report.queue c.args.report.resource c.args.report.flags c.args.report.timestamp _ c.if-report-gt-ALL_FLAGS.false
    (was_missing h _ c.live_place.ensures.found c.in_default.is))

pub overflow_mul-at : goal.overflow_mul-at
overflow_mul-at c = omega (arith, found_within 8 c.in-Some.is c.live_place.ensures.within)

pub overflow_add-at : goal.overflow_add-at
overflow_add-at c = omega (arith, found_within 8 c.in-Some.is c.live_place.ensures.within)

pub offset_bounds-t-at : goal.offset_bounds-t-at
offset_bounds-t-at c = omega (arith, found_within 8 c.in-Some.is c.live_place.ensures.within)

pub slice_bounds-finish-end : goal.slice_bounds-finish-end
slice_bounds-finish-end c = omega (arith, found_within 8 c.in-Some.is c.live_place.ensures.within)

pub settle-requires : goal.settle-requires
settle-requires c =
    (search rules, found_within 8 c.in-Some.is c.live_place.ensures.within)

pub returns : goal.returns
unfolding serve
returns c d h =
    in_block h c.args.report.stream _ (found_within 8 c.in-Some.is c.live_place.ensures.within) (was_found h _ c.live_place.ensures.found _ c.in-Some.is)
    (finish c.args.report.stream c.args.report.queue c.args.report.resource c.args.report.flags c.args.report.timestamp)
    c.finish-outcome.ensures c.settle.ensures
