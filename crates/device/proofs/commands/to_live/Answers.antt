-- `device::commands::to_live` meets its contract: the stream's block is lent where it is found.
use native.Mathlib.Omega.{arith}
use Rattle.model.specs.Steps.{command, around}
use Rattle.device.proofs.Known.{to_live_lem, not_live}
use Rattle.queue.proofs.Finds.{found_within}
use Rattle.frame.proofs.Checks.{right_length}
use Rattle.device.proofs.Served.{not_served, live_failed, block_live, in_block, was_found, was_missing, answered_command, replied_as}
use borrow.Author.Rules.{rules}
use Rattle.std.proofs.lemmas.Result.{err_from_is_err_and}
use Rattle.device.proofs.commands.to_live.Goals as goal

pub returns-in_default : goal.returns-in_default
returns-in_default c d h =
    not_served
    (not_live c.args.frame.now (around d c.args.asked.stream) c.args.asked.stream c.args.asked.ticket _ _ c.requires.2
    (was_missing h _ c.live_place.ensures.found c.in_default.is))

pub overflow_mul-at : goal.overflow_mul-at
overflow_mul-at c =
    omega (arith, found_within 8 c.in-Some.is c.live_place.ensures.within)

pub overflow_add-at : goal.overflow_add-at
overflow_add-at c =
    omega (arith, found_within 8 c.in-Some.is c.live_place.ensures.within)

pub offset_bounds-t-at : goal.offset_bounds-t-at
offset_bounds-t-at c =
    omega (arith, found_within 8 c.in-Some.is c.live_place.ensures.within)

pub slice_bounds-in_block-end : goal.slice_bounds-in_block-end
slice_bounds-in_block-end c =
    omega (arith, found_within 8 c.in-Some.is c.live_place.ensures.within)

pub in_block-requires : goal.in_block-requires
in_block-requires c = (
  search rules,
  block_live c.requires.1.encodes c.args.asked.stream _ (found_within 8 c.in-Some.is c.live_place.ensures.within) (was_found c.requires.1.encodes _ c.live_place.ensures.found _ c.in-Some.is),
  right_length _ _ _ c.requires.2,
  search rules,
)

pub settle-requires : goal.settle-requires
settle-requires c =
    (search rules, found_within 8 c.in-Some.is c.live_place.ensures.within)

pub returns-in_err-written : goal.returns-in_err-written
returns-in_err-written c d h =
    let p = err_from_is_err_and c.from_residual.result c.from_residual.ensures.1 in
    rw (p.1, p.2)
    (live_failed h c.args.asked _ (found_within 8 c.in-Some.is c.live_place.ensures.within) (was_found h _ c.live_place.ensures.found _ c.in-Some.is) c.args.frame.now _ c.requires.2
    (λ b x. c.in_err-written.ensures b x))

pub returns : goal.returns
returns c d h =
    in_block h c.args.asked.stream _ (found_within 8 c.in-Some.is c.live_place.ensures.within) (was_found h _ c.live_place.ensures.found _ c.in-Some.is) (command c.args.asked.ticket c.args.frame.now)
    (λ b x. answered_command (around d c.args.asked.stream) b c.args.asked.ticket c.args.frame.now
    (replied_as (to_live_lem c.args.frame.now (around d c.args.asked.stream) c.args.asked.stream c.args.asked.ticket _ b c.requires.2) (c.in_ok-written.ensures b x)))
    c.settle.ensures
