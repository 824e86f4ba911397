-- `device::commands::create` meets its contract: by the number, the frame, and the lowest vacant place.
use mathlib.Core.Path.{ap, sym, ◌∙◌}
use Rattle.std.specs.Prelude.{Some}
use Prim.Native.Nat.{ℕ}
use Rattle.model.specs.Numbers.{stream_places}
use Rattle.model.specs.Device.{new_stream, put_back}
use Rattle.model.specs.Frames.{coded_format}
use Rattle.model.specs.Steps.{around}
use Rattle.table.specs.Blocks.{encode}
use Rattle.table.proofs.Bridge.{vacant_found}
use Rattle.laws.proofs.Tests.{was_true, was_false}
use Rattle.device.proofs.Known.{create_unusable, create_bad, create_full, create_done}
use Rattle.queue.proofs.Finds.{found_within}
use Rattle.device.proofs.Served.{usable_new, not_served, added_back, created_served, was_vacant, was_full}
use Rattle.device.proofs.commands.create.Goals as goal

pub returns-then-unusable : goal.returns-then-unusable
returns-then-unusable c d h =
    not_served (create_unusable c.args.frame.now (around d c.args.asked.stream) c.args.asked.stream c.args.asked.ticket _ c.requires.1 (sym (c.unusable.ensures.told d h) ∙ c.if-unusable.true))

pub returns-then-not-creation_good : goal.returns-then-not-creation_good
returns-then-not-creation_good c d h =
    not_served
    (create_bad c.args.frame.now (around d c.args.asked.stream) c.args.asked.stream c.args.asked.ticket _ c.requires.1 (sym (c.unusable.ensures.told d h) ∙ c.if-unusable.false)
    (was_false c.creation_good.ensures c.if-not-creation_good.true))

pub returns-in_default : goal.returns-in_default
returns-in_default c d h =
    not_served
    (create_full c.args.frame.now (around d c.args.asked.stream) c.args.asked.stream c.args.asked.ticket _ c.requires.1 (sym (c.unusable.ensures.told d h) ∙ c.if-unusable.false)
    (was_true c.creation_good.ensures c.if-not-creation_good.false) (was_full h c.vacant_place.ensures.found c.in_default.is))

pub add_stream-requires : goal.add_stream-requires
add_stream-requires c =
    (c.requires.0, found_within stream_places c.in-Some.is c.vacant_place.ensures.within, c.unusable.ensures.below c.if-unusable.false)

pub settle-requires : goal.settle-requires
settle-requires c =
    (c.add_stream.ensures.size, found_within stream_places c.in-Some.is c.vacant_place.ensures.within)

pub returns : goal.returns
returns c d h =
    let usable = sym (c.unusable.ensures.told d h) ∙ c.if-unusable.false in
    let new = usable_new h c.args.asked.stream usable in
    let place = was_vacant h c.vacant_place.ensures.found _ c.in-Some.is in
    created_served h c.args.asked.stream c.args.asked.ticket c.args.frame.now (new_stream (coded_format c.args.frame.now))
    (create_done c.args.frame.now (around d c.args.asked.stream) c.args.asked.stream c.args.asked.ticket _ c.requires.1 usable (was_true c.creation_good.ensures c.if-not-creation_good.false) (vacant_found d.places _ place).room)
    (c.settle.ensures _ _ (c.add_stream.ensures.added d h new place)
    ∙ ap encode (added_back h c.args.asked.stream _ (found_within stream_places c.in-Some.is c.vacant_place.ensures.within) new place _)
    ∙ ap (λ (m : ℕ). encode (put_back c.args.asked.stream (Some (new_stream m)) d)) c.coded_format-format.ensures)
    c.put_typed.ensures
