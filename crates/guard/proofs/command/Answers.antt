-- `guard::command` meets its contract: the first tests, a whole header, the step.
use mathlib.Core.Path.{refl, sym, ap, ◌∙◌}
use Rattle.std.proofs.lemmas.Result.{err_from_is_err_and}
use Rattle.protocol.specs.Refusals.{refusal_of}
use Prim.Native.Nat.{◌<◌}
use native.Mathlib.Omega.{arith}
use borrow.Author.Tests.{lt-ltb, le-ltb}
use lib.Seq.{length-take-le}
use Rattle.model.specs.Numbers.{table_words, header_bytes}
use Rattle.model.specs.Frames.{stream_id}
use Rattle.model.specs.Steps.{command, stream_of}
use Rattle.guard.proofs.Effects.{has_number, turned_away, stands, table_words_lem, room_bytes, carried, unnamed, few}
use Rattle.guard.proofs.command.Goals as goal

pub returns-in_err-host_tests : goal.returns-in_err-host_tests
returns-in_err-host_tests c =
    let p = err_from_is_err_and c.from_residual.result c.from_residual.ensures.1 in
    rw (p.1, p.2) (turned_away c.args.table.now c.args.answers.now _ _ (sym (ap refusal_of c.in_err-host_tests.was) ∙ c.host_tests.ensures) (has_number _) (refl, refl))

pub returns-then-frame-lt-HEADER : goal.returns-then-frame-lt-HEADER
unfolding stream_of
returns-then-frame-lt-HEADER c =
    unnamed c.args.table.now c.args.answers.now (command c.args.ticket c.args.frame.now) c.host_tests.ensures (ap refusal_of c.in_ok-host_tests.was)
    (let short : _ < header_bytes = c.if-frame-lt-HEADER.true in rw (lt-ltb _ _ short) refl) (refl, refl)

pub slice_bounds-command-end : goal.slice_bounds-command-end
slice_bounds-command-end c =
    table_words_lem c.args.table.now c.args.answers.now (command c.args.ticket c.args.frame.now) c.host_tests.ensures (ap refusal_of c.in_ok-host_tests.was)

pub command-written-requires : goal.command-written-requires
command-written-requires c =
    let act = command c.args.ticket c.args.frame.now in (
      length-take-le table_words c.args.table.now (table_words_lem c.args.table.now c.args.answers.now act c.host_tests.ensures (ap refusal_of c.in_ok-host_tests.was)),
      record { device = _; encodes = stands c.args.table.now c.args.answers.now act c.host_tests.ensures (ap refusal_of c.in_ok-host_tests.was) },
      c.if-frame-lt-HEADER.false,
      room_bytes c.args.table.now c.args.answers.now act c.host_tests.ensures (ap refusal_of c.in_ok-host_tests.was),
    )

pub overflow_cast-result : goal.overflow_cast-result
unfolding stream_of
overflow_cast-result c =
    omega (
      arith,
      few c.args.table.now c.args.answers.now (command c.args.ticket c.args.frame.now) c.host_tests.ensures (ap refusal_of c.in_ok-host_tests.was)
          (stream_id c.args.frame.now) (rw (le-ltb _ _ c.if-frame-lt-HEADER.false) refl) c.command-written.ensures,
    )

pub returns : goal.returns
unfolding stream_of
returns c =
    carried c.args.table.now c.args.answers.now (command c.args.ticket c.args.frame.now) c.host_tests.ensures (ap refusal_of c.in_ok-host_tests.was)
    (stream_id c.args.frame.now) (rw (le-ltb _ _ c.if-frame-lt-HEADER.false) refl) c.command-written.ensures
