-- `guard::finish` meets its contract: the first tests, then the step.
use mathlib.Core.Path.{refl, sym, ap, ◌∙◌}
use Rattle.std.proofs.lemmas.Result.{err_from_is_err_and}
use Rattle.protocol.specs.Refusals.{refusal_of}
use lib.Seq.{length-take-le}
use Rattle.model.specs.Numbers.{table_words}
use Rattle.model.specs.Steps.{finish, stream_of}
use Rattle.guard.proofs.Effects.{has_number, turned_away, table_words_lem, room_bytes, carried}
use Rattle.guard.proofs.finish.Goals as goal

pub returns-in_err-host_tests : goal.returns-in_err-host_tests
returns-in_err-host_tests c =
    let p = err_from_is_err_and c.from_residual.result c.from_residual.ensures.1 in
    rw (p.1, p.2) (turned_away c.args.table.now c.args.answers.now _ _ (sym (ap refusal_of c.in_err-host_tests.was) ∙ c.host_tests.ensures) (has_number _) (refl, refl))

pub slice_bounds-finish-end : goal.slice_bounds-finish-end
slice_bounds-finish-end c =
    table_words_lem c.args.table.now c.args.answers.now (finish c.args.report.stream c.args.report.queue c.args.report.resource c.args.report.flags c.args.report.timestamp) c.host_tests.ensures (ap refusal_of c.in_ok-host_tests.was)

pub finish-requires : goal.finish-requires
finish-requires c =
    let act = finish c.args.report.stream c.args.report.queue c.args.report.resource c.args.report.flags c.args.report.timestamp in
    (length-take-le table_words c.args.table.now (table_words_lem c.args.table.now c.args.answers.now act c.host_tests.ensures (ap refusal_of c.in_ok-host_tests.was)), room_bytes c.args.table.now c.args.answers.now act c.host_tests.ensures (ap refusal_of c.in_ok-host_tests.was))

pub returns : goal.returns
unfolding stream_of
returns c =
    carried c.args.table.now c.args.answers.now (finish c.args.report.stream c.args.report.queue c.args.report.resource c.args.report.flags c.args.report.timestamp)
    c.host_tests.ensures (ap refusal_of c.in_ok-host_tests.was) c.args.report.stream refl c.finish.ensures
