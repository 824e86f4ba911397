-- `line::writing::put_answers` meets its contract: the lines of the answers so far are written, and those in `rest` are whole; a turn is `rendered_more`.
use mathlib.Core.Path.{refl, ◌∙◌}
use native.Mathlib.Omega.{arith}
use Rattle.line.proofs.Written.{rendered_all, some_to_come, none_to_come, next_answer, next_fits, next_here, rendered_more, next_short}
use Rattle.line.proofs.writing.put_answers.Goals as goal

pub read-requires : goal.read-requires
read-requires c =
    let inside = some_to_come c.loop-rest.rest.now c.is_empty.ensures c.loop-rest-test.true in
    omega (arith, next_fits c.loop-rest.rest.now _ inside c.loop-rest.invariant.2.whole refl)

pub split_at-requires : goal.split_at-requires
split_at-requires c =
    let inside = some_to_come c.loop-rest.rest.now c.is_empty.ensures c.loop-rest-test.true in
    next_fits c.loop-rest.rest.now c.read.result inside c.loop-rest.invariant.2.whole c.read.ensures

pub loop-rest-preserved : goal.loop-rest-preserved
loop-rest-preserved c =
    let inside = some_to_come c.loop-rest.rest.now c.is_empty.ensures c.loop-rest-test.true in
    let whole = c.loop-rest.invariant.2.whole in
    let count = c.read.ensures in
    let wrote = c.put_answer-end.ensures (next_answer c.loop-rest.rest.now c.read.result inside whole count).answer (c.split_at.ensures.front ∙ next_here c.loop-rest.rest.now c.read.result inside whole count) in (
      omega arith,
      rw c.split_at.ensures.back (next_short c.loop-rest.rest.now c.read.result inside whole count c.loop-rest.invariant.1 wrote),
      rw c.split_at.ensures.back (rendered_more c.loop-rest.rest.now c.read.result inside whole count c.loop-rest.invariant.2 wrote),
    )

pub returns-clause-wrote : goal.returns-clause-wrote
returns-clause-wrote c = rendered_all (none_to_come c.loop-rest.rest.now c.is_empty.ensures c.loop-rest-test.false) c.loop-rest.invariant.2
