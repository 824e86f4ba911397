-- `replay::log_line` meets its contract: each way through it is a law of `line_step`.
use mathlib.Core.Path.{sym, ap, ◌∙◌, subst}
use native.Mathlib.Omega.{arith}
use lib.Seq.{length-take-le}
use Rattle.std.specs.Prelude.{Option, List, ℕ}
use Rattle.laws.specs.Stores.{Wrote}
use Rattle.table.specs.Blocks.{layout}
use Rattle.line.specs.declared.Frame.{Frame}
use Rattle.line.specs.Line.{decoded}
use Rattle.replay.proofs.Steps.{few_bytes_lem, short, whole_answers_lem, shown_refused, logged, logged_refused}
use Rattle.replay.proofs.log_line.Goals as goal

pub returns-in_default-clause-means : goal.returns-in_default-clause-means
returns-in_default-clause-means c =
    logged_refused layout c.args.table.now c.args.line.now 7
    (sym c.decode_line.ensures.means ∙ ap (λ (d : Option Frame). decoded d c.decode_line.new.frame) c.in_default.is)
    c.put_refusal.ensures.wrote

pub slice_bounds-answers-end : goal.slice_bounds-answers-end
slice_bounds-answers-end c =
    let is = sym c.decode_line.ensures.means ∙ ap (λ (d : Option Frame). decoded d c.decode_line.new.frame) c.in-Some.is in
    omega (arith, few_bytes_lem layout c.args.table.now c.args.line.now _ _ is (omega arith) _ _ _ _ c.in-Ok.ensures)

pub slice_bounds-put_answers-end : goal.slice_bounds-put_answers-end
slice_bounds-put_answers-end c =
    let is = sym c.decode_line.ensures.means ∙ ap (λ (d : Option Frame). decoded d c.decode_line.new.frame) c.in-Some.is in
    sym (length-take-le _ _ (omega (arith, few_bytes_lem layout c.args.table.now c.args.line.now _ _ is (omega arith) _ _ _ _ c.in-Ok.ensures)))

pub put_answers-requires : goal.put_answers-requires
put_answers-requires c =
    let is = sym c.decode_line.ensures.means ∙ ap (λ (d : Option Frame). decoded d c.decode_line.new.frame) c.in-Some.is in (
      whole_answers_lem layout c.args.table.now c.args.line.now _ _ is (omega arith) _ _ _ _ c.in-Ok.ensures,
      omega (arith, short layout c.args.table.now c.args.line.now _ _ is (omega arith) _ _ _ _ c.in-Ok.ensures),
    )

pub returns-in-Ok-clause-means : goal.returns-in-Ok-clause-means
returns-in-Ok-clause-means c =
    let is = sym c.decode_line.ensures.means ∙ ap (λ (d : Option Frame). decoded d c.decode_line.new.frame) c.in-Some.is in
    logged layout c.args.table.now c.args.line.now _ _ is (omega arith) _ _ _ _ c.in-Ok.ensures c.put_answers.ensures.wrote

pub returns-in-Err-clause-means : goal.returns-in-Err-clause-means
returns-in-Err-clause-means c =
    let is = sym c.decode_line.ensures.means ∙ ap (λ (d : Option Frame). decoded d c.decode_line.new.frame) c.in-Some.is in
    logged layout c.args.table.now c.args.line.now _ _ is (omega arith) _ _ _ _ c.in-Err.ensures
    (subst (λ (text : List ℕ). Wrote c.args.out.now c.put_refusal-in-Err.new.out 0 c.put_refusal-in-Err.result text) (shown_refused c.in-Err.refusal _) c.put_refusal-in-Err.ensures.wrote)
