-- `completion::ended_answer` meets its contract: by whether the step ends the drain, and whether one is pending.
use mathlib.Core.Path.{sym, ◌∙◌}
use mathlib.Core.Bool.{true, false}
use native.Mathlib.Omega.{arith}
use Rattle.laws.proofs.Stores.{wrote_none}
use Rattle.completion.proofs.Ends.{plain_next, wrote_drain, wrote_ended, wrote_no_drain}
use Rattle.completion.proofs.drains.ended_answer.Goals as goal

pub returns-then-not-ends : goal.returns-then-not-ends
returns-then-not-ends c =
    record { bound = omega arith; written = λ n b h. wrote_ended c.args.stream false c.args.ends b (sym c.if-not-ends.true) (wrote_none _ _) }

pub returns-in_default : goal.returns-in_default
returns-in_default c =
    record {
      bound = omega arith;
      written = λ n b h. wrote_ended c.args.stream true c.args.ends b (sym c.if-not-ends.false)
          (wrote_no_drain _ _ _ _ (sym c.in_default.is ∙ c.pending_drain.ensures n b h.held));
    }

pub returns : goal.returns
returns c =
    record {
      bound = omega (arith, plain_next _ _ _ c.put_typed.ensures);
      written = λ n b h. wrote_ended c.args.stream true c.args.ends b (sym c.if-not-ends.false)
          (wrote_drain _ _ b.draining (sym c.in-Some.is ∙ c.pending_drain.ensures n b h.held) c.put_typed.ensures);
    }
