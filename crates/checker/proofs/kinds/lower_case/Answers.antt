-- `checker::kinds::lower_case` meets its contract: each way through it is a place of the byte before, in or behind A to F.
use native.Mathlib.Omega.{arith}
use Rattle.laws.proofs.Tests.{within_below, within_above, within_true}
use Rattle.log_verdict.specs.Kinds.{lower_case}
use Rattle.checker.proofs.kinds.lower_case.Goals as goal

pub returns-in-65-to-70 : goal.returns-in-65-to-70
unfolding lower_case
returns-in-65-to-70 c = rw (within_true c.args.b 65 70 (omega arith) (omega arith))

pub returns-in_default : goal.returns-in_default
unfolding lower_case
returns-in_default c = rw (within_below c.args.b 65 70 (omega arith))

pub returns-in_default-2 : goal.returns-in_default-2
unfolding lower_case
returns-in_default-2 c = rw (within_above c.args.b 65 70 (omega arith))
