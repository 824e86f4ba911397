-- `frame::commands::check` meets its contract: a type that has no rule is an invalid operation.
use mathlib.Core.Path.{◌≡◌, ap, ◌∙◌}
use Prim.Native.Nat.{ℕ}
use borrow.Author.Rules.{rules}
use Rattle.std.specs.Prelude.{Option, None, Err}
use Rattle.protocol.specs.declared.codes.ErrorCode.TheVariants.{InvalidOperation}
use Rattle.model.specs.Answers.{invalid_operation}
use Rattle.model.specs.Frames.{CommandRule, rule_of}
use Rattle.frame.specs.Meant.{wrong, verdict, verdict_of}
use Rattle.frame.proofs.commands.check.Goals as goal

unknown : {o : Option CommandRule} (n : ℕ) → o ≡ None → wrong invalid_operation ≡ verdict o n
unknown n e = rw e

pub returns-in_err-rule : goal.returns-in_err-rule
returns-in_err-rule c =
    let answer : c.from_residual.result ≡ Err InvalidOperation = search rules in
    let none : rule_of c.args.kind ≡ None = search rules in
    ap verdict_of answer ∙ unknown c.args.len none
