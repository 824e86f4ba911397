-- `checker::lines::in_text` meets its contract: no more is due than stands in the text.
use mathlib.Core.Path.{sym, ap, ◌∙◌}
use mathlib.Core.List.{List}
use Prim.Native.Nat.{ℕ}
use borrow.Author.Rules.{rules}
use Rattle.std.specs.Prelude.{Result}
use Rattle.log_verdict.specs.Checking.{right_so_far}
use Rattle.checker.specs.declared.WrongLine.{WrongLine}
use Rattle.checker.specs.declared.lines.Due.{Due}
use Rattle.checker.specs.Meant.{state_in}
use Rattle.checker.proofs.DueText.{due_most}
use Rattle.checker.proofs.lines.in_text.Goals as goal

pub returns-in-Ok-clause-means : goal.returns-in-Ok-clause-means
returns-in-Ok-clause-means c t =
    ap (λ (due : List (List ℕ)). right_so_far t due c.in-Ok.due.line) (due_most c.in-Ok.due.at c.in-Ok.due.end c.args.text.now 2112 c.min.ensures (search rules))
    ∙ ap (λ (r : Result Due WrongLine). state_in r t c.args.text.now) (sym c.in-Ok.is)

pub returns-in-Err-clause-means : goal.returns-in-Err-clause-means
returns-in-Err-clause-means c t = ap (λ (r : Result Due WrongLine). state_in r t c.args.text.now) (sym c.in-Err.is)
