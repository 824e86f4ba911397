-- `line::splitting::line_end` meets its contract: the bytes before the first that is 10.
use mathlib.Core.Path.{◌≡◌, sym, ◌∙◌}
use borrow.Author.Tests.{tests}
use borrow.Author.Rules.{rules}
use Rattle.std.proofs.lemmas.Iterator.{YieldsList-from_slice, IsFirst-from_position, index_from_first}
use Rattle.line.specs.Split.{line_end}
use Rattle.line.proofs.Lines.{end_here, end_later, end_none}
use Rattle.line.proofs.splitting.line_end.Goals as goal

pub returns-clause-value : goal.returns-clause-value
returns-clause-value c =
    c.unwrap_or.ensures
    ∙ sym (index_from_first line_end (λ b. b ≡ 10) (λ b. b ≡ 10 → ⊥) end_none end_here end_later c.args.text.now c.position.result
    (IsFirst-from_position _ _ c.position.result (λ b. b ≡ 10) (λ b. b ≡ 10 → ⊥) c.position.ensures.ran (YieldsList-from_slice c.args.text.now cc) (λ x q k. search (rules, tests)) (λ x q k. search (rules, tests))))
