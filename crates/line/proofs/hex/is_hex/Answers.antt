-- `line::hex::is_hex` meets its contract: the parity, and the test of each byte.
use mathlib.Core.Path.{◌∙◌}
use borrow.Author.Tests.{tests, ne_eqb}
use borrow.Author.Rules.{rules}
use Rattle.line.specs.Hex.{is_digit}
use Rattle.std.proofs.lemmas.Iterator.{YieldsList-from_slice}
use Rattle.std.proofs.lemmas.Iterator.Search.{all_from_yields_List}
use Rattle.line.proofs.Digits.{hex_by_digits, hex_odd}
use Rattle.line.proofs.hex.is_hex.Goals as goal

pub returns-then-line-eq0 : goal.returns-then-line-eq0
returns-then-line-eq0 c =
    all_from_yields_List is_digit _ _ _ c.all.ensures.ran (YieldsList-from_slice c.args.line.now cc) (λ x b q k. search (rules, tests))
    ∙ hex_by_digits c.args.line.now c.if-line-eq0.true

pub returns-else-line-eq0 : goal.returns-else-line-eq0
returns-else-line-eq0 c = ne_eqb _ 0 c.if-line-eq0.false ∙ hex_odd c.args.line.now c.if-line-eq0.false
