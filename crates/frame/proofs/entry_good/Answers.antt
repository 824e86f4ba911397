-- `frame::entry_good` meets its contract: the test of the code, which does not wrap, is that of the definition.
use mathlib.Core.Path.{◌∙◌}
use native.Mathlib.Omega.{arith}
use Rattle.frame.proofs.Laws.{entry_test}
use Rattle.frame.proofs.entry_good.Goals as goal

pub returns-then-len-ne0 : goal.returns-then-len-ne0
returns-then-len-ne0 c =
    entry_test c.args.entry.now c.read-address.result c.from-len.result c.read-address.ensures (c.from-len.ensures ∙ c.read.ensures) (omega arith) c.if-len-ne0.true
