-- `tag::is_utf8` meets its contract: where no octet is left, it tests that no tail is missing.
use mathlib.Core.Path.{sym, ◌∙◌}
use native.Mathlib.Omega.{arith}
use Rattle.tag.proofs.Laws.{utf8_end}
use Rattle.tag.proofs.is_utf8.Goals as goal

pub returns : goal.returns
returns c = sym (utf8_end c.args.octets.now c.loop-b.b-index c.loop-b.due.missing c.loop-b.due.lo c.loop-b.due.hi (omega arith)) ∙ c.loop-b.invariant
