-- `tag::is_utf8` meets its contract: what is left of the octets, with the tails that are missing, has the answer of the whole.
use mathlib.Core.Path.{◌≡◌}
use lib.ListN.{drop}
use Rattle.tag.specs.Utf8.{utf8_after, utf8}
use Rattle.tag.proofs.is_utf8.Given as goal

abbrev pub invariant-loop-b : goal.invariant-loop-b
invariant-loop-b l = utf8_after l.due.missing l.due.lo l.due.hi (drop l.b-index l.octets) ≡ utf8 l.octets
