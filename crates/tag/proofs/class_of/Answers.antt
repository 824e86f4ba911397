-- `tag::class_of` meets its contract: the table's rule is one test that antt computes over its 256 elements, carried to the octet by `table_rule`.
use native.Mathlib.Omega.{arith}
use Rattle.laws.specs.Tests.{within}
use Rattle.laws.proofs.Table.{table_rule}
use Rattle.tag.specs.declared.TheConstants.{CLASSES}
use Rattle.tag.specs.Utf8.{class_of}
use Rattle.tag.proofs.class_of.Goals as goal

pub returns : goal.returns
unfolding class_of within
returns c = rw c.from.ensures (table_rule class_of CLASSES tt c.args.b (omega arith))
