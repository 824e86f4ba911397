-- `sound::put_status` meets its contract: the status, and behind it the zeros where the channel map was asked for.
use mathlib.Core.Path.{sym, ◌∙◌}
use borrow.Author.Rules.{rules}
use Rattle.laws.specs.Parts.{zeros}
use Rattle.sound.proofs.Laws.{wrote_status, wrote_map}
use Rattle.sound.proofs.put_status.Goals as goal

pub returns-then-not-asks_map-clause-wrote : goal.returns-then-not-asks_map-clause-wrote
returns-then-not-asks_map-clause-wrote c = wrote_status _ _ (sym c.asks_map.ensures ∙ c.if-not-asks_map.true) c.put.ensures

pub returns-clause-wrote : goal.returns-clause-wrote
unfolding zeros
returns-clause-wrote c = wrote_map {d = c.args.answer.now} c.args.message.now c.args.status (sym c.asks_map.ensures ∙ c.if-not-asks_map.false) c.requires c.put.ensures (search rules)
