-- `queue::next_queued` meets its contract: the slot of the lowest number, where there is one.
use mathlib.Core.Path.{sym, ◌∙◌}
use Rattle.queue.proofs.Least.{next_at, next_none}
use Rattle.queue.proofs.search.next_queued.Goals as goal

pub returns-in_err-lowest-clause-found : goal.returns-in_err-lowest-clause-found
returns-in_err-lowest-clause-found c Q e = c.from_residual.ensures ∙ sym (next_none c.args.least Q.slots (sym (c.lowest_queued.ensures Q e) ∙ c.in_err-lowest.was))

pub returns-clause-found : goal.returns-clause-found
returns-clause-found c Q e =
    c.find_resource.ensures.found Q e ∙ sym (next_at c.args.least Q.slots c.in_ok-lowest.lowest (sym (c.lowest_queued.ensures Q e) ∙ c.in_ok-lowest.was))
