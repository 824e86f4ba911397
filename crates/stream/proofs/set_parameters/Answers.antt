-- `stream::set_parameters` meets its contract: what was tried is answered.
use Rattle.stream.proofs.set_parameters.Goals as goal

pub returns : goal.returns
returns c b h = c.answer_error.ensures c.args.frame.now _ _ _ b _ h (c.try_set_parameters-tried.ensures b h)
