-- `stream::create_resource` meets its contract: what was tried is answered.
use Rattle.stream.proofs.create_resource.Goals as goal

pub returns : goal.returns
returns c b h = c.answer_error.ensures c.args.frame.now _ _ _ b _ h (c.try_create_resource-tried.ensures b h)
