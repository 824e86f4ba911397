-- `stream::destroy_all` meets its contract: what was tried is answered.
use Rattle.stream.proofs.destroy_all.Goals as goal

pub returns : goal.returns
returns c f b h = c.answer_error.ensures f _ _ _ b _ h (c.try_destroy_all-tried.ensures f b h)
