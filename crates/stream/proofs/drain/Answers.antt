-- `stream::drain` meets its contract: what was tried is answered.
use Rattle.stream.proofs.drain.Goals as goal

pub returns : goal.returns
returns c f b h = c.answer_error.ensures f _ _ _ b _ h (c.try_drain-tried.ensures _ f b h)
