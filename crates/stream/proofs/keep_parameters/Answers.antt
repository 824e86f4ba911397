-- `stream::keep_parameters` meets its contract: what was read is kept.
use Rattle.stream.proofs.keep_parameters.Goals as goal

pub returns : goal.returns
returns c Q e =
    rw (← c.frame_width-width.ensures, ← c.frame_height-height.ensures, ← c.frame_rate-rate.ensures) (c.store_parameters.ensures Q e)
