-- `device::places::settle` meets its contract: the block is read twice, and the figures are lent.
use Rattle.device.proofs.Served.{settled}
use Rattle.device.proofs.places.settle.Goals as goal

pub returns : goal.returns
returns c d p u =
    settled d c.args.k p c.requires.1 u c.mark_of-mark.ensures c.pending_in-pending.ensures c.put_figure.ensures
