-- `log_check::take_all` is safe and ends: each call uses a byte or more of what is left.
use lib.ListN.{length}
use Rattle.log_check.proofs.take_all.Given as goal

abbrev pub decreases-loop-rest : goal.decreases-loop-rest
decreases-loop-rest l = length l.rest
