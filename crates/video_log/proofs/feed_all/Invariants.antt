-- `video_log::feed_all` is safe and ends: each call uses a byte or more of what is left.
use lib.ListN.{length}
use Rattle.video_log.proofs.feed_all.Given as goal

abbrev pub decreases-loop-rest : goal.decreases-loop-rest
decreases-loop-rest g l = length l.rest
