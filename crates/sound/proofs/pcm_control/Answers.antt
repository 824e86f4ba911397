-- `sound::pcm_control` meets its contract: behind the two refusals the message is carried out.
use native.Mathlib.Omega.{arith}
use Rattle.sound.proofs.Laws.{carried_out_lem}
use Rattle.sound.proofs.pcm_control.Goals as goal

pub returns : goal.returns
returns c =
    carried_out_lem _ _ _ _ (omega arith) c.in_ok-stream.ensures c.control_reply-reply.ensures c.status_of.ensures c.put_status-written.ensures.wrote c.put_status-written.ensures.few cc
