-- `device::commands::command` meets its contract: an error is answered.
use Rattle.device.proofs.Served.{erred_served, of_stream_lem}
use Rattle.device.proofs.commands.command.Goals as goal

pub returns-in-Ok : goal.returns-in-Ok
returns-in-Ok c d h = of_stream_lem c.stream-stream.ensures (c.in-Ok.ensures d h)

pub returns-in-Err : goal.returns-in-Err
returns-in-Err c d h = of_stream_lem c.stream-stream.ensures (erred_served h _ c.args.frame.now (c.in-Err.ensures d h) c.put_typed.ensures)
