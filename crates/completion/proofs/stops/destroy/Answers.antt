-- `completion::destroy` meets its contract: answers first, then the block is freed.
use Rattle.std.specs.Prelude.{None}
use Rattle.completion.specs.Done.{destroy_answers}
use Rattle.stream.proofs.Steps.{replied_by}
use Rattle.completion.proofs.Ends.{destroy_is}
use Rattle.completion.proofs.stops.destroy.Goals as goal

pub returns : goal.returns
returns c f b h =
    replied_by (destroy_answers c.args.asked.stream c.args.asked.ticket b) None (destroy_is c.args.asked.stream c.args.asked.ticket f b)
    c.free_stream.ensures (c.destroy_answers-written.ensures _ b h)
