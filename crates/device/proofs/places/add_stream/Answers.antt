-- `device::places::add_stream` meets its contract: the words of the spent numbers are lent, and then the block.
use borrow.Author.Rules.{rules}
use Rattle.model.specs.Device.{new_stream}
use Rattle.device.proofs.Served.{stream_added}
use Rattle.model.proofs.Sizes.{new_sixteen}
use Rattle.device.proofs.places.add_stream.Goals as goal

pub returns : goal.returns
returns c =
    record {
      size = search rules;
      added = λ d h new found. stream_added h c.args.number c.args.k c.requires.1 new found (new_stream c.args.format)
          (new_sixteen c.args.format) c.requires.2
          c.spend.ensures c.new_stream.ensures;
    }
