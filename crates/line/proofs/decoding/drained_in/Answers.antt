-- `line::decoding::drained_in` meets its contract: the number is a field of the line's bytes, by `drained_read`.
use Rattle.line.specs.Hex.{hex_bytes}
use Rattle.line.proofs.Frames.{drained_other, drained_read}
use Rattle.line.proofs.decoding.drained_in.Goals as goal

pub returns-in_default-clause-means : goal.returns-in_default-clause-means
returns-in_default-clause-means c = λ buffer. drained_other (hex_bytes c.args.line.now) c.in_default.ensures

pub returns-clause-means : goal.returns-clause-means
returns-clause-means c = λ buffer. drained_read (hex_bytes c.args.line.now) c.in-Some.ensures c.read.ensures
