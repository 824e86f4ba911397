-- `line::decoding::finish_in` meets its contract: the numbers are fields of the line's bytes, by `finish_read`.
use Rattle.line.specs.Hex.{hex_bytes}
use Rattle.line.proofs.Frames.{finish_other, finish_read}
use Rattle.line.proofs.decoding.finish_in.Goals as goal

pub returns-in_default-clause-means : goal.returns-in_default-clause-means
returns-in_default-clause-means c = λ buffer. finish_other (hex_bytes c.args.line.now) c.in_default.ensures

pub returns-clause-means : goal.returns-clause-means
returns-clause-means c =
    λ buffer. finish_read (hex_bytes c.args.line.now) c.in-Some.ensures
    c.read.ensures c.read-2.ensures c.read-3.ensures c.read-4.ensures c.read-5.ensures
