-- Both sides of each edge, computed.
use mathlib.Core.Path.{refl}
use Rattle.laws.specs.Tests.{within}
use Rattle.field.specs.Field.{field}
use Rattle.line.specs.Hex.{digit_of, is_hex, hex_bytes}
use Rattle.line.specs.Line.{command_in, finish_in, drained_in, frame_in, line_of}
use Rattle.line.specs.Edges.{Edges}

pub edges : Edges
unfolding within field digit_of is_hex hex_bytes command_in finish_in drained_in frame_in line_of
edges = refl
