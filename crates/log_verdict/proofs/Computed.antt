-- Both sides of each edge, computed.
use mathlib.Core.Path.{refl}
use Rattle.laws.specs.Tests.{within}
use Rattle.laws.specs.Lists.{same}
use Rattle.field.specs.Field.{field}
use Rattle.line.specs.Hex.{digit_of, is_hex, hex_bytes, lower_digit, hex_pair}
use Rattle.line.specs.Line.{command_in, finish_in, drained_in, frame_in, line_of}
use Rattle.log_verdict.specs.Kinds.{lower_case, same_line, begins_with, kind_of}
use Rattle.log_verdict.specs.Cases.{LineCases}

pub line_cases_lem : LineCases
unfolding within same field digit_of is_hex hex_bytes lower_digit hex_pair command_in finish_in drained_in frame_in line_of lower_case same_line begins_with kind_of
line_cases_lem = record { kinds = refl; digits = refl }
