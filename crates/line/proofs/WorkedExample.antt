-- The example, computed on devices; over tables it writes the same by `shows_events_lem`.
use mathlib.Core.Path.{◌≡◌, refl, ◌∙◌}
use Rattle.laws.specs.Tests.{within}
use Rattle.laws.specs.Parts.{pieces, zeros}
use Rattle.laws.specs.InOrder.{by_tests}
use Rattle.field.specs.Field.{field, little_endian}
use Rattle.model.specs.Device.{fresh, put_record}
use Rattle.model.specs.Answers.{response_bytes, read_from}
use Rattle.model.specs.Frames.{rule_of}
use Rattle.model.specs.Reports.{on_drained}
use Rattle.model.specs.Commands.{on_drain, on_command}
use Rattle.model.specs.Steps.{stream_of, serve, host_refusal, step_on}
use Rattle.model.specs.Tables.{Layout, Lawful}
use Rattle.line.specs.Hex.{digit_of, is_hex, hex_bytes, lower_digit, hex_pair}
use Rattle.line.specs.Line.{command_in, finish_in, drained_in, frame_in, line_of}
use Rattle.line.specs.Split.{lines_in}
use Rattle.line.specs.Log.{answer_line, answer_lines, refusal_line}
use Rattle.line.specs.Promises.{events_output}
use Rattle.line.specs.WorkedExample.{three_lines, their_output, WorkedExample}
use Rattle.line.proofs.Shown.{shows_events_lem}

computed : events_output three_lines ≡ their_output
unfolding digit_of is_hex hex_bytes lower_digit hex_pair command_in finish_in drained_in frame_in line_of lines_in answer_line answer_lines refusal_line pieces zeros field little_endian within
    fresh put_record response_bytes read_from rule_of by_tests on_drain on_command on_drained stream_of serve host_refusal step_on
computed = refl

pub worked_example_lem : (L : Layout) → Lawful L → WorkedExample L
worked_example_lem L law = shows_events_lem L law three_lines ∙ computed
