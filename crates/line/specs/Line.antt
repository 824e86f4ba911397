-- What a line of the log stands for (document 01, "The log").
use Rattle.std.specs.Prelude.{ℕ, cond, List, [], eqb, length, get_or, take, drop, Option, None, Some}
use Rattle.laws.specs.Tests.{within}
use Rattle.field.specs.Field.{field}
use Rattle.model.specs.Steps.{Act, command, finish, drained}
use Rattle.line.specs.Hex.{is_hex, hex_bytes}
use Rattle.line.specs.declared.Frame.{Frame}
use Rattle.line.specs.declared.Frame.TheVariants.{Command, Finish, Drained}

-- a step, or the number of a refusal
pub data Line : Type 0 where
  step_line : Act → Line
  refused_line : ℕ → Line

-- the line is no frame
abbrev pub no_frame : Line
no_frame = refused_line 7

-- 00 ticket command, of 5 to 4,189 bytes
unfoldable pub command_in : List ℕ → Line
command_in b = cond (within (length b) 5 4189) (step_line (command (field 4 b 1) (drop 5 b))) no_frame

-- 01 stream, queue type, resource, flags, timestamp, of 25
unfoldable pub finish_in : List ℕ → Line
finish_in b = cond (eqb (length b) 25) (step_line (finish (field 4 b 1) (field 4 b 5) (field 4 b 9) (field 4 b 13) (field 8 b 17))) no_frame

-- 02 stream, of 5
unfoldable pub drained_in : List ℕ → Line
drained_in b = cond (eqb (length b) 5) (step_line (drained (field 4 b 1))) no_frame

-- by the first byte; where there is none, there are too few for any kind
unfoldable pub frame_in : List ℕ → Line
frame_in b =
    cond (eqb (get_or b 0 0) 0x00) (command_in b)
    (cond (eqb (get_or b 0 0) 0x01) (finish_in b)
    (cond (eqb (get_or b 0 0) 0x02) (drained_in b) no_frame))

-- a line, without its byte 10
unfoldable pub line_of : List ℕ → Line
line_of line = cond (is_hex line) (frame_in (hex_bytes line)) no_frame

-- What `decode_line` answers

-- bytes, where they are so many
abbrev pub of_length : ℕ → List ℕ → Option (List ℕ)
of_length n b = cond (eqb (length b) n) (Some b) None

-- a frame of 00, 01 or 02, with the buffer that is left: a command's bytes are the first of it
abbrev pub framed : Frame → List ℕ → Act
framed (Command ticket count) buffer = command ticket (take count buffer)
framed (Finish r) buffer = finish r.stream r.queue r.resource r.flags r.timestamp
framed (Drained stream) buffer = drained stream

-- a frame, or refusal 7
abbrev pub decoded : Option Frame → List ℕ → Line
decoded (Some f) buffer = step_line (framed f buffer)
decoded None buffer = refused_line 7

-- how many bytes of the buffer are a command's
abbrev pub count_in : Frame → ℕ
count_in (Command ticket count) = count
count_in (Finish r) = 0
count_in (Drained stream) = 0

abbrev pub count_of : Option Frame → ℕ
count_of (Some f) = count_in f
count_of None = 0

-- the bytes that a line brings into the buffer: those of its command
abbrev pub command_bytes : Line → List ℕ
command_bytes (step_line (command ticket frame)) = frame
command_bytes (step_line (finish stream queue resource flags timestamp)) = []
command_bytes (step_line (drained stream)) = []
command_bytes (refused_line k) = []
