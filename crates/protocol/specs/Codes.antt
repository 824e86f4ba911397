-- What the types of answers and the errors of the code stand for.
use Rattle.std.specs.Prelude.{ℕ}
use Rattle.model.specs.Answers as model
use Rattle.model.specs.Answers.{code, invalid_operation, out_of_memory, invalid_stream, invalid_resource, invalid_parameter, unsupported_control}
use Rattle.protocol.specs.declared.codes.AnswerType.{AnswerType}
use Rattle.protocol.specs.declared.codes.AnswerType.TheVariants.{Success, BufferDone, Parameters, Error}
use Rattle.protocol.specs.declared.codes.ErrorCode.{ErrorCode}
use Rattle.protocol.specs.declared.codes.ErrorCode.TheVariants.{InvalidOperation, OutOfMemory, InvalidStream, InvalidResource, InvalidParameter, UnsupportedControl}

-- the model's error
abbrev pub error_meant : ErrorCode → model.ErrorCode
error_meant InvalidOperation = invalid_operation
error_meant OutOfMemory = out_of_memory
error_meant InvalidStream = invalid_stream
error_meant InvalidResource = invalid_resource
error_meant InvalidParameter = invalid_parameter
error_meant UnsupportedControl = unsupported_control

-- the number of a type of answers
abbrev pub answer_number : AnswerType → ℕ
answer_number Success = 0x0200
answer_number BufferDone = 0x0202
answer_number Parameters = 0x0203
answer_number (Error e) = code (error_meant e)
