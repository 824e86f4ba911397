-- What the code's commands and its test of a frame's type and length stand for.
use Rattle.std.specs.Prelude.{cond, List, ℕ, length}
use Rattle.std.specs.Prelude.{Option, None, Some, Result, Ok, Err}
use Rattle.model.specs.Frames.{create_resource, queue_resource, destroy_all, clear, get_parameters, set_parameters, destroy, drain, control, to_queue, create, live, exactly, at_least, rule_of, wrong_length, command_type}
use Rattle.model.specs.Frames as model
use Rattle.model.specs.Answers.{ErrorCode, invalid_operation, invalid_parameter}
use Rattle.frame.specs.declared.commands.QueueCommand.{QueueCommand}
use Rattle.frame.specs.declared.commands.QueueCommand.TheVariants.{CreateResource, QueueResource, DestroyAll, Clear, GetParameters, SetParameters}
use Rattle.frame.specs.declared.commands.LiveCommand.{LiveCommand}
use Rattle.frame.specs.declared.commands.LiveCommand.TheVariants.{Destroy, Drain, Control, ToQueue}
use Rattle.frame.specs.declared.commands.Command.{Command}
use Rattle.frame.specs.declared.commands.Command.TheVariants.{Create, Live}
use Rattle.frame.specs.declared.commands.LengthRule.{LengthRule}
use Rattle.frame.specs.declared.commands.LengthRule.TheVariants.{Exactly, AtLeast}
use Rattle.frame.specs.declared.commands.CommandRule.{CommandRule}
use Rattle.protocol.specs.declared.codes.ErrorCode as code
use Rattle.protocol.specs.Codes.{error_meant}

-- the model's commands
abbrev pub queue_command_of : QueueCommand → model.QueueCommand
queue_command_of CreateResource = create_resource
queue_command_of QueueResource = queue_resource
queue_command_of DestroyAll = destroy_all
queue_command_of Clear = clear
queue_command_of GetParameters = get_parameters
queue_command_of SetParameters = set_parameters

abbrev pub live_command_of : LiveCommand → model.LiveCommand
live_command_of Destroy = destroy
live_command_of Drain = drain
live_command_of Control = control
live_command_of (ToQueue k) = to_queue (queue_command_of k)

abbrev pub meant : Command → model.Command
meant Create = create
meant (Live k) = live (live_command_of k)

-- what the type and the length of a frame say: an error, or the command
pub data Verdict : Type 0 where
  wrong : ErrorCode → Verdict
  right : model.Command → Verdict

-- of a frame of n bytes for a command with a rule of length
abbrev pub ruled : model.LengthRule → model.Command → ℕ → Verdict
ruled rule c n = cond (wrong_length rule n) (wrong invalid_parameter) (right c)

-- of one whose type has that rule in the table of commands, or none
abbrev pub verdict : Option model.CommandRule → ℕ → Verdict
verdict None n = wrong invalid_operation
verdict (Some l) n = ruled l.length_rule l.command n

-- what a frame's type and length say
abbrev pub verdict_for : List ℕ → Verdict
verdict_for f = verdict (rule_of (command_type f)) (length f)

-- the model's rules: of length, and of a type
abbrev pub length_rule_of : LengthRule → model.LengthRule
length_rule_of (Exactly n) = exactly n
length_rule_of (AtLeast n) = at_least n

abbrev pub rule_meant : ℕ → CommandRule → model.CommandRule
rule_meant ty rule = record { type = ty; command = meant rule.command; length_rule = length_rule_of rule.length }

-- what the code's test found
abbrev pub verdict_of : Result Command code.ErrorCode → Verdict
verdict_of (Ok c) = right (meant c)
verdict_of (Err e) = wrong (error_meant e)

-- the bytes that the frame of a command has at least: of one to a queue, and of any
abbrev pub queue_length : model.QueueCommand → ℕ
queue_length create_resource = 88
queue_length queue_resource = 64
queue_length destroy_all = 16
queue_length clear = 16
queue_length get_parameters = 16
queue_length set_parameters = 120

abbrev pub least_length : model.Command → ℕ
least_length create = 88
least_length (live destroy) = 8
least_length (live drain) = 8
least_length (live control) = 16
least_length (live (to_queue k)) = queue_length k
