-- What the queue types of the code stand for.
use Rattle.std.specs.Prelude.{Option, None, Some, Result, Ok, Err}
use Rattle.model.specs.Device.{input, output, QueueType as Meant}
use Rattle.protocol.specs.declared.queue_type.QueueType.{QueueType}
use Rattle.protocol.specs.declared.queue_type.QueueType.TheVariants.{Input, Output}
use Rattle.protocol.specs.declared.queue_type.NoQueue.{NoQueue}

-- the model's queue type
abbrev pub queue_type_of : QueueType → Meant
queue_type_of Input = input
queue_type_of Output = output

-- the queue that a number was found to name, or that it names neither
abbrev pub queue_meant : Result QueueType NoQueue → Option Meant
queue_meant (Ok q) = Some (queue_type_of q)
queue_meant (Err e) = None
