-- A queue command between its tests. A bridge between the code and the model: it need not be read to believe the contracts of the exported functions.
use Rattle.std.specs.Prelude.{ℕ, ◌≡◌, true, false, List}
use Rattle.std.specs.Prelude.{Some}
use Rattle.model.specs.Device.{QueueType, Stream, queue_of}
use Rattle.model.specs.Frames.{resource_id}
use Rattle.model.specs.Commands.{input_draining}
use Rattle.queue.specs.Search.{find_resource}
use Rattle.frame.specs.Frame.{good_sizes}

-- the frame f is for the queue q, which is no input queue while draining, and names the resource in its slot k
pub record Placed (f : List ℕ) (b : Stream) (q : QueueType) (k : ℕ) : Type 0 where
  pub sizes : good_sizes f ≡ true
  pub takes : input_draining q b ≡ false
  pub found : find_resource (resource_id f) (queue_of q b).slots ≡ Some k
