-- What is promised of a whole log over the tables of this device. It is proved in proofs/Log.
use Rattle.table.specs.Blocks.{layout}
use Rattle.line.specs.Promises.{RoomFree, WritesAnswers, AnyCalls, AnyCutting, ShowsEvents}
use Rattle.line.specs.WorkedExample.{WorkedExample}

pub record LogPromises : Type 0 where
  -- however a log is cut into pieces, the calls of `feed` on them and that of `last_line` write what the whole log writes
  pub any_cutting : AnyCutting layout
  -- and so, for the bytes that they use, calls on any pieces do
  pub any_calls : AnyCalls layout
  -- what is shown of a step does not depend on what stood in its answer room, and the room holds whole answers
  pub room_free : RoomFree layout
  pub writes_answers : WritesAnswers layout
  -- a log writes what the events of its steps show, which are those of condition 3
  pub shows_events : ShowsEvents layout
  -- the example of document 01, computed
  pub worked_example : WorkedExample layout
