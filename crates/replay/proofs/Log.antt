-- What is promised of a whole log, over the table's own layout.
use Rattle.table.specs.Blocks.{layout}
use Rattle.table.proofs.Theorems.{meets_laws}
use Rattle.line.proofs.Cutting.{any_calls_lem, any_cutting_lem}
use Rattle.line.proofs.Shown.{room_free_lem, writes_answers_lem, shows_events_lem}
use Rattle.line.proofs.WorkedExample.{worked_example_lem}
use Rattle.replay.specs.Promises.{LogPromises}

pub log_promises : LogPromises
log_promises = record {
  any_cutting = any_cutting_lem layout;
  any_calls = any_calls_lem layout;
  room_free = room_free_lem layout;
  writes_answers = writes_answers_lem layout;
  shows_events = shows_events_lem layout meets_laws;
  worked_example = worked_example_lem layout meets_laws;
}
