-- What is promised of the verdict on a log, over the table's own layout.
use Rattle.table.specs.Blocks.{layout}
use Rattle.log_verdict.proofs.Computed.{line_cases_lem}
use Rattle.log_verdict.proofs.LineKinds.{questions_are_frames_lem}
use Rattle.log_verdict.proofs.Right.{accepted_exactly_lem}
use Rattle.log_verdict.proofs.First.{named_exactly_lem, line_within_lem}
use Rattle.log_verdict.proofs.Own.{own_accepted_lem}
use Rattle.log_verdict.proofs.InPieces.{verdict_of_calls_lem, verdict_of_pieces_lem, stopped_stays_lem}
use Rattle.checker.specs.Promises.{VerdictPromises}

pub verdict_promises : VerdictPromises
verdict_promises = record {
  questions_are_frames = questions_are_frames_lem;
  accepted_exactly = accepted_exactly_lem layout;
  named_exactly = named_exactly_lem layout;
  own_accepted = own_accepted_lem layout;
  verdict_of_pieces = verdict_of_pieces_lem layout;
  verdict_of_calls = verdict_of_calls_lem layout;
  stopped_stays = stopped_stays_lem layout;
  line_within = line_within_lem layout;
  line_cases = line_cases_lem;
}
