-- What is promised of the verdict on a log over the tables of this device. It is proved in proofs/Log.
use Rattle.table.specs.Blocks.{layout}
use Rattle.log_verdict.specs.Cases.{LineCases}
use Rattle.log_verdict.specs.Promises.{QuestionsAreFrames, AcceptedExactly, NamedExactly, OwnAccepted, VerdictOfCalls, VerdictOfPieces, StoppedStays, LineWithin}

pub record VerdictPromises : Type 0 where
  -- the lines that are taken for questions are the frames of the log program
  pub questions_are_frames : QuestionsAreFrames
  -- a log is accepted exactly where it is right as document 02 says it
  pub accepted_exactly : AcceptedExactly layout
  -- a line is named exactly where it is the first wrong one, with its fault
  pub named_exactly : NamedExactly layout
  -- what the log program writes for frames, with these put in between, is accepted
  pub own_accepted : OwnAccepted layout
  -- however a log is cut into pieces, the calls of `take_piece` on them and that of `verdict` give the verdict on the whole log
  pub verdict_of_pieces : VerdictOfPieces layout
  -- and so, for the bytes that they use, calls on any pieces do
  pub verdict_of_calls : VerdictOfCalls layout
  -- where the check has stopped, nothing that follows changes the verdict
  pub stopped_stays : StoppedStays layout
  -- the line that is named is one past the log's bytes at most
  pub line_within : LineWithin layout
  -- lines on both sides of each edge, computed
  pub line_cases : LineCases
