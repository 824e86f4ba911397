-- `checker::Checker::standing` meets its contract: that of the check, with the line that was begun.
use mathlib.Core.Path.{ap}
use Rattle.log_verdict.specs.Checking.{CheckState}
use Rattle.log_verdict.specs.InPieces.{CheckReader}
use Rattle.checker.proofs.Checker.standing.Goals as goal

pub returns : goal.returns
returns c = ap (λ (s : CheckState). let reader : CheckReader = record { state = s; line = c.args.kept } in reader) c.standing.ensures
