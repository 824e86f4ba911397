-- `line::splitting::KeptLine::from_bytes` meets its contract: what is kept of the line behind no byte.
use mathlib.Core.Path.{ap, ◌∙◌}
use mathlib.Core.List.{List, ◌++◌}
use Prim.Native.Nat.{ℕ}
use Rattle.line.specs.Split.{kept}
use Rattle.line.proofs.splitting.KeptLine.from_bytes.Goals as goal

pub returns : goal.returns
returns c = c.append.ensures ∙ ap (λ (l : List ℕ). kept (l ++ c.args.line.now)) c.new-begun.ensures
