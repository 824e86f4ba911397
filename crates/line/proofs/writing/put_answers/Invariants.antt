-- `line::writing::put_answers` meets its contract: the lines of the answers so far are written, and those in `rest` are whole; a turn is `rendered_more`.
use mathlib.Core.Path.{◌≡◌}
use Prim.Native.Nat.{◌+◌, ◌*◌, ◌≤◌}
use lib.ListN.{length}
use Rattle.line.proofs.Written.{Rendered}
use Rattle.line.proofs.writing.put_answers.Given as goal

abbrev pub invariant-loop-rest : goal.invariant-loop-rest
invariant-loop-rest l = (length l.out ≡ length l.initial.out) × (l.end + 2 * length l.rest ≤ 2 * length l.answers) × Rendered l.answers l.initial.out l.out l.end l.rest

abbrev pub decreases-loop-rest : goal.decreases-loop-rest
decreases-loop-rest l = length l.rest
