-- What a call gives back and leaves, as the effect of a step.
use Rattle.std.specs.Prelude.{ℕ, List}
use Rattle.model.specs.Tables.{Effect}
use Rattle.protocol.specs.declared.outcome.Outcome.{Outcome}

-- its result (refusal number or 0, bytes written), and the table and the room at its exit
abbrev pub as_effect : Outcome → List ℕ → List ℕ → Effect
as_effect r t room = record { refusal = r.refusal; written = r.written; table = t; room = room }
