-- Lines on both sides of some edges, and what each of them stands for. The other edges are run (examples/lines.log, examples/edges.log).
use Rattle.std.specs.Prelude.{◌≡◌, List, [], ◌∷◌, ◌++◌, map, ℕ, ◌+◌, ◌*◌, ◌-◌, replicate}
use Rattle.model.specs.Steps.{command, finish, drained}
use Rattle.line.specs.Line.{Line, step_line, no_frame, line_of}

infix 80 ◌means◌
-- a line, and what it stands for
pub record Edge : Type 0 where
  pub line : List ℕ
  pub meaning : Line

abbrev pub ◌means◌ : List ℕ → Line → Edge
line means meaning = record { line = line; meaning = meaning }

-- the digits of n bytes: the kind, which is below 10, and zeros
abbrev pub of_kind : ℕ → ℕ → List ℕ
of_kind k n = 48 ∷ (48 + k) ∷ replicate (2 * n - 2) 48

-- the digits of a drained report's line whose last two are these
abbrev pub ending : ℕ → ℕ → List ℕ
ending h l = 48 ∷ 50 ∷ (replicate 6 48 ++ h ∷ l ∷ [])

abbrev pub line_edges : List Edge
line_edges =
    -- the lengths of each kind
    of_kind 0 4 means no_frame
    ∷ of_kind 0 5 means step_line (command 0 [])
    ∷ of_kind 0 4189 means step_line (command 0 (replicate 4184 0))
    ∷ of_kind 0 4190 means no_frame
    ∷ of_kind 1 24 means no_frame
    ∷ of_kind 1 25 means step_line (finish 0 0 0 0 0)
    ∷ of_kind 2 5 means step_line (drained 0)
    ∷ of_kind 2 6 means no_frame
    -- a digit too many, and digits of either case
    ∷ (48 ∷ of_kind 2 5) means no_frame
    ∷ ending 65 70 means step_line (drained 0xaf000000)
    ∷ ending 97 102 means step_line (drained 0xaf000000)
    ∷ []

abbrev pub Edges : Type 0
Edges = map (λ (c : Edge). line_of c.line) line_edges ≡ map (λ (c : Edge). c.meaning) line_edges
