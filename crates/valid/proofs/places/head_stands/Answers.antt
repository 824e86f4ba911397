-- `valid::places::head_stands` meets its contract: a law for each case of the drain word.
use mathlib.Core.Path.{◌≡◌, ◌∙◌}
use Prim.Native.Nat.{ℕ}
use native.Mathlib.Omega.{arith}
use Rattle.valid.proofs.PlaceStands.{head_idle, head_draining, head_other}
use Rattle.valid.proofs.places.head_stands.Goals as goal

pub returns-in-0 : goal.returns-in-0
returns-in-0 c =
    c.all_zero.ensures ∙ head_idle _ c.requires.0 c.requires.1 c.in-0.is

pub returns-in-1 : goal.returns-in-1
returns-in-1 c =
    let pending : ◌≡◌ {A = ℕ} _ 1 = c.in-1.is in
    c.all_zero-in-1.ensures ∙ head_draining _ c.requires.0 c.requires.1 pending

pub returns-in_default : goal.returns-in_default
returns-in_default c =
    head_other _ c.requires.0 c.requires.1 (λ e. omega arith) (λ e. omega arith)
