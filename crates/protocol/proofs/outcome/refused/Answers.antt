-- `protocol::outcome::refused` meets its contract: the number as given, and no byte.
use mathlib.Core.Path.{◌≡◌, refl}
use Prim.Native.Nat.{ℕ}
use Rattle.protocol.proofs.outcome.refused.Goals as goal

pub returns : goal.returns
returns c = let nothing : ◌≡◌ {A = ℕ} 0 0 = refl in (refl, nothing)
