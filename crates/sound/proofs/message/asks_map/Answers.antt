-- `sound::asks_map` meets its contract: a whole header, and its code.
use mathlib.Core.Path.{ap}
use Prim.Native.Nat.{ℕ, ◌≤◌}
use lib.Dec.{eqb}
use borrow.Author.Tests.{le-leb}
use Rattle.laws.proofs.Tests.{and_holds}
use Rattle.pcm.specs.Numbers.{chmap_info_code, pcm_header}
use Rattle.sound.proofs.message.asks_map.Goals as goal

pub returns-then-message-ge-PCM_HEADER : goal.returns-then-message-ge-PCM_HEADER
returns-then-message-ge-PCM_HEADER c =
    let whole : pcm_header ≤ _ = c.if-message-ge-PCM_HEADER.true in
    and_holds _ _ _ (le-leb _ _ whole) (ap (λ (k : ℕ). eqb k chmap_info_code) c.read.ensures)
