-- `field::read` meets its contract: the library's number of 8 bytes is the field, by `field_padded`, and so fits.
use mathlib.Core.Path.{◌≡◌, refl, sym, ap, ◌∙◌}
use mathlib.Core.List.{List, ◌++◌}
use Prim.Native.Nat.{ℕ, ◌+◌, ◌≤◌, ◌<◌}
use native.Mathlib.Nat.{zero-add}
use native.Mathlib.Omega.{arith}
use lib.ListN.{length, get_or, take, drop, set, replicate, length-drop}
use lib.Seq.{paste, get_or-drop}
use Rattle.std.specs.Int.{w64, from_le_bytes}
use Rattle.field.specs.Field.{field}
use Rattle.field.proofs.Laws.{field_fits, field_padded, one_more}
use Rattle.field.proofs.read.Goals as goal

-- the byte is the part's next one
next : {k : ℕ} {b : List ℕ} (s : List ℕ) (at i : ℕ) → i < 8 → at + i < length s → k ≡ at + i
    → b ≡ paste (replicate 8 0) 0 (drop at s) i → set b i (get_or s k 0) ≡ paste (replicate 8 0) 0 (drop at s) (i + 1)
next s at i h j e p =
    one_more (replicate 8 0) 0 (drop at s) i (rw zero-add h) (rw length-drop (omega arith)) (sym (zero-add i)) (ap (λ (n : ℕ). get_or s n 0) e ∙ sym (get_or-drop at s i 0)) p

-- and behind the last the number is the field
number : {b : List ℕ} (w : ℕ) (s : List ℕ) (at i : ℕ) → w ≤ 8 → at + w ≤ length s → i ≡ w
    → b ≡ paste (replicate 8 0) 0 (drop at s) i → from_le_bytes w64 b ≡ field w s at
number w s at i h k e p =
    rw (p, e)
    (ap (λ (n : ℕ). from_le_bytes w64 (take w (drop at s) ++ drop n (replicate 8 0))) (zero-add w)
    ∙ field_padded w (take w (drop at s)) s at h k refl)

pub loop-i-preserved : goal.loop-i-preserved
loop-i-preserved g c =
    next c.args.part.now c.args.at c.loop-i.i (omega (arith, g.met.N.Number.at_most_8)) (omega arith) (omega arith) c.loop-i.invariant

pub returns : goal.returns
returns g c =
    let w = g.N.Number.BYTES in
    let n : c.from_le_bytes.result ≡ field w c.args.part.now c.args.at =
    c.from_le_bytes.ensures ∙ number w c.args.part.now c.args.at c.loop-i.i g.met.N.Number.at_most_8 c.requires (omega arith) c.loop-i.invariant in
    omega (arith, n, c.from_u64.ensures)

pub from_u64-requires : goal.from_u64-requires
from_u64-requires g c =
    let w = g.N.Number.BYTES in
    let n : c.from_le_bytes.result ≡ field w c.args.part.now c.args.at =
    c.from_le_bytes.ensures ∙ number w c.args.part.now c.args.at c.loop-i.i g.met.N.Number.at_most_8 c.requires (omega arith) c.loop-i.invariant in
    omega (arith, n, field_fits w c.args.part.now c.args.at (λ i. omega (arith, c.type_inv.part i)))
