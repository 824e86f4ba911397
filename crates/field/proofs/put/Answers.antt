-- `field::put` meets its contract: the first of the library's 8 bytes are stored, by `sets_first`.
use mathlib.Core.Path.{◌≡◌, refl, sym, ap, ◌∙◌}
use mathlib.Core.List.{List, ◌++◌, append_assoc}
use Prim.Native.Nat.{ℕ, ◌+◌, ◌≤◌}
use native.Mathlib.Omega.{arith}
use lib.ListN.{length, take, drop}
use lib.Seq.{sets, paste, drop-drop}
use Rattle.std.specs.Int.{w64, to_le_bytes}
use Rattle.field.specs.Field.{little_endian}
use Rattle.field.proofs.Laws.{one_more, sets_first}
use Rattle.field.proofs.put.Goals as goal

-- behind the last byte the number's bytes stand there; `all` is what the library gave the bytes of
stored : {all i : ℕ} {bytes out : List ℕ} (w : ℕ) (d : List ℕ) (at n : ℕ) → w ≤ 8 → at + w ≤ length d → bytes ≡ to_le_bytes w64 all → all ≡ n
    → i ≡ w → out ≡ paste d at bytes i → out ≡ sets d at (little_endian w n)
stored w d at n h k f e j p =
    let bytes : List ℕ = take w (to_le_bytes w64 n) in
    p ∙ rw (j, f, e)
    (append_assoc (take at d) bytes (drop (at + w) d)
    ∙ ap (λ (rest : List ℕ). take at d ++ (bytes ++ rest)) (sym (drop-drop w at d))
    ∙ sets_first w bytes d at n h k refl)

pub loop-i-preserved : goal.loop-i-preserved
loop-i-preserved g c =
    one_more c.args.out.now c.args.at c.to_le_bytes-bytes.result c.loop-i.i (omega arith) (omega (arith, g.met.N.Number.at_most_8)) (omega arith) refl c.loop-i.invariant

pub returns : goal.returns
returns g c =
    stored g.N.Number.BYTES c.args.out.now c.args.at (g.N.Number.value c.args.n) g.met.N.Number.at_most_8 c.requires
    c.to_le_bytes-bytes.ensures (omega (arith, g.met.N.Number.into_value c.args.n c.into-all.result c.into-all.ensures)) (omega arith) c.loop-i.invariant
