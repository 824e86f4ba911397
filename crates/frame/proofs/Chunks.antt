-- The chunks of a slice: `chunks_exact` gives the pieces of a list, but what is left of less than one.
use mathlib.Core.Path.{◌≡◌, sym, ap, ◌∙◌}
use mathlib.Core.List.{List, ◌++◌}
use Prim.Native.Nat.{ℕ, zero, suc, ◌+◌, ◌*◌, ◌≤◌, ◌<◌}
use native.Mathlib.Omega.{arith}
use lib.ListN.{length, take, drop, length-append, length-drop}
use lib.Seq.{take-append_seam, drop-append_seam}
use Rattle.std.specs.declared.slice.ChunksExact.{ChunksExact}
use Rattle.std.specs.Iterator.{AlwaysYields}
use Rattle.std.specs.Slice.Iter.{chunks_exact_rest, chunks_exact_size, chunks_exact_steps}
use Rattle.std.proofs.lemmas.Iterator.{YieldsList}
use Rattle.laws.specs.Parts.{read_pieces}

module _ {A : Type 0} (w : ℕ) (some : 0 < w) where
  -- a chunk and what follows it are a list's first piece and the others
  front : (l x r : List A) → l ≡ x ++ r → length x ≡ w → (x ≡ take w l) × (r ≡ drop w l)
  front l x r e n =
      let t : take w l ≡ x = rw (e, ← n) (take-append_seam x r) in
      let d : drop w l ≡ r = rw (e, ← n) (drop-append_seam x r) in
      (sym t, sym d)

  gives : (k : ℕ) (s : ChunksExact A) (l : List A) → chunks_exact_rest s ≡ l → chunks_exact_size s ≡ w → w * k ≤ length l → length l < w * k + w →
      AlwaysYields chunks_exact_steps (λ y. y.now) s (read_pieces (λ x. x) w k l)
  unfolding read_pieces
  gives zero s l r z h b = λ x j e.
      let t : length l ≡ length (x.now ++ chunks_exact_rest j) = ap length (sym r ∙ e.1.0) in
      omega (arith, t, length-append x.now (chunks_exact_rest j), e.1.1)
  gives (suc k) s l r z h b = (
    λ j e. omega (arith, e.1.0, ap length r),
    λ x j e.
        let f = front l x.now (chunks_exact_rest j) (sym r ∙ e.1.0) (e.1.1 ∙ z) in
        (f.0, gives k j (drop w l) (f.1) (e.0 ∙ z) (simp length-drop (omega arith)) (simp length-drop (omega arith))),
  )

  pub YieldsList-from_chunks_exact : (k : ℕ) {s : ChunksExact A} (l : List A) → chunks_exact_rest s ≡ l → chunks_exact_size s ≡ w → w * k ≤ length l → length l < w * k + w →
      YieldsList chunks_exact_steps (λ y. y.now) s (read_pieces (λ x. x) w k l)
  YieldsList-from_chunks_exact k l r z h b = record { runs = gives k _ l r z h b }
