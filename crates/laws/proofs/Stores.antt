-- Laws of runs of stores: two runs are one, by `sets_append`; all others follow from it and the library's `sets-eq`.
use mathlib.Core.Path.{◌≡◌, refl, ◌∙◌}
use mathlib.Core.List.{List, [], ◌∷◌, ◌++◌, append_assoc, append-nil}
use Prim.Native.Nat.{ℕ, suc, ◌+◌, ◌-◌, ◌≤◌, ◌<◌}
use native.Mathlib.Nat.{zero-add, add-zero, add-suc, suc-add}
use native.Mathlib.Numerals.{add-one}
use native.Mathlib.Omega.{arith}
use lib.ListN.{length, get_or, take, drop, set, length-append, length-drop}
use lib.Seq.{sets, sets-eq, length-sets, take_all, drop-drop, length-take-le, take-suc, drop-length}
use Rattle.laws.specs.Parts.{part, with_part}
use Rattle.laws.specs.Stores.{Wrote}
use Rattle.laws.proofs.Parts.{part_mid}

-- two runs of stores, one after the other, are one
pub sets_append : (d : List ℕ) (i : ℕ) (xs ys : List ℕ) → sets (sets d i xs) (i + length xs) ys ≡ sets d i (xs ++ ys)
sets_append d i [] ys = rw add-zero
sets_append d i (x ∷ xs) ys = rw (add-suc i (length xs), ← suc-add i (length xs)) (sets_append (set d i x) (suc i) xs ys)

-- the same where the first run's length is a number n
pub sets_next : (d : List ℕ) (i n : ℕ) (xs ys : List ℕ) → length xs ≡ n → sets (sets d i xs) (i + n) ys ≡ sets d i (xs ++ ys)
sets_next d i n xs ys h = rw (← h) (sets_append d i xs ys)

-- four runs of stores, each a number of places from the first
pub sets_four : (d : List ℕ) {d₁ d₂ d₃ d₄ : List ℕ} (i k l m : ℕ) (a b c e : List ℕ) → length a ≡ k → length a + length b ≡ l → length a + length b + length c ≡ m
    → d₁ ≡ sets d i a → d₂ ≡ sets d₁ (i + k) b → d₃ ≡ sets d₂ (i + l) c → d₄ ≡ sets d₃ (i + m) e → d₄ ≡ sets d i (a ++ (b ++ (c ++ e)))
sets_four d i k l m a b c e x y z p q r s =
    s ∙ rw (r, q, p)
    (rw (sets_next d i k a b x)
    (rw (sets_next d i l (a ++ b) c (rw length-append y))
    (rw (sets_next d i m (a ++ b ++ c) e (rw (length-append, length-append) z))
    (simp append_assoc))))

-- the rest of a list, as a part that starts in the middle
pub rest_part : (k : ℕ) (s : List ℕ) → take (length s - k) (drop k s) ≡ drop k s
rest_part k s = take_all (length s - k) (drop k s) (rw length-drop (omega arith))

-- a run of stores that fits is another part, and what was stored is there
module _ (d xs : List ℕ) (i : ℕ) (fits : i + length xs ≤ length d) where
  pub sets_with_part : sets d i xs ≡ with_part i (length xs) d xs
  sets_with_part = sets-eq xs d i fits ∙ simp (append_assoc, drop-drop)

  pub part_sets : part i (length xs) (sets d i xs) ≡ xs
  part_sets = rw sets_with_part (part_mid (take i d) xs (drop (length xs) (drop i d)) i (length xs) (length-take-le i d (omega arith)) refl)

pub take_sets : (d xs : List ℕ) → length xs ≤ length d → take (length xs) (sets d 0 xs) ≡ xs
take_sets d xs h = part_sets d xs 0 (rw zero-add h)

-- nothing written; one run of stores; one run of bytes after another
pub wrote_none : (d : List ℕ) (at : ℕ) → Wrote d d at at []
wrote_none d at = record { next = omega arith; whole = refl }

pub wrote_sets : {d e : List ℕ} (at n : ℕ) (xs : List ℕ) → length xs ≡ n → e ≡ sets d at xs → Wrote d e at (at + n) xs
wrote_sets at n xs h e = record { next = rw h; whole = e }

pub wrote_append : {d e f : List ℕ} {at m r : ℕ} (xs ys : List ℕ) → Wrote d e at m xs → Wrote e f m r ys → Wrote d f at r (xs ++ ys)
wrote_append {d} {at = at} xs ys p q = record {
  next = rw length-append (omega arith);
  whole = q.whole ∙ rw (p.whole, p.next) (sets_append d at xs ys);
}

-- writing leaves the length
pub wrote_length : {d e : List ℕ} {at r : ℕ} {xs : List ℕ} → Wrote d e at r xs → length e ≡ length d
wrote_length {d} {at = at} {xs = xs} p = rw p.whole (length-sets d at xs)

-- one more of a run of stores
pub sets_take : (d : List ℕ) (at i : ℕ) (xs : List ℕ) → i < length xs → set (sets d at (take i xs)) (at + i) (get_or xs i 0) ≡ sets d at (take (i + 1) xs)
sets_take d at i xs h =
    rw (add-one i, take-suc xs i 0 h) (sets_next d at i (take i xs) (get_or xs i 0 ∷ []) (length-take-le i xs (omega arith)))

-- a run of stores as long as the list is all that is left of it
pub sets_whole : (d xs : List ℕ) → length xs ≡ length d → sets d 0 xs ≡ xs
sets_whole d xs h = sets_with_part d xs 0 (omega arith) ∙ rw (h, drop-length d) (append-nil xs)

-- five words are stored one after the other
pub five_stored : (l : List ℕ) (at a b c d e : ℕ) → at + 5 ≤ length l → set (set (set (set (set l at a) (at + 1) b) (at + 2) c) (at + 3) d) (at + 4) e ≡ with_part at 5 l (a ∷ b ∷ c ∷ d ∷ e ∷ [])
five_stored l at a b c d e h =
    let n₁ : at + 1 ≡ suc at = omega arith in
    let n₂ : at + 2 ≡ suc (suc at) = omega arith in
    let n₃ : at + 3 ≡ suc (suc (suc at)) = omega arith in
    let n₄ : at + 4 ≡ suc (suc (suc (suc at))) = omega arith in
    rw (n₁, n₂, n₃, n₄) (sets_with_part l (a ∷ b ∷ c ∷ d ∷ e ∷ []) at h)
