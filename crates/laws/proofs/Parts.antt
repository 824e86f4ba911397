-- Laws of parts and of blocks of one length. Each is stated over the offset and the length.
use mathlib.Core.Path.{◌≡◌, refl, sym, ap, ap₂, ◌∙◌}
use mathlib.Core.Bool.{false}
use mathlib.Core.List.{List, ◌++◌, append_assoc, append-nil}
use Prim.Native.Nat.{ℕ, ◌+◌, ◌-◌, ◌<◌, ◌≤◌, min}
use native.Mathlib.Omega.{arith}
use lib.ListN.{replicate, length, take, drop, get_or, set, length-set, length-drop, length-replicate, get_or-replicate, replicate-append-replicate}
use lib.Dec.{ltb}
use lib.Seq.{drop-length, take_all, length-take-le, take-add, take_at, drop_at, take-append-le, drop-append-le, take-append-add, drop-append-add, slice}
use borrow.Author.Tests.{ltb-true, ltb-false}
use borrow.Author.Fill.{fill_more}
use Rattle.std.proofs.lemmas.List.{take-append-drop}
use Rattle.laws.specs.Lists.{is_empty}
use Rattle.laws.specs.Parts.{part, with_part, zeros}
use Rattle.laws.proofs.Tests.{ne_true}
use Rattle.laws.proofs.Lists.{decide, empty_is}

-- Zeros.
pub zero_length : (n : ℕ) → length (zeros n) ≡ n
unfolding zeros
zero_length n = length-replicate {A = ℕ} n 0

pub zero_at : (n i : ℕ) → i < n → get_or (zeros n) i 0 ≡ 0
unfolding zeros
zero_at n i h = get_or-replicate {A = ℕ} n i 0 0 h

pub zeros_append : (m n : ℕ) → zeros m ++ zeros n ≡ zeros (m + n)
unfolding zeros
zeros_append m n = replicate-append-replicate {A = ℕ} m n 0

-- A list that is being filled with zeros: the first i are there, and the rest is as it came.
pub record Zeroed (old s : List ℕ) (i : ℕ) : Type 0 where
  pub up_to : i ≤ length old
  pub front : s ≡ zeros i ++ drop i old
  pub as_long : length s ≡ length old

pub zeroed_none : (old : List ℕ) → Zeroed old old 0
unfolding zeros
zeroed_none old = record { up_to = omega arith; front = refl; as_long = refl }

pub zeroed_more : {old s : List ℕ} {i : ℕ} → Zeroed old s i → i < length s → Zeroed old (set s i 0) (i + 1)
unfolding zeros
zeroed_more {old} {s} {i} z h =
    let below : i < length old = omega (arith, z.as_long, h) in record {
      up_to = omega (arith, below);
      front = ap (λ (x : List ℕ). set x i 0) z.front ∙ fill_more i 0 old below;
      as_long = length-set s i 0 ∙ z.as_long;
    }

pub zeroed_all : {old s : List ℕ} {i : ℕ} → Zeroed old s i → length s ≤ i → s ≡ zeros (length old)
zeroed_all {old} {s} {i} z h =
    let end : i ≡ length old = omega (arith, z.up_to, z.as_long, h) in
    z.front ∙ rw (end, drop-length old) (append-nil (zeros (length old)))

-- what std's `fill` leaves
pub filled : {s : List ℕ} (n : ℕ) → s ≡ replicate n 0 → s ≡ zeros n
unfolding zeros
filled n e = e

-- a part that comes back as it was
pub part_back : (a n : ℕ) (l : List ℕ) → with_part a n l (part a n l) ≡ l
part_back a n l = rw (take-append-drop n (drop a l), take-append-drop a l)

-- The middle of three lists, and the three with another middle.
module _ (p m s : List ℕ) (a n : ℕ) (hp : length p ≡ a) (hm : length m ≡ n) where
  pub part_mid : part a n (p ++ (m ++ s)) ≡ m
  part_mid = rw (drop_at p (m ++ s) a hp, take_at m s n hm)

  pub with_part_mid : (ys : List ℕ) → with_part a n (p ++ (m ++ s)) ys ≡ p ++ (ys ++ s)
  with_part_mid ys = rw (take_at p (m ++ s) a hp, drop_at p (m ++ s) a hp, drop_at m s n hm)

-- A part of the first of two lists.
module _ (x y : List ℕ) (a n : ℕ) (h : a + n ≤ length x) where
  starts : a ≤ length x
  starts = omega arith

  ends : n ≤ length (drop a x)
  ends = omega (arith, length-drop a x)

  pub part_front : part a n (x ++ y) ≡ part a n x
  part_front = ap (take n) (drop-append-le a x y starts) ∙ take-append-le n (drop a x) y ends

  pub with_part_front : (ys : List ℕ) → with_part a n (x ++ y) ys ≡ with_part a n x ys ++ y
  with_part_front ys =
      ap₂ (λ (p q : List ℕ). p ++ (ys ++ q)) (take-append-le a x y starts)
      (ap (drop n) (drop-append-le a x y starts) ∙ drop-append-le n (drop a x) y ends)
      ∙ simp append_assoc

-- A part of what follows a head.
pub with_part_after : (p l : List ℕ) (a b n : ℕ) (ys : List ℕ) → length p ≡ a → with_part (a + b) n (p ++ l) ys ≡ p ++ with_part b n l ys
with_part_after p l a b n ys h = rw (← h) (rw (take-append-add, drop-append-add, append_assoc))

pub part_after : (p l : List ℕ) (a b n : ℕ) → length p ≡ a → part (a + b) n (p ++ l) ≡ part b n l
part_after p l a b n h = rw (← h) (rw drop-append-add)

-- The k words from a to e are lent, and come back as r: what the borrower says of the part it got, where that was p, and what the lender
-- then has.
pub lent : (a e k : ℕ) (l p r w ys : List ℕ) → e - a ≡ k → part a k l ≡ p → with_part a k l r ≡ w → (part a (e - a) l ≡ p → ys ≡ r) → with_part a (e - a) l ys ≡ w
lent a e k l p r w ys n h b f = rw (f (rw n h), n) b

-- from one place to another, as a part
pub slice_part : (a e : ℕ) (l : List ℕ) → a ≤ e → e ≤ length l → slice a e l ≡ part a (e - a) l
slice_part a e l h k =
    let n : e ≡ a + (e - a) = omega arith in
    ap (λ (m : ℕ). slice a m l) n
    ∙ ap (drop a) (take-add a (e - a) l)
    ∙ drop_at (take a l) (part a (e - a) l) a (length-take-le a l (omega arith))

-- no more is read of a list than it has
pub take_most : {r : ℕ} (n m : ℕ) (l : List ℕ) → r ≡ min n m → length l ≡ m → take r l ≡ take n l
take_most {r} n m l e h =
    decide (ltb m n)
    (λ f. let above = ltb-true m n f in take_all r l (omega arith) ∙ sym (take_all n l (omega arith)))
    (λ f. let below = ltb-false m n f in ap (λ (k : ℕ). take k l) (let same : r ≡ n = omega arith in same))

-- what is read is not empty where there is something to read
pub take_some : (n : ℕ) (l : List ℕ) → (n ≡ 0 → ⊥) → n ≤ length l → is_empty (take n l) ≡ false
take_some n l ne h = ne_true (is_empty (take n l)) (λ e. ne (sym (length-take-le n l h) ∙ ap length (empty_is (take n l) e)))
