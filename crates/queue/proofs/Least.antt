-- Laws of the lowest number of the Queued buffers, for a loop from the last slot to the first, and of the slot that has it.
use mathlib.Core.Path.{◌≡◌, refl, sym, ap, ◌∙◌}
use mathlib.Core.Bool.{true, false, cond}
use Rattle.std.specs.Prelude.{Option, None, Some}
use mathlib.Core.List.{List, [], ◌∷◌}
use Prim.Native.Nat.{ℕ, ◌+◌, ◌<◌, ◌≤◌}
use native.Mathlib.Omega.{arith}
use lib.ListN.{length, drop, drop_of_length-le}
use lib.Dec.{ltb, leb}
use borrow.Author.Tests.{ltb-true, ltb-false, lt-ltb, le-ltb, leb-true}
use Rattle.laws.specs.Lists.{keep, all_of}
use Rattle.laws.specs.Ascending.{below, not_below, insert_by, ascending, sorted}
use Rattle.laws.proofs.Tests.{and_left, and_right}
use Rattle.laws.proofs.Lists.{decide, keep_ascending}
use Rattle.laws.proofs.Ascending.{ascending_sorted}
use Rattle.model.specs.Device.{Slot, Buffer, buffer, queued_in, by_resource}
use Rattle.queue.specs.Search.{slot_at, is_queued, number_in, ticket_in, timestamp_in, find_resource, slot_of_first, next_queued}
use Rattle.queue.specs.Lowest.{number_of_first, lowest_queued}
use Rattle.queue.proofs.Finds.{queued_here, queued_later}

abbrev pub key : Buffer → ℕ
key i = i.resource

-- the lower of a number and of one that may be there
abbrev pub lower_of : ℕ → Option ℕ → Option ℕ
lower_of m None = Some m
lower_of m (Some n) = cond (ltb m n) (Some m) (Some n)

pub nothing_below : (k : ℕ) (l : List Buffer) (n : ℕ) → k ≤ n → all_of (λ y. leb n (key y)) l ≡ true → keep (below key k) l ≡ []
unfolding below
nothing_below k [] n h e = refl
nothing_below k (y ∷ l) n h e =
    let high = leb-true n (key y) (and_left (leb n (key y)) (all_of (λ y. leb n (key y)) l) e) in
    rw (le-ltb (key y) k (omega arith)) (nothing_below k l n h (and_right (leb n (key y)) (all_of (λ y. leb n (key y)) l) e))

-- the first of a sorted list into which x is put
insert_first : (x : Buffer) (l : List Buffer) → sorted key l ≡ true → number_of_first (insert_by key x l) ≡ lower_of (key x) (number_of_first l)
unfolding insert_by below not_below
insert_first x [] e = refl
insert_first x (y ∷ l) e =
    decide (ltb (key y) (key x))
    (λ t. rw (t, le-ltb (key x) (key y) (omega (arith, ltb-true (key y) (key x) t))))
    (λ t. let high = ltb-false (key y) (key x) t in
    let rest : keep (λ z. ltb (key z) (key x)) l ≡ [] = nothing_below (key x) l (key y) high (and_left (all_of (λ z. leb (key y) (key z)) l) (sorted key l) e) in
    rw (t, rest)
    (decide (ltb (key x) (key y)) (λ u. rw u) (λ u. rw u (let same : key x ≡ key y = omega (arith, ltb-false (key x) (key y) u) in ap Some same))))

lowest : ℕ → List Buffer → Option ℕ
lowest k l = number_of_first (keep (not_below key k) (by_resource l))

lowest_skip : (k : ℕ) (x : Buffer) (l : List Buffer) → key x < k → lowest k (x ∷ l) ≡ lowest k l
unfolding lowest not_below
lowest_skip k x l h =
    let skipped : keep (not_below key k) (x ∷ l) ≡ keep (not_below key k) l = rw (lt-ltb (key x) k h) in
    ap number_of_first (keep_ascending key (not_below key k) (x ∷ l) ∙ ap (ascending key) skipped ∙ sym (keep_ascending key (not_below key k) l))

lowest_take : (k : ℕ) (x : Buffer) (l : List Buffer) → k ≤ key x → lowest k (x ∷ l) ≡ lower_of (key x) (lowest k l)
unfolding lowest not_below
lowest_take k x l h =
    let taken : keep (not_below key k) (x ∷ l) ≡ x ∷ keep (not_below key k) l = rw (le-ltb (key x) k h) in
    ap number_of_first (keep_ascending key (not_below key k) (x ∷ l) ∙ ap (ascending key) taken)
    ∙ insert_first x (ascending key (keep (not_below key k) l)) (ascending_sorted key (keep (not_below key k) l))
    ∙ ap (λ (m : List Buffer). lower_of (key x) (number_of_first m)) (sym (keep_ascending key (not_below key k) l))

-- behind the last slot there is none
pub lowest_end : (k : ℕ) (s : List Slot) (i : ℕ) → length s ≤ i → None ≡ lowest_queued k (drop i s)
unfolding lowest_queued
lowest_end k s i h = ap (λ (l : List Slot). number_of_first (keep (not_below key k) (by_resource (queued_in l)))) (sym (drop_of_length-le s {i = i} h))

pub lower_stays : (m n : ℕ) → n ≤ m → lower_of m (Some n) ≡ Some n
lower_stays m n h = rw (le-ltb m n h)

pub lower_takes : (m n : ℕ) → m < n → lower_of m (Some n) ≡ Some m
lower_takes m n h = rw (lt-ltb m n h)

-- One slot more: o is the lowest number behind slot i

module _ (k : ℕ) (s : List Slot) (i : ℕ) (h : i < length s) (o : Option ℕ) (e : o ≡ lowest_queued k (drop (i + 1) s)) where
  pub lowest_other : is_queued (slot_at i s) ≡ false → o ≡ lowest_queued k (drop i s)
  unfolding lowest_queued
  lowest_other t = e ∙ ap (λ (l : List Buffer). number_of_first (keep (not_below key k) (by_resource l))) (sym (queued_later s i h t))

  module _ (t : is_queued (slot_at i s) ≡ true) where
    here : lowest_queued k (drop i s) ≡ lowest k (buffer (number_in (slot_at i s)) (ticket_in (slot_at i s)) (timestamp_in (slot_at i s)) ∷ queued_in (drop (i + 1) s))
    unfolding lowest_queued lowest
    here = ap (λ (l : List Buffer). number_of_first (keep (not_below key k) (by_resource l))) (queued_here s i h t)

    behind : lowest k (queued_in (drop (i + 1) s)) ≡ o
    unfolding lowest_queued lowest
    behind = sym e

    pub lowest_below_lem : number_in (slot_at i s) < k → o ≡ lowest_queued k (drop i s)
    lowest_below_lem b = sym (here ∙ lowest_skip k _ (queued_in (drop (i + 1) s)) b ∙ behind)

    pub lowest_lower : k ≤ number_in (slot_at i s) → lower_of (number_in (slot_at i s)) o ≡ lowest_queued k (drop i s)
    lowest_lower b = sym (here ∙ lowest_take k _ (queued_in (drop (i + 1) s)) b ∙ ap (lower_of (number_in (slot_at i s))) behind)

-- The slot with the lowest number

first_slot_lem : (l : List Buffer) (s : List Slot) (m : ℕ) → number_of_first l ≡ Some m → slot_of_first l s ≡ find_resource m s
first_slot_lem [] s m e = cc
first_slot_lem (x ∷ l) s m e = let same : key x ≡ m = cc in ap (λ (n : ℕ). find_resource n s) same

no_slot_lem : (l : List Buffer) (s : List Slot) → number_of_first l ≡ None → slot_of_first l s ≡ None
no_slot_lem [] s e = refl
no_slot_lem (x ∷ l) s e = cc

pub next_at : (k : ℕ) (s : List Slot) (m : ℕ) → lowest_queued k s ≡ Some m → next_queued k s ≡ find_resource m s
unfolding lowest_queued next_queued
next_at k s m e = first_slot_lem (keep (not_below key k) (by_resource (queued_in s))) s m e

pub next_none : (k : ℕ) (s : List Slot) → lowest_queued k s ≡ None → next_queued k s ≡ None
unfolding lowest_queued next_queued
next_none k s e = no_slot_lem (keep (not_below key k) (by_resource (queued_in s))) s e
