-- A queue's slots: what is Queued after each change, that numbers stay distinct, and that no slot goes.
use Prim.Native.Nat.{ℕ, suc, ◌≤◌}
use native.Mathlib.Omega.{arith}
use mathlib.Core.Path.{◌≡◌, refl, sym, ap, ◌∙◌}
use mathlib.Core.Bool.{Bool, true, false, cond, not}
use Rattle.std.specs.Prelude.{None, Some}
use mathlib.Core.List.{List, [], ◌∷◌}
use lib.ListN.{length}
use lib.Dec.{eqb}
use borrow.Author.Tests.{eqb-true}
use Rattle.laws.specs.Lists.{keep}
use Rattle.laws.specs.Ascending.{insert_by}
use Rattle.model.specs.Device.{State, created, queued, dequeued, Slot, free, resource, Buffer, buffer, queued_in, by_resource, buffer_of, present, add_resource, set_state, stop_all, free_all}
use Rattle.laws.proofs.Tests.{never}
use Rattle.laws.proofs.Lists.{decide, eqb_sym, insert_by_comm}

abbrev pub by_res : Buffer → ℕ
by_res i = i.resource

abbrev pub Distinct : List Slot → Type 0
Distinct [] = Unit {0}
Distinct (free ∷ s) = Distinct s
Distinct (resource m p ∷ s) = (present m s ≡ false) × Distinct s

pub queued_stop : (s : List Slot) → queued_in (stop_all s) ≡ []
queued_stop [] = refl
queued_stop (free ∷ s) = queued_stop s
queued_stop (resource m created ∷ s) = queued_stop s
queued_stop (resource m (queued t ts) ∷ s) = queued_stop s
queued_stop (resource m dequeued ∷ s) = queued_stop s

pub queued_free : (s : List Slot) → queued_in (free_all s) ≡ []
queued_free [] = refl
queued_free (p ∷ s) = queued_free s

pub queued_add : (r : ℕ) (s : List Slot) → queued_in (add_resource r s) ≡ queued_in s
queued_add r [] = refl
queued_add r (free ∷ s) = refl
queued_add r (resource m created ∷ s) = queued_add r s
queued_add r (resource m (queued t ts) ∷ s) = ap (λ l. buffer m t ts ∷ l) (queued_add r s)
queued_add r (resource m dequeued ∷ s) = queued_add r s

abbrev pub is_res : ℕ → Buffer → Bool
is_res r i = eqb i.resource r

pub queued_finish : (r : ℕ) (s : List Slot) → queued_in (set_state r dequeued s) ≡ keep (λ i. not (is_res r i)) (queued_in s)
queued_finish r [] = refl
queued_finish r (free ∷ s) = queued_finish r s
queued_finish r (resource m created ∷ s) = decide (eqb m r) (λ e. simp e (queued_finish r s)) (λ e. simp e (queued_finish r s))
queued_finish r (resource m (queued t ts) ∷ s) = decide (eqb m r) (λ e. simp e (queued_finish r s)) (λ e. simp (e, queued_finish r s))
queued_finish r (resource m dequeued ∷ s) = decide (eqb m r) (λ e. simp e (queued_finish r s)) (λ e. simp e (queued_finish r s))

-- the Queued buffer of a number after a finish of another, or of its own
pub buffer_finish : (m r : ℕ) (s : List Slot) → buffer_of r (queued_in (set_state m dequeued s)) ≡ cond (eqb m r) None (buffer_of r (queued_in s))
buffer_finish m r s = ap (buffer_of r) (queued_finish m s) ∙ of (queued_in s)
  where
    of : (l : List Buffer) → buffer_of r (keep (λ i. not (is_res m i)) l) ≡ cond (eqb m r) None (buffer_of r l)
    of [] = decide (eqb m r) (λ e. simp e) (λ e. simp e)
    of (i ∷ l) =
        decide (eqb i.resource m)
        (λ e. decide (eqb m r) (λ f. simp (e, f) (of l ∙ simp f)) (λ f. simp (e, f, ap (λ (x : ℕ). eqb x r) (eqb-true i.resource m e)) (of l ∙ simp f)))
        (λ e. decide (eqb i.resource r)
        (λ f. simp (e, f, eqb_sym r m (ap (λ (x : ℕ). eqb x m) (sym (eqb-true i.resource r f)) ∙ e)))
        (λ f. simp (e, f) (of l)))

-- changes of two different numbers may be made in either order
pub set_commutes : (m r : ℕ) (p q : State) (s : List Slot) → eqb m r ≡ false → set_state r q (set_state m p s) ≡ set_state m p (set_state r q s)
set_commutes m r p q [] h = refl
set_commutes m r p q (free ∷ s) h = ap (λ l. free ∷ l) (set_commutes m r p q s h)
set_commutes m r p q (resource k x ∷ s) h =
    decide (eqb k m)
    (λ e. let other : eqb k r ≡ false = ap (λ (x : ℕ). eqb x r) (eqb-true k m e) ∙ h in simp (e, other, set_commutes m r p q s h))
    (λ e. simp (e, set_commutes m r p q s h))

-- a number that is absent

absent_tail : (r m : ℕ) (p : State) (s : List Slot) → present r (resource m p ∷ s) ≡ false → present r s ≡ false
absent_tail r m p s h = decide (eqb m r) (λ e. never (simp e at h)) (λ e. simp e at h)

absent_head : (r m : ℕ) (p : State) (s : List Slot) → present r (resource m p ∷ s) ≡ false → eqb m r ≡ false
absent_head r m p s h = decide (eqb m r) (λ e. never (simp e at h)) (λ e. e)

absent_keep : (r : ℕ) (s : List Slot) → present r s ≡ false → keep (is_res r) (queued_in s) ≡ []
absent_keep r [] h = refl
absent_keep r (free ∷ s) h = absent_keep r s h
absent_keep r (resource m created ∷ s) h = absent_keep r s (absent_tail r m created s h)
absent_keep r (resource m (queued t ts) ∷ s) h = simp (absent_head r m (queued t ts) s h) (absent_keep r s (absent_tail r m (queued t ts) s h))
absent_keep r (resource m dequeued ∷ s) h = absent_keep r s (absent_tail r m dequeued s h)

absent_set : (r : ℕ) (p : State) (s : List Slot) → present r s ≡ false → set_state r p s ≡ s
absent_set r p [] h = refl
absent_set r p (free ∷ s) h = ap (λ l. free ∷ l) (absent_set r p s h)
absent_set r p (resource m q ∷ s) h = simp (absent_head r m q s h, absent_set r p s (absent_tail r m q s h))

-- the Queued buffer of a number is the only one
pub queued_only : (r : ℕ) (i : Buffer) (s : List Slot) → Distinct s → buffer_of r (queued_in s) ≡ Some i → keep (is_res r) (queued_in s) ≡ i ∷ []
queued_only r i [] d h = cc
queued_only r i (free ∷ s) d h = queued_only r i s d h
queued_only r i (resource m created ∷ s) d h = queued_only r i s d.1 h
queued_only r i (resource m (queued t ts) ∷ s) d h =
    decide (eqb m r)
    (λ e. let same : Some (buffer m t ts) ≡ Some i = simp e at h in
    let is : buffer m t ts ≡ i = cc in
    simp (e, absent_keep r s (ap (λ x. present x s) (sym (eqb-true m r e)) ∙ d.0)) (ap (λ x. x ∷ []) is))
    (λ e. simp e (queued_only r i s d.1 (simp e at h)))
queued_only r i (resource m dequeued ∷ s) d h = queued_only r i s d.1 h

-- a queueing puts one buffer in its order
pub queued_more : (r t ts : ℕ) (s : List Slot) → Distinct s → present r s ≡ true → buffer_of r (queued_in s) ≡ None
    → by_resource (queued_in (set_state r (queued t ts) s)) ≡ insert_by by_res (buffer r t ts) (by_resource (queued_in s))
queued_more r t ts [] d p h = never (sym p)
queued_more r t ts (free ∷ s) d p h = queued_more r t ts s d p h
queued_more r t ts (resource m created ∷ s) d p h =
    decide (eqb m r)
    (λ e. simp (e, absent_set r (queued t ts) s (ap (λ x. present x s) (sym (eqb-true m r e)) ∙ d.0)) (ap (λ x. insert_by by_res (buffer x t ts) (by_resource (queued_in s))) (eqb-true m r e)))
    (λ e. simp e (queued_more r t ts s d.1 (simp e at p) h))
queued_more r t ts (resource m (queued t₀ ts₀) ∷ s) d p h =
    decide (eqb m r)
    (λ e. let z : Some (buffer m t₀ ts₀) ≡ None = simp e at h in cc)
    (λ e. simp (e, queued_more r t ts s d.1 (simp e at p) (simp e at h)) (insert_by_comm by_res (buffer m t₀ ts₀) (buffer r t ts) (by_resource (queued_in s)) e))
queued_more r t ts (resource m dequeued ∷ s) d p h =
    decide (eqb m r)
    (λ e. simp (e, absent_set r (queued t ts) s (ap (λ x. present x s) (sym (eqb-true m r e)) ∙ d.0)) (ap (λ x. insert_by by_res (buffer x t ts) (by_resource (queued_in s))) (eqb-true m r e)))
    (λ e. simp e (queued_more r t ts s d.1 (simp e at p) h))

-- numbers stay distinct

present_set : (k r : ℕ) (p : State) (s : List Slot) → present k (set_state r p s) ≡ present k s
present_set k r p [] = refl
present_set k r p (free ∷ s) = present_set k r p s
present_set k r p (resource m q ∷ s) = simp (present_set k r p s)

pub distinct_set : (r : ℕ) (p : State) (s : List Slot) → Distinct s → Distinct (set_state r p s)
distinct_set r p [] d = tt
distinct_set r p (free ∷ s) d = distinct_set r p s d
distinct_set r p (resource m q ∷ s) d = (present_set m r p s ∙ d.0, distinct_set r p s d.1)

present_stop : (k : ℕ) (s : List Slot) → present k (stop_all s) ≡ present k s
present_stop k [] = refl
present_stop k (free ∷ s) = present_stop k s
present_stop k (resource m q ∷ s) = simp (present_stop k s)

pub distinct_stop : (s : List Slot) → Distinct s → Distinct (stop_all s)
distinct_stop [] d = tt
distinct_stop (free ∷ s) d = distinct_stop s d
distinct_stop (resource m q ∷ s) d = (present_stop m s ∙ d.0, distinct_stop s d.1)

pub distinct_free : (s : List Slot) → Distinct (free_all s)
distinct_free [] = tt
distinct_free (p ∷ s) = distinct_free s

absent_add : (k r : ℕ) (s : List Slot) → eqb r k ≡ false → present k s ≡ false → present k (add_resource r s) ≡ false
absent_add k r [] h a = refl
absent_add k r (free ∷ s) h a = simp h a
absent_add k r (resource m q ∷ s) h a = simp (absent_head k m q s a) (absent_add k r s h (absent_tail k m q s a))

pub distinct_add : (r : ℕ) (s : List Slot) → Distinct s → present r s ≡ false → Distinct (add_resource r s)
distinct_add r [] d a = tt
distinct_add r (free ∷ s) d a = (a, d)
distinct_add r (resource m q ∷ s) d a = (absent_add m r s (eqb_sym m r (absent_head r m q s a)) d.0, distinct_add r s d.1 (absent_tail r m q s a))

-- No slot goes

pub length_set_state : (r : ℕ) (p : State) (s : List Slot) → length (set_state r p s) ≡ length s
length_set_state r p [] = refl
length_set_state r p (free ∷ s) = ap suc (length_set_state r p s)
length_set_state r p (resource m q ∷ s) = ap suc (length_set_state r p s)

pub length_stop : (s : List Slot) → length (stop_all s) ≡ length s
length_stop [] = refl
length_stop (free ∷ s) = ap suc (length_stop s)
length_stop (resource m q ∷ s) = ap suc (length_stop s)

pub length_free : (s : List Slot) → length (free_all s) ≡ length s
length_free [] = refl
length_free (p ∷ s) = ap suc (length_free s)

pub length_add : (r : ℕ) (s : List Slot) → length (add_resource r s) ≡ length s
length_add r [] = refl
length_add r (free ∷ s) = refl
length_add r (resource m q ∷ s) = ap suc (length_add r s)

-- no more is Queued than there are slots
pub queued_most : (s : List Slot) → length (queued_in s) ≤ length s
queued_most [] = omega arith
queued_most (free ∷ s) = omega (arith, queued_most s)
queued_most (resource m created ∷ s) = omega (arith, queued_most s)
queued_most (resource m (queued t ts) ∷ s) = omega (arith, queued_most s)
queued_most (resource m dequeued ∷ s) = omega (arith, queued_most s)
