-- What a search of the slots says in the model's own terms: for the functions above, which find a slot by its place and change it there.
use mathlib.Core.Path.{◌≡◌, refl, sym, ap, ◌∙◌}
use mathlib.Core.Bool.{true, false, not}
use Rattle.std.specs.Prelude.{Option, None, Some, is_some}
use mathlib.Core.List.{List, [], ◌∷◌}
use Prim.Native.Nat.{ℕ, zero, suc, ◌<◌, ◌≤◌}
use native.Mathlib.Nat.{le_of_suc-le-suc, not-suc-le-zero}
use native.Mathlib.Omega.{arith}
use lib.ListN.{length, set}
use lib.Dec.{eqb, ltb, leb}
use borrow.Author.Tests.{eqb-true, eq-eqb, ltb-false, le-leb}
use Rattle.laws.specs.Lists.{keep, all_of, is_none, to_list}
use Rattle.laws.specs.Ascending.{below, not_below, insert_by, ascending, sorted}
use Rattle.laws.proofs.Tests.{never, both, and_left}
use Rattle.laws.proofs.Lists.{decide, no_element, keep_comm, keep_ascending, ascending_next}
use Rattle.laws.proofs.Ascending.{ascending_sorted, length_ascending}
use Rattle.laws.proofs.Positions.{later_some, later_none, position_below, position_holds}
use Rattle.model.specs.Device.{State, created, queued, dequeued, Slot, free, resource, Buffer, buffer, queued_in, by_resource, buffer_of, present, no_slot, add_resource, set_state}
use Rattle.model.proofs.Slots.{Distinct, is_res, queued_only}
use Rattle.queue.specs.Search.{slot_at, is_resource, is_queued, number_in, ticket_in, timestamp_in, find_resource, find_free, slot_of_first, next_queued}
use Rattle.queue.proofs.Least.{key, nothing_below}

-- A resource in the slot at k

-- the Queued buffer in a slot
abbrev pub buffer_in : Slot → Option Buffer
buffer_in free = None
buffer_in (resource r created) = None
buffer_in (resource r (queued t ts)) = Some (buffer r t ts)
buffer_in (resource r dequeued) = None

queued_in_lem : (x : Slot) → is_queued x ≡ true → buffer_in x ≡ Some (buffer (number_in x) (ticket_in x) (timestamp_in x))
queued_in_lem free e = never (sym e)
queued_in_lem (resource r created) e = never (sym e)
queued_in_lem (resource r (queued t ts)) e = refl
queued_in_lem (resource r dequeued) e = never (sym e)

tail_absent : (r m : ℕ) (p : State) (s : List Slot) → present r (resource m p ∷ s) ≡ false → present r s ≡ false
tail_absent r m p s h = decide (eqb m r) (λ e. never (simp e at h)) (λ e. simp e at h)

buffer_other : (r m : ℕ) (p : State) (s : List Slot) → present r (resource m p ∷ s) ≡ false → eqb m r ≡ false
buffer_other r m p s h = decide (eqb m r) (λ e. never (simp e at h)) (λ e. e)

absent_set : (r : ℕ) (p : State) (s : List Slot) → present r s ≡ false → set_state r p s ≡ s
absent_set r p [] h = refl
absent_set r p (free ∷ s) h = ap (λ (l : List Slot). free ∷ l) (absent_set r p s h)
absent_set r p (resource m q ∷ s) h = simp (buffer_other r m q s h, absent_set r p s (tail_absent r m q s h))

pub absent_buffer : (r : ℕ) (s : List Slot) → present r s ≡ false → buffer_of r (queued_in s) ≡ None
absent_buffer r [] h = refl
absent_buffer r (free ∷ s) h = absent_buffer r s h
absent_buffer r (resource m created ∷ s) h = absent_buffer r s (tail_absent r m created s h)
absent_buffer r (resource m (queued t ts) ∷ s) h = simp (buffer_other r m (queued t ts) s h) (absent_buffer r s (tail_absent r m (queued t ts) s h))
absent_buffer r (resource m dequeued ∷ s) h = absent_buffer r s (tail_absent r m dequeued s h)

head_buffer : (r m : ℕ) (p : State) (s : List Slot) → m ≡ r → present m s ≡ false → buffer_of r (queued_in (resource m p ∷ s)) ≡ buffer_in (resource m p)
head_buffer r m created s e a = absent_buffer r s (ap (λ (n : ℕ). present n s) (sym e) ∙ a)
head_buffer r m (queued t ts) s e a = rw (eq-eqb m r e)
head_buffer r m dequeued s e a = absent_buffer r s (ap (λ (n : ℕ). present n s) (sym e) ∙ a)

module _ (r : ℕ) (q : State) where
  pub at_present : (k : ℕ) (s : List Slot) → k < length s → slot_at k s ≡ resource r q → present r s ≡ true
  at_present k [] h e = absurd (not-suc-le-zero h)
  at_present zero (x ∷ s) h e = rw e (rw (eq-eqb r r refl))
  at_present (suc k) (free ∷ s) h e = at_present k s (le_of_suc-le-suc h) e
  at_present (suc k) (resource m p ∷ s) h e = decide (eqb m r) (λ t. simp t) (λ t. simp t (at_present k s (le_of_suc-le-suc h) e))

  -- a slot before it holds another number
  number_before : (k : ℕ) (m : ℕ) (s : List Slot) → k < length s → slot_at k s ≡ resource r q → present m s ≡ false → eqb m r ≡ false
  number_before k m s h e a = decide (eqb m r) (λ t. never (sym (at_present k s h e) ∙ ap (λ (n : ℕ). present n s) (sym (eqb-true m r t)) ∙ a)) (λ t. t)

  pub at_set : (p : State) (k : ℕ) (s : List Slot) → Distinct s → k < length s → slot_at k s ≡ resource r q → set_state r p s ≡ set s k (resource r p)
  at_set p k [] d h e = absurd (not-suc-le-zero h)
  at_set p zero (free ∷ s) d h e = cc
  at_set p zero (resource m p₀ ∷ s) d h e =
      let same : m ≡ r = cc in
      rw (same, eq-eqb r r refl, absent_set r p s (ap (λ (n : ℕ). present n s) (sym same) ∙ d.0))
  at_set p (suc k) (free ∷ s) d h e = ap (λ (l : List Slot). free ∷ l) (at_set p k s d (le_of_suc-le-suc h) e)
  at_set p (suc k) (resource m p₀ ∷ s) d h e =
      rw (number_before k m s (le_of_suc-le-suc h) e d.0) (ap (λ (l : List Slot). resource m p₀ ∷ l) (at_set p k s d.1 (le_of_suc-le-suc h) e))

  pub at_buffer : (k : ℕ) (s : List Slot) → Distinct s → k < length s → slot_at k s ≡ resource r q → buffer_of r (queued_in s) ≡ buffer_in (resource r q)
  at_buffer k [] d h e = absurd (not-suc-le-zero h)
  at_buffer zero (free ∷ s) d h e = cc
  at_buffer zero (resource m p ∷ s) d h e = head_buffer r m p s (let same : m ≡ r = cc in same) d.0 ∙ ap buffer_in e
  at_buffer (suc k) (free ∷ s) d h e = at_buffer k s d (le_of_suc-le-suc h) e
  at_buffer (suc k) (resource m created ∷ s) d h e = at_buffer k s d.1 (le_of_suc-le-suc h) e
  at_buffer (suc k) (resource m (queued t ts) ∷ s) d h e =
      rw (number_before k m s (le_of_suc-le-suc h) e d.0) (at_buffer k s d.1 (le_of_suc-le-suc h) e)
  at_buffer (suc k) (resource m dequeued ∷ s) d h e = at_buffer k s d.1 (le_of_suc-le-suc h) e

-- The slot of a resource number

-- the slot at k is there and holds the resource r, in some state
pub record HasResource (r k : ℕ) (s : List Slot) : Type 0 where
  pub inside : k < length s
  pub state : State
  pub slot : slot_at k s ≡ resource r state

has_resource : (r k : ℕ) (s : List Slot) (x : Slot) → k < length s → slot_at k s ≡ x → is_resource r x ≡ true → HasResource r k s
has_resource r k s free h e t = never (sym t)
has_resource r k s (resource m p) h e t = record { inside = h; state = p; slot = e ∙ ap (λ (n : ℕ). resource n p) (eqb-true m r t) }

module _ (r k : ℕ) (s : List Slot) (found : find_resource r s ≡ Some k) where
  pub find_has : HasResource r k s
  find_has =
      has_resource r k s (slot_at k s) (position_below (is_resource r) free s (length s) refl k found) refl (position_holds (is_resource r) free s (length s) refl k found)

  pub find_present : present r s ≡ true
  find_present = at_present r find_has.state k s find_has.inside find_has.slot

  pub find_number : number_in (slot_at k s) ≡ r
  find_number = ap number_in find_has.slot

  pub find_set : Distinct s → (p : State) → set_state r p s ≡ set s k (resource r p)
  find_set d p = at_set r find_has.state p k s d find_has.inside find_has.slot

  pub find_buffer : Distinct s → buffer_of r (queued_in s) ≡ buffer_in (slot_at k s)
  find_buffer d = at_buffer r find_has.state k s d find_has.inside find_has.slot ∙ ap buffer_in (sym find_has.slot)

  -- the same by the tests and numbers that are read from the slot
  pub find_queued : Distinct s → is_none (buffer_of r (queued_in s)) ≡ not (is_queued (slot_at k s))
  find_queued d = ap is_none (find_buffer d) ∙ go (slot_at k s)
    where
      go : (x : Slot) → is_none (buffer_in x) ≡ not (is_queued x)
      go free = refl
      go (resource m created) = refl
      go (resource m (queued t ts)) = refl
      go (resource m dequeued) = refl

  pub find_ticket : Distinct s → is_queued (slot_at k s) ≡ true → buffer_of r (queued_in s) ≡ Some (buffer r (ticket_in (slot_at k s)) (timestamp_in (slot_at k s)))
  find_ticket d t = find_buffer d ∙ queued_in_lem (slot_at k s) t ∙ ap (λ (n : ℕ). Some (buffer n (ticket_in (slot_at k s)) (timestamp_in (slot_at k s)))) find_number

pub find_absent : (r : ℕ) (s : List Slot) → find_resource r s ≡ None → present r s ≡ false
find_absent r [] e = refl
find_absent r (free ∷ s) e = find_absent r s (later_none (find_resource r s) e)
find_absent r (resource m p ∷ s) e = decide (eqb m r) (λ t. let z : Some 0 ≡ None = simp t at e in cc) (λ t. simp t (find_absent r s (later_none (find_resource r s) (simp t at e))))

-- it is there where its slot is found
pub found_present : (r : ℕ) (s : List Slot) (o : Option ℕ) → o ≡ find_resource r s → is_some o ≡ present r s
found_present r s None e = sym (find_absent r s (sym e))
found_present r s (Some k) e = sym (find_present r k s (sym e))

-- The lowest free slot

pub free_room : (k : ℕ) (s : List Slot) → find_free s ≡ Some k → no_slot s ≡ false
free_room k [] e = cc
free_room k (free ∷ s) e = refl
free_room k (resource m p ∷ s) e = let w = later_some (find_free s) k e in free_room w.0 s w.1

pub free_add : (r k : ℕ) (s : List Slot) → find_free s ≡ Some k → add_resource r s ≡ set s k (resource r created)
free_add r k [] e = cc
free_add r k (free ∷ s) e = let z : 0 ≡ k = cc in rw (sym z)
free_add r k (resource m p ∷ s) e =
    let w = later_some (find_free s) k e in
    rw w.2 (ap (λ (l : List Slot). resource m p ∷ l) (free_add r w.0 s w.1))

pub free_none : (s : List Slot) → find_free s ≡ None → no_slot s ≡ true
free_none [] e = refl
free_none (free ∷ s) e = cc
free_none (resource m p ∷ s) e = free_none s (later_none (find_free s) e)

-- Whether any buffer is Queued, as a test over the places

-- The next Queued buffer

-- the slot at k holds the Queued buffer with the lowest number from `least` on, which stands before those with a higher number
pub record Next (least k : ℕ) (s : List Slot) : Type 0 where
  pub inside : k < length s
  pub is_queued_lem : is_queued (slot_at k s) ≡ true
  pub slot : slot_at k s ≡ resource (number_in (slot_at k s)) (queued (ticket_in (slot_at k s)) (timestamp_in (slot_at k s)))
  pub from : least ≤ number_in (slot_at k s)
  pub order : keep (not_below (λ (i : Buffer). i.resource) least) (by_resource (queued_in s))
      ≡ buffer (number_in (slot_at k s)) (ticket_in (slot_at k s)) (timestamp_in (slot_at k s)) ∷ keep (not_below (λ (i : Buffer). i.resource) (suc (number_in (slot_at k s)))) (by_resource (queued_in s))

-- what is known of a slot with a Queued buffer
record Queues (x : Slot) (b : Buffer) : Type 0 where
  pub is_queued_lem : is_queued x ≡ true
  pub slot : x ≡ resource (number_in x) (queued (ticket_in x) (timestamp_in x))
  pub buffer_is : b ≡ buffer (number_in x) (ticket_in x) (timestamp_in x)

queues : (x : Slot) (b : Buffer) → buffer_in x ≡ Some b → Queues x b
queues free b e = absurd (let z : ◌≡◌ {A = ℕ} 0 1 = cc in omega arith)
queues (resource r created) b e = absurd (let z : ◌≡◌ {A = ℕ} 0 1 = cc in omega arith)
queues (resource r (queued t ts)) b e = record { is_queued_lem = refl; slot = refl; buffer_is = let is : b ≡ buffer r t ts = cc in is }
queues (resource r dequeued) b e = absurd (let z : ◌≡◌ {A = ℕ} 0 1 = cc in omega arith)

none_kept : (m : ℕ) (l : List Buffer) → buffer_of m l ≡ None → keep (is_res m) l ≡ []
none_kept m [] e = refl
none_kept m (x ∷ l) e = decide (eqb (key x) m) (λ t. let z : Some x ≡ None = simp t at e in cc) (λ t. simp t (none_kept m l (simp t at e)))

one_sorted : (o : Option Buffer) → ascending key (to_list o) ≡ to_list o
unfolding insert_by
one_sorted None = refl
one_sorted (Some x) = refl

empty_sorted : (l : List Buffer) → ascending key l ≡ [] → l ≡ []
empty_sorted l e = no_element l (sym (length_ascending key l) ∙ ap length e)

module _ (least : ℕ) (s : List Slot) (d : Distinct s) where
  -- the Queued buffers from `least` on
  left : List Buffer
  left = keep (not_below key least) (by_resource (queued_in s))

  only : (m : ℕ) → keep (is_res m) (queued_in s) ≡ to_list (buffer_of m (queued_in s))
  only m = go (buffer_of m (queued_in s)) refl
    where
      go : (o : Option Buffer) → buffer_of m (queued_in s) ≡ o → keep (is_res m) (queued_in s) ≡ to_list o
      go None e = none_kept m (queued_in s) e
      go (Some x) e = queued_only m x s d e

  -- those of one number among them
  of_number : (m : ℕ) → keep (is_res m) left ≡ keep (not_below key least) (to_list (buffer_of m (queued_in s)))
  unfolding left
  of_number m =
      keep_comm (is_res m) (not_below key least) (by_resource (queued_in s))
      ∙ ap (keep (not_below key least)) (keep_ascending key (is_res m) (queued_in s) ∙ ap (ascending key) (only m) ∙ one_sorted (buffer_of m (queued_in s)))

  module _ (b : Buffer) (rest : List Buffer) (e : left ≡ b ∷ rest) where
    -- the first of them is the buffer of its number, and from `least` on
    first_is : (buffer_of (key b) (queued_in s) ≡ Some b) × (least ≤ key b)
    unfolding not_below
    first_is = go (buffer_of (key b) (queued_in s)) refl
      where
        mine : keep (is_res (key b)) left ≡ b ∷ keep (is_res (key b)) rest
        mine = rw (e, eq-eqb (key b) (key b) refl)

        go : (o : Option Buffer) → buffer_of (key b) (queued_in s) ≡ o → (buffer_of (key b) (queued_in s) ≡ Some b) × (least ≤ key b)
        go None h = absurd (let q : [] ≡ b ∷ keep (is_res (key b)) rest = sym (of_number (key b) ∙ ap (λ (o : Option Buffer). keep (not_below key least) (to_list o)) h) ∙ mine in let z : ◌≡◌ {A = ℕ} 0 1 = cc in omega arith)
        go (Some x) h =
            let q : keep (not_below key least) (x ∷ []) ≡ b ∷ keep (is_res (key b)) rest = sym (of_number (key b) ∙ ap (λ (o : Option Buffer). keep (not_below key least) (to_list o)) h) ∙ mine in
            decide (ltb (key x) least)
            (λ t. absurd (let p : [] ≡ b ∷ keep (is_res (key b)) rest = simp t at q in let z : ◌≡◌ {A = ℕ} 0 1 = cc in omega arith))
            (λ t. let p : x ∷ [] ≡ b ∷ keep (is_res (key b)) rest = simp t at q in
            let is : x ≡ b = cc in
            (h ∙ ap Some is, rw is at (ltb-false (key x) least t)))

    sorted_left : sorted key left ≡ true
    unfolding left
    sorted_left = ap (sorted key) (keep_ascending key (not_below key least) (queued_in s)) ∙ ascending_sorted key (keep (not_below key least) (queued_in s))

    skipped : keep (not_below key least) (keep (below key (key b)) (queued_in s)) ≡ []
    unfolding left
    skipped =
        let high : all_of (λ y. leb (key b) (key y)) rest ≡ true = and_left (all_of (λ y. leb (key b) (key y)) rest) (sorted key rest) (ap (sorted key) (sym e) ∙ sorted_left) in
        let low : keep (below key (key b)) left ≡ [] = ap (keep (below key (key b))) e ∙ nothing_below (key b) (b ∷ rest) (key b) (omega arith) (both (le-leb (key b) (key b) (omega arith)) high) in
        keep_comm (not_below key least) (below key (key b)) (queued_in s)
        ∙ empty_sorted (keep (below key (key b)) (keep (not_below key least) (queued_in s)))
        (sym (ap (keep (below key (key b))) (keep_ascending key (not_below key least) (queued_in s)) ∙ keep_ascending key (below key (key b)) (keep (not_below key least) (queued_in s))) ∙ low)

    in_order : left ≡ b ∷ keep (not_below key (suc (key b))) (by_resource (queued_in s))
    unfolding left
    in_order = ascending_next key (queued_in s) least b first_is.1 (queued_only (key b) b s d first_is.0) skipped

  pub next_found : (k : ℕ) → next_queued least s ≡ Some k → Next least k s
  unfolding next_queued left
  next_found k found = go left refl found
    where
      go : (l : List Buffer) → left ≡ l → slot_of_first l s ≡ Some k → Next least k s
      go [] e f = absurd (let z : ◌≡◌ {A = ℕ} 0 1 = cc in omega arith)
      go (b ∷ rest) e f =
          let x = slot_at k s in
          let w = queues x b (sym (find_buffer (key b) k s f d) ∙ (first_is b rest e).0) in
          let number : key b ≡ number_in x = ap key w.buffer_is in
          record {
            inside = (find_has (key b) k s f).inside;
            is_queued_lem = w.is_queued_lem;
            slot = w.slot;
            from = rw number at (first_is b rest e).1;
            order = in_order b rest e ∙ rw w.buffer_is;
          }

  pub next_missed : next_queued least s ≡ None → keep (not_below (λ (i : Buffer). i.resource) least) (by_resource (queued_in s)) ≡ []
  unfolding next_queued left
  next_missed missed = go left refl missed
    where
      go : (l : List Buffer) → left ≡ l → slot_of_first l s ≡ None → left ≡ []
      go [] e f = e
      go (b ∷ rest) e f =
          let z : Some b ≡ None = sym (first_is b rest e).0 ∙ absent_buffer (key b) s (find_absent (key b) s f) in
          cc
