-- The ledger, seen as what is pending to one stream, and what a step makes of that view.
use Prim.Native.Nat.{ℕ}
use mathlib.Core.Path.{◌≡◌, refl, sym, ap, ap₂, ◌∙◌}
use mathlib.Core.Bool.{Bool, true, false, cond, not, ◌&&◌}
use Rattle.std.specs.Prelude.{Option, None, Some}
use mathlib.Core.List.{List, [], ◌∷◌, ◌++◌, map, map-append}
use lib.Dec.{eqb}
use borrow.Author.Tests.{eqb-true}
use Rattle.laws.specs.Lists.{keep}
use Rattle.laws.specs.Ascending.{insert_by}
use Rattle.laws.proofs.Lists.{decide, eqb_same, keep_ext, keep_keep, keep_append, keep_comm, keep_ascending, keep_const, map_keep, map_insert_by}
use Rattle.model.specs.Device.{QueueType, input, output, Buffer, buffer}
use Rattle.model.specs.Frames.{queue_number}
use Rattle.model.specs.Steps.{Act}
use Rattle.model.specs.Ledger.{noted, Awaited, to_buffer, to_drain, Pending, Ledger, step_stream, step_ticket, awaited_by, pending, adds, is_buffer_of, is_drain, resource_in, completes, completed_by, by_number, awaits, in_order, ledger_after, completed}
use Rattle.model.proofs.Slots.{by_res}

-- the Queued buffers of each queue by ascending resource, and the tickets of drains
pub record View : Type 0 where
  pub queued : QueueType → List Buffer
  pub drains : List ℕ

abbrev pub awaited_timestamp : Awaited → ℕ
awaited_timestamp (to_buffer q r ts) = ts
awaited_timestamp to_drain = 0

abbrev pub awaited_buffer : Pending → Buffer
awaited_buffer p = buffer (resource_in p.awaited) p.ticket (awaited_timestamp p.awaited)

abbrev number : Pending → ℕ
number p = resource_in p.awaited

abbrev pub buffers_in : QueueType → List Pending → List Buffer
buffers_in q l = map awaited_buffer (by_number (keep (awaits (is_buffer_of (queue_number q))) l))

abbrev pub tickets_in : List Pending → List ℕ
tickets_in = map (λ (p : Pending). p.ticket)

-- of the pending answers to one stream
unfoldable pub view_of : List Pending → View
view_of l = record { queued = λ q. buffers_in q l; drains = tickets_in (keep (awaits is_drain) l) }

abbrev pub is_to : ℕ → Pending → Bool
is_to n p = eqb p.stream n

abbrev pub view_at : ℕ → Ledger → View
view_at n l = view_of (keep (is_to n) l)

-- the part of a view that passes a test
abbrev pub pick : (Awaited → Bool) → View → View
pick t v = record { queued = λ q. keep (λ i. t (to_buffer (queue_number q) i.resource i.timestamp)) (v.queued q); drains = cond (t to_drain) v.drains [] }

-- one pending answer more
abbrev pub more : Option Awaited → ℕ → View → View
more None t v = v
more (Some (to_buffer qt r ts)) t v = record { queued = λ q. cond (eqb qt (queue_number q)) (insert_by by_res (buffer r t ts) (v.queued q)) (v.queued q); drains = v.drains }
more (Some to_drain) t v = record { queued = v.queued; drains = t ∷ v.drains }

abbrev pub buffer_tickets : List Buffer → List ℕ
buffer_tickets = map (λ (i : Buffer). i.ticket)

abbrev pub tickets_of : View → List ℕ
tickets_of v = buffer_tickets (v.queued input) ++ (buffer_tickets (v.queued output) ++ v.drains)

-- a test of a queue's pending answers, seen through their buffers
same_on_numbers : (qt : ℕ) (t : Awaited → Bool) (w : Awaited) → (is_buffer_of qt w && t w) ≡ (is_buffer_of qt w && t (to_buffer qt (resource_in w) (awaited_timestamp w)))
same_on_numbers qt t (to_buffer q r ts) = decide (eqb q qt) (λ e. ap (λ (x : ℕ). eqb q qt && t (to_buffer x r ts)) (eqb-true q qt e)) (λ e. simp e)
same_on_numbers qt t to_drain = refl

same_drain : (t : Awaited → Bool) (w : Awaited) → (is_drain w && t w) ≡ (is_drain w && t to_drain)
same_drain t (to_buffer q r ts) = refl
same_drain t to_drain = refl

abbrev on_buffer : ℕ → (Awaited → Bool) → Buffer → Bool
on_buffer qt t i = t (to_buffer qt i.resource i.timestamp)

buffers_pick : (q : QueueType) (t : Awaited → Bool) (l : List Pending) → buffers_in q (keep (awaits t) l) ≡ keep (on_buffer (queue_number q) t) (buffers_in q l)
buffers_pick q t l =
    let qt = queue_number q in
    let mine = awaits (is_buffer_of qt) in
    ap (λ (x : List Pending). map awaited_buffer (by_number x))
    (keep_comm mine (awaits t) l
    ∙ keep_keep (awaits t) mine l
    ∙ keep_ext (λ p. is_buffer_of qt p.awaited && t p.awaited) (λ p. is_buffer_of qt p.awaited && on_buffer qt t (awaited_buffer p)) (λ p. same_on_numbers qt t p.awaited) l
    ∙ sym (keep_keep (λ p. on_buffer qt t (awaited_buffer p)) mine l))
    ∙ ap (map awaited_buffer) (sym (keep_ascending number (λ p. on_buffer qt t (awaited_buffer p)) (keep mine l)))
    ∙ map_keep awaited_buffer number by_res (λ p. refl) (λ p. on_buffer qt t (awaited_buffer p)) (on_buffer qt t) (λ p. refl) (by_number (keep mine l))

drains_pick : (t : Awaited → Bool) (l : List Pending) → tickets_in (keep (awaits is_drain) (keep (awaits t) l)) ≡ cond (t to_drain) (tickets_in (keep (awaits is_drain) l)) []
drains_pick t l =
    ap tickets_in
    (keep_comm (awaits is_drain) (awaits t) l
    ∙ keep_keep (awaits t) (awaits is_drain) l
    ∙ keep_ext (λ p. is_drain p.awaited && t p.awaited) (λ p. is_drain p.awaited && t to_drain) (λ p. same_drain t p.awaited) l
    ∙ sym (keep_keep (λ p. t to_drain) (awaits is_drain) l)
    ∙ keep_const (t to_drain) (keep (awaits is_drain) l))
    ∙ decide (t to_drain) (λ e. simp e) (λ e. simp e)

pub view_pick : (t : Awaited → Bool) (l : List Pending) → view_of (keep (awaits t) l) ≡ pick t (view_of l)
unfolding view_of
view_pick t l = λ i. record { queued = λ q. buffers_pick q t l i; drains = drains_pick t l i }

-- the tickets of pending answers in the order of their answers

tickets_buffers : (l : List Pending) → buffer_tickets (map awaited_buffer l) ≡ tickets_in l
tickets_buffers [] = refl
tickets_buffers (p ∷ l) = ap (λ r. p.ticket ∷ r) (tickets_buffers l)

tickets_in_order : (l : List Pending) → tickets_in (in_order l) ≡ tickets_of (view_of l)
unfolding in_order view_of
tickets_in_order l = simp (map-append, tickets_buffers)

view_more : (k t n : ℕ) (w : Option Awaited) (l : List Pending) → view_of (pending k t n w ++ l) ≡ more w t (view_of l)
unfolding view_of
view_more k t n None l = refl
view_more k t n (Some (to_buffer qt r ts)) l = λ i. record { queued = λ q. here q i; drains = tickets_in (keep (awaits is_drain) l) }
  where
    new : Pending
    new = record { step_number = k; ticket = t; stream = n; awaited = to_buffer qt r ts }

    here : (q : QueueType) → buffers_in q (new ∷ l) ≡ cond (eqb qt (queue_number q)) (insert_by by_res (buffer r t ts) (buffers_in q l)) (buffers_in q l)
    here q = decide (eqb qt (queue_number q)) (λ e. simp e (map_insert_by awaited_buffer number by_res (λ p. refl) new (by_number (keep (awaits (is_buffer_of (queue_number q))) l)))) (λ e. simp e)
view_more k t n (Some to_drain) l = refl

to_own : (k t n : ℕ) (w : Option Awaited) → keep (is_to n) (pending k t n w) ≡ pending k t n w
to_own k t n None = refl
to_own k t n (Some w) = simp (eqb_same n)

to_other : (k t n m : ℕ) (w : Option Awaited) → eqb n m ≡ false → keep (is_to m) (pending k t n w) ≡ []
to_other k t n m None h = refl
to_other k t n m (Some w) h = simp h

left : (x y : Bool) → (not (x && y) && x) ≡ (x && not y)
left true true = refl
left true false = refl
left false y = refl

-- what a step leaves pending, and the tickets that it completes, in the view of its own stream
abbrev pub view_after : (Awaited → Bool) → Option Awaited → ℕ → Bool → View → View
view_after p w t acc v = cond acc (more w t (pick (λ x. not (p x)) v)) v

abbrev pub tickets_completed : (Awaited → Bool) → Bool → View → List ℕ
tickets_completed p acc v = cond acc (tickets_of (pick p v)) []

pub view_own : (k : ℕ) (a : Act) (z acc : Bool) (l : Ledger)
    → view_at (step_stream a) (ledger_after (noted k a z acc) l) ≡ view_after (completes a) (awaited_by a) (step_ticket a) acc (view_at (step_stream a) l)
view_own k a z false l = refl
view_own k a z true l =
    let n = step_stream a in
    ap view_of
    (keep_append (is_to n) (adds k a) (keep (λ p. not (completed_by a p)) l)
    ∙ ap₂ (λ (x y : List Pending). x ++ y) (to_own k (step_ticket a) n (awaited_by a))
    (keep_keep (is_to n) (λ p. not (completed_by a p)) l
    ∙ keep_ext (λ p. not (completed_by a p) && is_to n p) (λ p. is_to n p && not (completes a p.awaited)) (λ p. left (is_to n p) (completes a p.awaited)) l
    ∙ sym (keep_keep (λ p. not (completes a p.awaited)) (is_to n) l)))
    ∙ view_more k (step_ticket a) n (awaited_by a) (keep (λ p. not (completes a p.awaited)) (keep (is_to n) l))
    ∙ ap (more (awaited_by a) (step_ticket a)) (view_pick (λ w. not (completes a w)) (keep (is_to n) l))

pub tickets_completed_lem : (k : ℕ) (a : Act) (z acc : Bool) (l : Ledger) → tickets_in (completed (noted k a z acc) l) ≡ tickets_completed (completes a) acc (view_at (step_stream a) l)
tickets_completed_lem k a z false l = refl
tickets_completed_lem k a z true l =
    tickets_in_order (keep (completed_by a) l)
    ∙ ap (λ (x : List Pending). tickets_of (view_of x)) (sym (keep_keep (λ p. completes a p.awaited) (is_to (step_stream a)) l))
    ∙ ap tickets_of (view_pick (completes a) (keep (is_to (step_stream a)) l))

left_alone : (x y z : Bool) → (x ≡ true → z ≡ false) → (not (x && y) && z) ≡ z
left_alone true true true h = sym (h refl)
left_alone true true false h = refl
left_alone true false z h = refl
left_alone false y z h = refl

-- another stream's view stays
pub view_other : (k m : ℕ) (a : Act) (z acc : Bool) (l : Ledger) → eqb (step_stream a) m ≡ false → view_at m (ledger_after (noted k a z acc) l) ≡ view_at m l
view_other k m a z false l h = refl
view_other k m a z true l h =
    ap view_of
    (keep_append (is_to m) (adds k a) (keep (λ p. not (completed_by a p)) l)
    ∙ ap₂ (λ (x y : List Pending). x ++ y) (to_other k (step_ticket a) (step_stream a) m (awaited_by a) h)
    (keep_keep (is_to m) (λ p. not (completed_by a p)) l
    ∙ keep_ext (λ p. not (completed_by a p) && is_to m p) (is_to m)
    (λ p. left_alone (is_to (step_stream a) p) (completes a p.awaited) (is_to m p) (λ e. ap (λ (x : ℕ). eqb x m) (eqb-true p.stream (step_stream a) e) ∙ h)) l))
