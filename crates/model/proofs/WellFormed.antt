-- A step leaves a well-formed device well formed.
use mathlib.Core.Path.{◌≡◌, refl, sym, ap, ◌∙◌, subst}
use mathlib.Core.Bool.{Bool, true, false, not, ◌&&◌, and-false, or-true}
use Rattle.std.specs.Prelude.{Option, None, Some}
use mathlib.Core.List.{List, [], ◌∷◌}
use Prim.Native.Nat.{ℕ, suc, ◌^◌, ◌<◌}
use native.Mathlib.Omega.{arith}
use lib.ListN.{length}
use lib.Dec.{eqb, ltb}
use borrow.Author.Tests.{lt-ltb, ltb-true, eqb-true, eq-eqb, not-true, not-false}
use Rattle.laws.specs.Tests.{within}
use Rattle.laws.specs.Lists.{all_of, is_none}
use Rattle.laws.proofs.Tests.{never, both, and_left, and_right}
use Rattle.laws.proofs.Lists.{decide, cond_elim, eqb_sym, none_is, all_implied}
use Rattle.laws.proofs.InOrder.{tests_cases, tests_all}
use Rattle.field.specs.Field.{field}
use Rattle.model.specs.Numbers.{stream_places, queue_slots, stream_numbers, first_coded, last_coded, header_bytes}
use Rattle.model.specs.Device.{QueueType, input, output, is_input, State, created, queued, dequeued, Slot, free, resource, Queue, Stream, Place, vacant, occupied, Device, fresh, new_queue, new_stream, queue_of, with_queue, with_drain, with_slots, present, add_resource, set_state, stopped, stop_all, free_all, record_of, no_place, place, replace, install, put_record, is_spent, spend, is_new, spent_after, put_back}
use Rattle.model.specs.Frames.{QueueCommand, create_resource, queue_resource, destroy_all, clear, get_parameters, set_parameters, LiveCommand, word, stream_id, coded_format, resource_id, timestamp_sent}
use Rattle.model.specs.Replies.{Reply, Request, fail}
use Rattle.model.specs.Commands.{Surroundings, on_create, without_ended, on_destroy, on_drain, on_create_resource, on_queue, on_destroy_all, on_clear, on_get, good_extent, bad_extent, on_set, on_queue_of, on_live, on_command}
use Rattle.model.specs.Reports.{has_eos}
use Rattle.model.specs.Steps.{Act, command, finish, drained, stream_of, serve, DeviceReply, around}
use Rattle.model.specs.WellFormed.{u8, u32, u64, good_state, good_slot, distinct_slots, good_slots, good_queue, good_drain, good_stream, good_place, distinct_places, good_places, spent_in, good_spent, well_formed, good_act}
use Rattle.model.specs.Promises.{StaysWellFormed}
use Rattle.field.proofs.Laws.{field_below}
use Rattle.model.proofs.Slots.{Distinct, distinct_set, distinct_stop, distinct_free, distinct_add, length_set_state, length_stop, length_free, length_add}
use Rattle.model.proofs.Origins.{command_cases, live_cases, finish_cases, drained_cases, step_cases}
use Rattle.model.proofs.Places.{alone, alone_head, alone_tail, replace_other, replace_absent, install_other, all_record, all_put}
use Rattle.model.proofs.Spent.{spend_same, spend_keeps}
use Rattle.model.proofs.Seen.{NotAgain, serve_next, next_of, after_length}

-- Numbers in frames

pub word_u32 : (f : List ℕ) (at : ℕ) → all_of u8 f ≡ true → u32 (word f at) ≡ true
unfolding u8 u32
word_u32 f at h = lt-ltb (word f at) (2 ^ 32) (field_below 4 f at h)

pub field_u64 : (f : List ℕ) (at : ℕ) → all_of u8 f ≡ true → u64 (field 8 f at) ≡ true
unfolding u8 u64
field_u64 f at h = lt-ltb (field 8 f at) (2 ^ 64) (field_below 8 f at h)

-- Slots

pub distinct_of : (s : List Slot) → distinct_slots s ≡ true → Distinct s
distinct_of [] h = tt
distinct_of (free ∷ s) h = distinct_of s h
distinct_of (resource m p ∷ s) h = (not-true _ (and_left (not (present m s)) _ h), distinct_of s (and_right (not (present m s)) _ h))

pub of_distinct : (s : List Slot) → Distinct s → distinct_slots s ≡ true
of_distinct [] d = refl
of_distinct (free ∷ s) d = of_distinct s d
of_distinct (resource m p ∷ s) d = both (ap not d.0) (of_distinct s d.1)

pub record GoodSlots (s : List Slot) : Type 0 where
  pub size : length s ≡ queue_slots
  pub each : all_of good_slot s ≡ true
  pub apart : Distinct s

slots_are : (s : List Slot) → good_slots s ≡ true → GoodSlots s
slots_are s h =
    let r = and_right (eqb (length s) queue_slots) _ h in
    record {
      size = eqb-true _ _ (and_left (eqb (length s) queue_slots) _ h);
      each = and_left (all_of good_slot s) _ r;
      apart = distinct_of s (and_right (all_of good_slot s) _ r);
    }

are_slots : (s : List Slot) → GoodSlots s → good_slots s ≡ true
are_slots s g = both (eq-eqb (length s) queue_slots g.size) (both g.each (of_distinct s g.apart))

each_set : (r : ℕ) (p : State) (s : List Slot) → good_state p ≡ true → all_of good_slot s ≡ true → all_of good_slot (set_state r p s) ≡ true
each_set r p [] g h = refl
each_set r p (free ∷ s) g h = each_set r p s g h
each_set r p (resource m q ∷ s) g h =
    let old = and_left (u32 m && good_state q) _ h in
    both (both (and_left (u32 m) _ old) (cond_elim (λ x. good_state x ≡ true) (eqb m r) (λ _. g) (λ _. and_right (u32 m) _ old)))
    (each_set r p s g (and_right (u32 m && good_state q) _ h))

slots_set : (r : ℕ) (p : State) (s : List Slot) → good_state p ≡ true → GoodSlots s → GoodSlots (set_state r p s)
slots_set r p s h g = record { size = length_set_state r p s ∙ g.size; each = each_set r p s h g.each; apart = distinct_set r p s g.apart }

stopped_good : (q : State) → good_state (stopped q) ≡ true
stopped_good created = refl
stopped_good (queued t ts) = refl
stopped_good dequeued = refl

each_stop : (s : List Slot) → all_of good_slot s ≡ true → all_of good_slot (stop_all s) ≡ true
each_stop [] h = refl
each_stop (free ∷ s) h = each_stop s h
each_stop (resource m q ∷ s) h =
    both (both (and_left (u32 m) _ (and_left (u32 m && good_state q) _ h)) (stopped_good q)) (each_stop s (and_right (u32 m && good_state q) _ h))

slots_stop : (s : List Slot) → GoodSlots s → GoodSlots (stop_all s)
slots_stop s g = record { size = length_stop s ∙ g.size; each = each_stop s g.each; apart = distinct_stop s g.apart }

each_free : (s : List Slot) → all_of good_slot (free_all s) ≡ true
each_free [] = refl
each_free (p ∷ s) = each_free s

slots_free : (s : List Slot) → GoodSlots s → GoodSlots (free_all s)
slots_free s g = record { size = length_free s ∙ g.size; each = each_free s; apart = distinct_free s }

each_add : (r : ℕ) (s : List Slot) → u32 r ≡ true → all_of good_slot s ≡ true → all_of good_slot (add_resource r s) ≡ true
each_add r [] g h = refl
each_add r (free ∷ s) g h = both (both g refl) h
each_add r (resource m q ∷ s) g h = both (and_left (u32 m && good_state q) _ h) (each_add r s g (and_right (u32 m && good_state q) _ h))

slots_add : (r : ℕ) (s : List Slot) → u32 r ≡ true → present r s ≡ false → GoodSlots s → GoodSlots (add_resource r s)
slots_add r s h a g = record { size = length_add r s ∙ g.size; each = each_add r s h g.each; apart = distinct_add r s g.apart a }

-- Queues and records

pub record GoodQueue (q : Queue) : Type 0 where
  pub slots : GoodSlots q.slots
  pub width : bad_extent q.width ≡ false
  pub height : bad_extent q.height ≡ false
  pub rate : u32 q.rate ≡ true

pub record GoodStream (b : Stream) : Type 0 where
  pub format : within b.format first_coded last_coded ≡ true
  pub draining : good_drain b.draining ≡ true
  pub inputs : GoodQueue b.inputs
  pub outputs : GoodQueue b.outputs

abbrev pub GoodSelf : Option Stream → Type 0
GoodSelf None = Unit {0}
GoodSelf (Some b) = GoodStream b

queue_is : (q : Queue) → good_queue q ≡ true → GoodQueue q
queue_is q h =
    let w = good_extent q.width in
    let v = good_extent q.height in
    let r₁ = and_right (good_slots q.slots) _ h in
    let r₂ = and_right w _ r₁ in
    record {
      slots = slots_are q.slots (and_left (good_slots q.slots) _ h);
      width = ap not (and_left w _ r₁);
      height = ap not (and_left v _ r₂);
      rate = and_right v _ r₂;
    }

is_queue : (q : Queue) → GoodQueue q → good_queue q ≡ true
is_queue q g = both (are_slots q.slots g.slots) (both (not-false (good_extent q.width) g.width) (both (not-false (good_extent q.height) g.height) g.rate))

pub stream_is : (b : Stream) → good_stream b ≡ true → GoodStream b
stream_is b h =
    let r₁ = and_right (within b.format first_coded last_coded) _ h in
    let r₂ = and_right (good_drain b.draining) _ r₁ in
    record {
      format = and_left (within b.format first_coded last_coded) _ h;
      draining = and_left (good_drain b.draining) _ r₁;
      inputs = queue_is b.inputs (and_left (good_queue b.inputs) _ r₂);
      outputs = queue_is b.outputs (and_right (good_queue b.inputs) _ r₂);
    }

is_stream_lem : (b : Stream) → GoodStream b → good_stream b ≡ true
is_stream_lem b g = both g.format (both g.draining (both (is_queue b.inputs g.inputs) (is_queue b.outputs g.outputs)))

pub good_queue_of : (q : QueueType) (b : Stream) → GoodStream b → GoodQueue (queue_of q b)
good_queue_of input b g = g.inputs
good_queue_of output b g = g.outputs

good_with : (t : QueueType) (q : Queue) (b : Stream) → GoodStream b → GoodQueue q → GoodStream (with_queue t q b)
good_with input q b g h = record { format = g.format; draining = g.draining; inputs = h; outputs = g.outputs }
good_with output q b g h = record { format = g.format; draining = g.draining; inputs = g.inputs; outputs = h }

good_drain_lem : (d : Option ℕ) (b : Stream) → GoodStream b → good_drain d ≡ true → GoodStream (with_drain d b)
good_drain_lem d b g h = record { format = g.format; draining = h; inputs = g.inputs; outputs = g.outputs }

-- other slots in a queue, whether the drain ends or not
good_slots_lem : (ends : Bool) (t : QueueType) (s : List Slot) (b : Stream) → GoodStream b → GoodSlots s → GoodStream (with_queue t (with_slots s (queue_of t b)) (without_ended ends b))
good_slots_lem ends t s b g h =
    let o = good_queue_of t b g in
    good_with t _ _ (left ends) (record { slots = h; width = o.width; height = o.height; rate = o.rate })
  where
    left : (e : Bool) → GoodStream (without_ended e b)
    left true = good_drain_lem None b g refl
    left false = g

good_new : (v : ℕ) → within v first_coded last_coded ≡ true → GoodStream (new_stream v)
unfolding u32 within
good_new v h = record { format = h; draining = refl; inputs = q; outputs = q }
  where
    q : GoodQueue new_queue
    q = record { slots = record { size = refl; each = refl; apart = tt }; width = refl; height = refl; rate = refl }

-- Steps of one stream

abbrev GoodNext : Reply → Type 0
GoodNext v = GoodSelf v.next

module _ (c : Request) (b : Stream) (self : c.self ≡ Some b) (g : GoodStream b) (t : u32 c.ticket ≡ true) (m : all_of u8 c.frame ≡ true) where
  same_queue : GoodSelf c.self
  same_queue = subst GoodSelf (sym self) g

  changed_good : (k : QueueCommand) (q : QueueType) → GoodNext (on_queue_of k c b q)
  unfolding on_create_resource on_queue on_destroy_all on_clear on_get on_set
  changed_good create_resource q =
      tests_cases GoodNext (fail c) _ (λ e. same_queue) (λ h₁ h₂ h₃ h₄ h₅ h₆ h₇.
      good_slots_lem false q _ b g (slots_add (resource_id c.frame) (queue_of q b).slots (word_u32 c.frame 12 m) h₆ (good_queue_of q b g).slots))
  changed_good queue_resource q =
      tests_all GoodNext (fail c) _ (λ e. same_queue)
      (good_slots_lem false q _ b g (slots_set (resource_id c.frame) (queued c.ticket (timestamp_sent c.frame)) (queue_of q b).slots
      (both t (field_u64 c.frame 16 m)) (good_queue_of q b g).slots))
  changed_good destroy_all q = tests_all GoodNext (fail c) _ (λ e. same_queue) (good_slots_lem false q _ b g (slots_free (queue_of q b).slots (good_queue_of q b g).slots))
  changed_good clear q = good_slots_lem (is_input q) q _ b g (slots_stop (queue_of q b).slots (good_queue_of q b g).slots)
  changed_good get_parameters q = same_queue
  changed_good set_parameters q =
      tests_cases GoodNext (fail c) _ (λ e. same_queue) (λ h₁ h₂ h₃ h₄.
      good_with q _ b g (record { slots = (good_queue_of q b g).slots; width = h₂; height = h₃; rate = word_u32 c.frame 48 m }))

  live_good : (k : LiveCommand) → GoodNext (on_live k c b)
  unfolding on_destroy on_drain
  live_good = live_cases GoodNext c b (λ e. same_queue) tt (tests_all GoodNext (fail c) _ (λ e. same_queue) (good_drain_lem (Some c.ticket) b g t)) changed_good

command_good : (around : Surroundings) (c : Request) → GoodSelf c.self → u32 c.ticket ≡ true → all_of u8 c.frame ≡ true → GoodNext (on_command around c)
unfolding on_create
command_good around c g t m =
    command_cases GoodNext around c (λ e. g)
    (λ e. tests_cases GoodNext (fail c) _ (λ x. g) (λ h₁ h₂ h₃ h₄ h₅. good_new (coded_format c.frame) (not-false _ h₃)))
    (λ k b e. live_good c b e (subst GoodSelf e g) t m k)

pub serve_good : (around : Surroundings) (n : ℕ) (self : Option Stream) (a : Act) → GoodSelf self → good_act a ≡ true → GoodSelf (serve around n self a).next
unfolding serve
serve_good around n self (command t f) g m =
    command_good around (record { stream = n; ticket = t; frame = f; self = self }) g (and_left (u32 t) _ m) (and_right (u32 t) _ m)
serve_good around n self (finish k qt r flags ts) g m =
    finish_cases GoodNext n qt r flags ts self g g
    (λ b q i h. let s : GoodStream b = subst GoodSelf h.self_is g in
    good_slots_lem (has_eos flags) q _ b s (slots_set r dequeued (queue_of q b).slots refl (good_queue_of q b s).slots))
serve_good around n self (drained k) g m =
    drained_cases GoodNext n self g (λ b t h. good_drain_lem None b (subst GoodSelf h.self_is g) refl)

-- Places

pub record GoodPlaces (ps : List Place) : Type 0 where
  pub size : length ps ≡ stream_places
  pub each : all_of good_place ps ≡ true
  pub apart : distinct_places ps ≡ true

pub places_are : (ps : List Place) → good_places ps ≡ true → GoodPlaces ps
places_are ps h =
    let r = and_right (eqb (length ps) stream_places) _ h in
    record {
      size = eqb-true _ _ (and_left (eqb (length ps) stream_places) _ h);
      each = and_left (all_of good_place ps) _ r;
      apart = and_right (all_of good_place ps) _ r;
    }

are_places : (ps : List Place) → GoodPlaces ps → good_places ps ≡ true
are_places ps g = both (eq-eqb (length ps) stream_places g.size) (both g.each g.apart)

-- the places of a well-formed device
pub well_places : (d : Device) → well_formed d ≡ true → GoodPlaces d.places
unfolding well_formed
well_places d h = places_are d.places (and_left (good_places d.places) _ h)

-- and its spent numbers
pub record GoodSpent (ps : List Place) (s : List Bool) : Type 0 where
  pub size : length s ≡ stream_numbers
  pub each : all_of (spent_in s) ps ≡ true

pub well_spent : (d : Device) → well_formed d ≡ true → GoodSpent d.places d.spent
unfolding well_formed
well_spent d h =
    let g = and_right (good_places d.places) _ h in
    record { size = eqb-true _ _ (and_left (eqb (length d.spent) stream_numbers) _ g); each = and_right (eqb (length d.spent) stream_numbers) _ g }

-- so that no creation may take the number of a live stream
pub not_again_lem : (n : ℕ) (d : Device) → well_formed d ≡ true → NotAgain (around d n) (record_of n d.places)
not_again_lem n d h = of (record_of n d.places) (all_record (spent_in d.spent) n refl d.places (well_spent d h).each)
  where
    of : (r : Option Stream) → spent_in d.spent (place n r) ≡ true → NotAgain (around d n) r
    of None e = tt
    of (Some b) e = let live : is_spent n d.spent ≡ true = e in simp (live, or-true (not (ltb n stream_numbers)))

self_is : (n : ℕ) (r : Option Stream) → good_place (place n r) ≡ true → GoodSelf r
self_is n None h = tt
self_is n (Some b) h = stream_is b (and_right (u32 n) _ h)

is_self : (n : ℕ) (r : Option Stream) → u32 n ≡ true → GoodSelf r → good_place (place n r) ≡ true
is_self n None u g = refl
is_self n (Some b) u g = both u (is_stream_lem b g)

pub well_record : (n : ℕ) (d : Device) → well_formed d ≡ true → GoodSelf (record_of n d.places)
well_record n d h = self_is n (record_of n d.places) (all_record good_place n refl d.places (well_places d h).each)

module _ (n : ℕ) (r : Option Stream) where
  length_replace : (ps : List Place) → length (replace n r ps) ≡ length ps
  length_replace [] = refl
  length_replace (vacant ∷ ps) = ap suc (length_replace ps)
  length_replace (occupied m b ∷ ps) = ap suc (length_replace ps)

  length_install : (ps : List Place) → length (install n r ps) ≡ length ps
  length_install [] = refl
  length_install (vacant ∷ ps) = refl
  length_install (occupied m b ∷ ps) = ap suc (length_install ps)

  length_put : (ps : List Place) → length (put_record n r ps) ≡ length ps
  unfolding put_record
  length_put ps = cond_elim (λ (x : List Place). length x ≡ length ps) (is_none (record_of n ps)) (λ _. length_install ps) (λ _. length_replace ps)

apart_replace : (n : ℕ) (r : Option Stream) (ps : List Place) → distinct_places ps ≡ true → distinct_places (replace n r ps) ≡ true
apart_replace n r [] h = refl
apart_replace n r (vacant ∷ ps) h = apart_replace n r ps h
apart_replace n r (occupied m b ∷ ps) h =
    let here = alone_head m b ps h in
    let rest = alone_tail m b ps h in
    decide (eqb m n)
    (λ e. simp e (taken r (subst (λ (x : ℕ). is_none (record_of x ps) ≡ true) (eqb-true m n e) here) rest))
    (λ e. simp e (alone m b (replace n r ps) (ap is_none (replace_other m n r ps (eqb_sym m n e)) ∙ here) (apart_replace n r ps rest)))
  where
    taken : (x : Option Stream) → is_none (record_of n ps) ≡ true → distinct_places ps ≡ true → distinct_places (place n x ∷ replace n r ps) ≡ true
    taken None q z = simp (replace_absent n r ps q) z
    taken (Some c) q z = simp (replace_absent n r ps q) (alone n c ps q z)

apart_install : (n : ℕ) (r : Option Stream) (ps : List Place) → is_none (record_of n ps) ≡ true → distinct_places ps ≡ true → distinct_places (install n r ps) ≡ true
apart_install n r [] q h = refl
apart_install n None (vacant ∷ ps) q h = h
apart_install n (Some c) (vacant ∷ ps) q h = alone n c ps q h
apart_install n r (occupied m b ∷ ps) q h =
    decide (eqb m n) (λ e. never (sym (simp e at q)))
    (λ e. alone m b (install n r ps) (ap is_none (install_other m n r ps (eqb_sym m n e)) ∙ alone_head m b ps h) (apart_install n r ps (simp e at q) (alone_tail m b ps h)))

apart_put : (n : ℕ) (r : Option Stream) (ps : List Place) → distinct_places ps ≡ true → distinct_places (put_record n r ps) ≡ true
unfolding put_record
apart_put n r ps h = cond_elim (λ x. distinct_places x ≡ true) (is_none (record_of n ps)) (λ e. apart_install n r ps e h) (λ _. apart_replace n r ps h)

put_good : (n : ℕ) (r : Option Stream) (ps : List Place) → u32 n ≡ true → GoodSelf r → GoodPlaces ps → GoodPlaces (put_record n r ps)
put_good n r ps u g h =
    record { size = length_put n r ps ∙ h.size; each = all_put good_place n r (is_self n r u g) ps h.each; apart = apart_put n r ps h.apart }

-- Spent numbers

-- a number that comes to life could be taken, and so is one of those that are kept
new_usable : (n : ℕ) (d : Device) (a : Act) → is_new (record_of n d.places) (next_of n d a) ≡ true → n < stream_numbers
new_usable n d a e =
    decide (ltb n stream_numbers) (λ h. ltb-true n stream_numbers h)
    (λ h. never (sym e ∙ ap (λ (r : Option Stream). is_new (record_of n d.places) r) (gone h) ∙ and-false (is_none (record_of n d.places))))
  where
    self : record_of n d.places ≡ None
    self = none_is (record_of n d.places) (and_left (is_none (record_of n d.places)) _ e)

    gone : ltb n stream_numbers ≡ false → next_of n d a ≡ None
    gone h = ap (λ (r : Option Stream). (serve (around d n) n r a).next) self ∙ serve_next (around d n) (simp (h, or-true (no_place d.places))) n a

module _ (n : ℕ) (s : List Bool) where
  spent_keeps : (p : Place) → spent_in s p ≡ true → spent_in (spend n s) p ≡ true
  spent_keeps vacant h = refl
  spent_keeps (occupied m b) h = spend_keeps n s m h

-- the number of a record that is left is spent: it was, or the record is new
left_spent : (n : ℕ) (r : Option Stream) (ps : List Place) (s : List Bool) → GoodSpent ps s → (is_new (record_of n ps) r ≡ true → n < stream_numbers)
    → spent_in (spent_after n (record_of n ps) r s) (place n r) ≡ true
left_spent n None ps s g new = refl
left_spent n (Some b) ps s g new = of (record_of n ps) (all_record (spent_in s) n refl ps g.each) new
  where
    of : (old : Option Stream) → spent_in s (place n old) ≡ true → (is_new old (Some b) ≡ true → n < stream_numbers) → is_spent n (spent_after n old (Some b) s) ≡ true
    of None h new = spend_same n s (omega (arith, new refl, g.size))
    of (Some c) h new = h

spent_put : (n : ℕ) (r : Option Stream) (d : Device) → GoodSpent d.places d.spent → (is_new (record_of n d.places) r ≡ true → n < stream_numbers)
    → good_spent (put_back n r d).places (put_back n r d).spent ≡ true
spent_put n r d g new =
    let s = spent_after n (record_of n d.places) r d.spent in
    both
    (eq-eqb (length s) stream_numbers (after_length n (record_of n d.places) r d.spent ∙ g.size))
    (all_put (spent_in s) n r (left_spent n r d.places d.spent g new) d.places
    (cond_elim (λ (x : List Bool). all_of (spent_in x) d.places ≡ true) (is_new (record_of n d.places) r) (λ _. all_implied (spent_in d.spent) (spent_in (spend n d.spent)) (spent_keeps n d.spent) d.places g.each) (λ _. g.each)))

stream_u32 : (a : Act) (n : ℕ) → good_act a ≡ true → stream_of a ≡ Some n → u32 n ≡ true
unfolding stream_of
stream_u32 (command t f) n m e =
    decide (ltb (length f) header_bytes)
    (λ h. let z : None ≡ Some n = simp h at e in cc)
    (λ h. let z : Some (stream_id f) ≡ Some n = simp h at e in let q : stream_id f ≡ n = cc in subst (λ x. u32 x ≡ true) q (word_u32 f 4 (and_right (u32 t) _ m)))
stream_u32 (finish k qt r flags ts) n m e = let q : k ≡ n = cc in subst (λ x. u32 x ≡ true) q (and_left (u32 k) _ m)
stream_u32 (drained k) n m e = let q : k ≡ n = cc in subst (λ x. u32 x ≡ true) q m

pub well_fresh : well_formed fresh ≡ true
unfolding well_formed fresh
well_fresh = refl

pub stays_well_formed : StaysWellFormed
unfolding well_formed
stays_well_formed d s h m =
    step_cases (λ (o : DeviceReply). well_formed o.device ≡ true) d s (λ k _. h)
    (λ n e. both (are_places _ (put_good n _ d.places (stream_u32 s.act n m e)
    (serve_good (around d n) n (record_of n d.places) s.act (well_record n d h) m) (well_places d h)))
    (spent_put n (next_of n d s.act) d (well_spent d h) (new_usable n d s.act)))
