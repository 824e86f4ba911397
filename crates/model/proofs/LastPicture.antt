-- The last picture and its drain are answered in one step: which events answer a drain, and that after a picture with EOS none is pending.
use Prim.Native.Nat.{ℕ, suc, ◌+◌, ◌≤◌}
use native.Mathlib.Omega.{arith}
use mathlib.Core.Path.{◌≡◌, refl, sym, ap, ap₂, ◌∙◌, subst}
use mathlib.Core.Bool.{Bool, true, false, cond, not, ◌&&◌, and-false, or-false}
use Rattle.std.specs.Prelude.{Option, None, Some}
use mathlib.Core.List.{List, [], ◌∷◌, ◌++◌, map, append-nil, map-append, head-eq_of_cons-eq, tail-eq_of_cons-eq}
use lib.ListN.{length, length-map, length-append}
use lib.Dec.{eqb, leb}
use borrow.Author.Tests.{eqb-true, leb-true, le-leb, not-true, not-false}
use Rattle.laws.specs.Lists.{keep, any_of, all_of, is_empty, is_none, to_list}
use Rattle.laws.proofs.Tests.{never, both, and_left, and_right}
use Rattle.laws.proofs.Lists.{decide, no_element, one_element, empty_is, keep_ext, keep_keep, keep_excluded, any_none, all_append, all_keep, all_kept}
use Rattle.laws.proofs.Ascending.{all_ascending, length_ascending}
use Rattle.field.specs.Field.{field, little_endian}
use Rattle.model.specs.Numbers.{table_words}
use Rattle.model.specs.Device.{QueueType, input, output, Slot, free, resource, Stream, Device, fresh, Buffer, queued_in, by_resource, buffers, slot_number, no_resource, record_of}
use Rattle.model.specs.Answers.{buffer_done, drain_done, Answer, response_bytes, bytes_of}
use Rattle.model.specs.Replies.{Reply, reply}
use Rattle.model.specs.Commands.{Surroundings}
use Rattle.model.specs.Reports.{input_queued, finish_answers, finish_leaves}
use Rattle.model.specs.Steps.{Act, command, finish, drained, Step, serve, around, DeviceReply, perform_of, step_on, Event, event_of, final, accepted}
use Rattle.model.specs.WellFormed.{well_formed, good_act, good_steps}
use Rattle.model.specs.Ledger.{noted, Awaited, to_buffer, to_drain, Pending, Ledger, step_stream, awaited_by, is_buffer_of, is_drain, resource_in, completes, completed_by, by_number, awaits, in_order, ledger_after, completed, own_tickets, noted_of, ledger_from, ledger_of, tickets}
use Rattle.model.specs.Tables.{Layout, Lawful}
use Rattle.model.specs.Condition3.{Run, steps_of, on_table}
use Rattle.model.specs.Promises.{as_written, has_outputs, is_pending, LastPicture, EndsDrain, by_clear, by_destruction, by_report, behind_picture, DrainsEnd, NotDraining, NoDrainAfterEos}
use Rattle.model.proofs.LedgerView.{View, awaited_buffer, buffers_in, tickets_in, view_of, is_to}
use Rattle.model.proofs.Fits.{accepted_reply, holding}
use Rattle.model.proofs.Rules.{named_number}
use Rattle.model.proofs.Seen.{own_record}
use Rattle.model.proofs.Origins.{FinishTaken, finish_cases, drained_cases, step_cases}
use Rattle.model.proofs.ReadBack.{read_back}
use Rattle.model.proofs.Condition3.{accepted_is, Agree, step_stream_is, as_expected, agree_end, agree_fresh, is_drain_lem}
use Rattle.model.proofs.Tables.{same_events, same_run, Parted, parted}
use Rattle.model.proofs.Unchanged.{accepted_device_reply}

-- What a step completes

-- the key by which they are sorted
abbrev resource_of : Pending → ℕ
resource_of p = resource_in p.awaited

all_in_order : (p : Pending → Bool) (l : List Pending) → all_of p l ≡ true → all_of p (in_order l) ≡ true
unfolding in_order
all_in_order p l h =
    all_append p (queue 0x100) (queue 0x101 ++ keep (awaits is_drain) l)
    ∙ both (of 0x100) (all_append p (queue 0x101) (keep (awaits is_drain) l) ∙ both (of 0x101) (all_keep p (awaits is_drain) l h))
  where
    queue : ℕ → List Pending
    queue qt = by_number (keep (awaits (is_buffer_of qt)) l)

    of : (qt : ℕ) → all_of p (queue qt) ≡ true
    of qt = all_ascending resource_of p (keep (awaits (is_buffer_of qt)) l) (all_keep p (awaits (is_buffer_of qt)) l h)

-- what all pass, a drain among them passes
drain_among : (p : Awaited → Bool) (l : List Pending) → all_of (awaits p) l ≡ true → any_of (awaits is_drain) l ≡ true → p to_drain ≡ true
drain_among p [] h e = never (sym e)
drain_among p (x ∷ l) h e =
    decide (is_drain x.awaited)
    (λ i. ap p (sym (is_drain_lem x.awaited i)) ∙ and_left (p x.awaited) (all_of (awaits p) l) h)
    (λ i. drain_among p l (and_right (p x.awaited) (all_of (awaits p) l) h) (simp i at e))

completes_drain : (a : Act) (l : Ledger) → any_of (awaits is_drain) (in_order (keep (completed_by a) l)) ≡ true → completes a to_drain ≡ true
completes_drain a l =
    drain_among (completes a) (in_order (keep (completed_by a) l))
    (all_in_order (awaits (completes a)) (keep (completed_by a) l)
    (all_kept (completed_by a) (awaits (completes a)) (λ p. and_right (is_to (step_stream a) p) (completes a p.awaited)) l))

-- only an accepted step completes anything
only_accepted : (acc : Bool) (l : List Pending) → any_of (awaits is_drain) (cond acc l []) ≡ true → (acc ≡ true) × (any_of (awaits is_drain) l ≡ true)
only_accepted true l h = (refl, h)
only_accepted false l h = never (sym h)

-- What a finish of the output r with EOS completes

abbrev drains_to : ℕ → List Pending → List Pending
drains_to n l = keep (awaits is_drain) (keep (is_to n) l)

abbrev is_picture : ℕ → Awaited → Bool
is_picture r w = is_buffer_of 0x101 w && eqb (resource_in w) r

module _ (n r flags ts : ℕ) (last : leb 2 flags ≡ true) (l : Ledger) where
  abbrev report : Act
  report = finish n 0x101 r flags ts

  abbrev done : List Pending
  done = keep (completed_by report) l

  abbrev pictures : List Pending
  pictures = by_number (keep (awaits (is_buffer_of 0x101)) done)

  no_input : keep (awaits (is_buffer_of 0x100)) done ≡ []
  unfolding completes
  no_input = keep_excluded (completed_by report) (awaits (is_buffer_of 0x100)) (λ p h. of p.awaited (and_right (is_to n p) (completes report p.awaited) h)) l
    where
      of : (w : Awaited) → completes report w ≡ true → is_buffer_of 0x100 w ≡ false
      of (to_buffer q m s) h = decide (eqb q 0x100) (λ e. never (sym (simp (eqb-true q 0x100 e, last) at h))) (λ e. e)
      of to_drain h = refl

  all_drains : keep (awaits is_drain) done ≡ drains_to n l
  unfolding completes
  all_drains =
      keep_keep (awaits is_drain) (completed_by report) l
      ∙ keep_ext (λ p. completed_by report p && awaits is_drain p) (λ p. is_to n p && awaits is_drain p) (λ p. of (is_to n p) p.awaited) l
      ∙ sym (keep_keep (awaits is_drain) (is_to n) l)
    where
      of : (own : Bool) (w : Awaited) → (own && completes report w && is_drain w) ≡ (own && is_drain w)
      of own (to_buffer q m s) = and-false (own && completes report (to_buffer q m s)) ∙ sym (and-false own)
      of own to_drain = decide own (λ e. simp (e, last)) (λ e. simp e)

  done_in_order : in_order done ≡ pictures ++ drains_to n l
  unfolding in_order
  done_in_order = ap₂ (λ (x y : List Pending). by_number x ++ (pictures ++ y)) no_input all_drains

  pictures_are : all_of (awaits (is_picture r)) pictures ≡ true
  unfolding completes
  pictures_are =
      all_ascending resource_of (awaits (is_picture r)) (keep (awaits (is_buffer_of 0x101)) done)
      (ap (all_of (awaits (is_picture r))) (keep_keep (awaits (is_buffer_of 0x101)) (completed_by report) l)
      ∙ all_kept (λ p. completed_by report p && awaits (is_buffer_of 0x101) p) (awaits (is_picture r)) (λ p. of (is_to n p) p.awaited) l)
    where
      of : (own : Bool) (w : Awaited) → (own && completes report w && is_buffer_of 0x101 w) ≡ true → is_picture r w ≡ true
      of own (to_buffer q m s) h =
          let w = to_buffer q m s in
          simp (last, or-false (is_picture r w)) at (and_right own (completes report w) (and_left (own && completes report w) (is_buffer_of 0x101 w) h))
      of own to_drain h = never (sym (and_right (own && completes report to_drain) false h))

  -- no drain of the stream stays
  none_left : (k : ℕ) (z : Bool) → is_pending n is_drain (ledger_after (noted k report z true) l) ≡ false
  unfolding awaited_by completes
  none_left k z =
      let kept : Pending → Bool = λ p. not (completed_by report p) in
      let drain : Pending → Bool = λ p. is_to n p && awaits is_drain p in
      any_none drain (keep kept l) (keep_excluded kept drain (λ p. of (is_to n p) p.awaited) l)
    where
      of : (own : Bool) (w : Awaited) → not (own && completes report w) ≡ true → (own && is_drain w) ≡ false
      of own (to_buffer q m s) h = and-false own
      of own to_drain h = decide own (λ e. never (sym (simp (e, last) at h))) (λ e. simp e)

-- the answers to the picture and to the drain
abbrev last_answers : (n flags ts s t : ℕ) → List Answer
last_answers n flags ts s t = record { ticket = s; stream = n; response = buffer_done output ts flags } ∷ record { ticket = t; stream = n; response = drain_done } ∷ []

-- what is promised of them, from the two parts of what is completed: pictures x and drains y, which have two tickets, and of these the drains one
two_parts : (n r flags ts s t : ℕ) (before : List Event) (e : Event) (x y : List Pending) → completed (noted_of (length before) e) (ledger_of before) ≡ x ++ y
    → tickets_in (x ++ y) ≡ s ∷ t ∷ [] → tickets_in y ≡ t ∷ [] → all_of (awaits (is_picture r)) x ≡ true → all_of (awaits is_drain) y ≡ true
    → e.bytes ≡ bytes_of (last_answers n flags ts s t) → is_pending n (is_buffer_of 0x100) (ledger_of before) ≡ false → LastPicture n r flags ts before e
unfolding response_bytes little_endian
two_parts n r flags ts s t before e x y is two one each_x each_y bytes inputs =
    let q = one_element y (sym (length-map y (λ (p : Pending). p.ticket)) ∙ ap length one) in
    let p = one_element x (omega (arith, length-append x y, ap length q.1, length-map (x ++ y) (λ (p : Pending). p.ticket), ap length two)) in
    let same : s ∷ t ∷ [] ≡ p.0.ticket ∷ q.0.ticket ∷ [] = sym two ∙ ap₂ (λ (a b : List Pending). tickets_in (a ++ b)) p.1 q.1 in
    record {
      inputs_answered = inputs;
      picture = p.0;
      its_drain = q.0;
      completes_both = is ∙ ap₂ (λ (a b : List Pending). a ++ b) p.1 q.1;
      of_output = and_left (is_picture r p.0.awaited) true (ap (all_of (awaits (is_picture r))) (sym p.1) ∙ each_x);
      of_drain = is_drain_lem q.0.awaited (and_left (is_drain q.0.awaited) true (ap (all_of (awaits is_drain)) (sym q.1) ∙ each_y));
      writes_both = bytes ∙ ap₂ (λ (a b : ℕ). bytes_of (last_answers n flags ts a b)) (head-eq_of_cons-eq same) (head-eq_of_cons-eq (tail-eq_of_cons-eq same));
    }

-- What an accepted report found

-- a step that is accepted is one of its stream, and is accepted there
pub record Taken (d : Device) (s : Step) (n : ℕ) : Type 0 where
  pub runs : step_on d s ≡ perform_of d s.act (Some n)
  pub replied : accepted_reply (serve (around d n) n (record_of n d.places) s.act) ≡ true

pub step_taken : (d : Device) (s : Step) → well_formed d ≡ true → good_act s.act ≡ true → accepted (event_of s (step_on d s)) ≡ true → Taken d s (step_stream s.act)
step_taken d s h m acc =
    step_cases (λ (o : DeviceReply). accepted_device_reply o ≡ true → step_on d s ≡ o → Taken d s (step_stream s.act)) d s
    (λ k z y e. never (sym (simp z at y)))
    (λ k o y e. subst (Taken d s) (step_stream_is s.act k o) (record { runs = e; replied = y }))
    (sym (accepted_is s (step_on d s) (read_back d s h m)) ∙ acc) refl

-- a finish with EOS: no input is Queued; the tickets of an output and of the drain, which is then over
record EosTaken (n qt flags ts : ℕ) (self : Option Stream) (v : Reply) : Type 0 where
  is_output : qt ≡ 0x101
  inputs : (holding self).queued input ≡ []
  buffer : ℕ
  drain : ℕ
  held : (holding self).drains ≡ drain ∷ []
  answers : v.answers ≡ last_answers n flags ts buffer drain
  left : NotDraining v.next

no_inputs : (b : Stream) → input_queued b ≡ false → buffers input b ≡ []
no_inputs b h = ap by_resource (empty_is (queued_in b.inputs.slots) (not-false (is_empty (queued_in b.inputs.slots)) h))

eos_taken : (around : Surroundings) (n qt r flags ts : ℕ) (self : Option Stream) → leb 2 flags ≡ true → accepted_reply (serve around n self (finish n qt r flags ts)) ≡ true
    → EosTaken n qt flags ts self (serve around n self (finish n qt r flags ts))
unfolding serve holding
eos_taken around n qt r flags ts self last =
    finish_cases (λ (v : Reply). accepted_reply v ≡ true → EosTaken n qt flags ts self v) n qt r flags ts self (λ y. never (sym y)) (λ y. never (sym y))
    (λ b q i h y. of b q i b.draining refl h)
  where
    of : (b : Stream) (q : QueueType) (i : Buffer) (t : Option ℕ) → b.draining ≡ t → FinishTaken self qt r flags b q i
        → EosTaken n qt flags ts self (reply (finish_answers n flags ts b q i) (Some (finish_leaves r flags b q)))
    of b input i t e h = never (simp last at h.eos_fits)
    of b output i None e h = never (simp (last, e) at h.eos_fits)
    of b output i (Some t) e h =
        record {
          is_output = named_number qt output h.named_is;
          inputs = ap (λ (x : Option Stream). (holding x).queued input) h.self_is ∙ no_inputs b (simp last at h.not_early);
          buffer = i.ticket;
          drain = t;
          held = ap (λ (x : Option Stream). (holding x).drains) h.self_is ∙ ap to_list e;
          answers = simp (last, e);
          left = record { left_record = finish_leaves r flags b output; record_is = refl; no_drain = simp last };
        }

-- a drained report: no input is Queued, and there is no output resource
record OverTaken (self : Option Stream) : Type 0 where
  stream : Stream
  is : self ≡ Some stream
  inputs : (holding self).queued input ≡ []
  outputs : has_outputs stream ≡ false

over_taken : (around : Surroundings) (n : ℕ) (self : Option Stream) → accepted_reply (serve around n self (drained n)) ≡ true → OverTaken self
unfolding serve holding
over_taken around n self =
    drained_cases (λ (v : Reply). accepted_reply v ≡ true → OverTaken self) n self (λ y. never (sym y))
    (λ b t h y.
    let none_queued = and_left (not (input_queued b)) (no_resource b.outputs.slots) h.over_is in
    record {
      stream = b;
      is = h.self_is;
      inputs = ap (λ (x : Option Stream). (holding x).queued input) h.self_is ∙ no_inputs b (not-true (input_queued b) none_queued);
      outputs = of b.outputs.slots (and_right (not (input_queued b)) (no_resource b.outputs.slots) h.over_is);
    })
  where
    of : (l : List Slot) → no_resource l ≡ true → any_of (λ (x : Slot). not (is_none (slot_number x))) l ≡ false
    of [] h = refl
    of (free ∷ l) h = of l h
    of (resource r p ∷ l) h = never (sym h)

-- the drains of a stream in the ledger are its record's
drains_held : (n : ℕ) (d : Device) (l : Ledger) → Agree d l → tickets_in (drains_to n l) ≡ (holding (record_of n d.places)).drains
unfolding view_of
drains_held n d l g = ap (λ (v : View). v.drains) (g.same_view n)

-- and its pending inputs are its Queued ones
inputs_held : (n : ℕ) (d : Device) (l : Ledger) → Agree d l → (holding (record_of n d.places)).queued input ≡ [] → is_pending n (is_buffer_of 0x100) l ≡ false
unfolding view_of
inputs_held n d l g none_queued =
    let pending_inputs = keep (awaits (is_buffer_of 0x100)) (keep (is_to n) l) in
    let none_pending : buffers_in input (keep (is_to n) l) ≡ [] = ap (λ (v : View). v.queued input) (g.same_view n) ∙ none_queued in
    any_none (λ p. is_to n p && awaits (is_buffer_of 0x100) p) l
    (sym (keep_keep (awaits (is_buffer_of 0x100)) (is_to n) l)
    ∙ no_element pending_inputs (sym (length_ascending resource_of pending_inputs) ∙ sym (length-map (by_number pending_inputs) awaited_buffer) ∙ ap length none_pending))

-- A step on the device d, which the events `before` left

module _ (before : List Event) (d : Device) (g : Agree d (ledger_of before)) (room : List ℕ) where
  abbrev k : ℕ
  k = length before

  abbrev l : Ledger
  l = ledger_of before

  abbrev step_at : Act → Step
  step_at a = record { act = a; room = room }

  abbrev event_at : Act → Event
  event_at a = event_of (step_at a) (step_on d (step_at a))

  -- it answers a picture and its drain, and no drain stays
  record EndsBoth (n r flags ts : ℕ) (a : Act) : Type 0 where
    last_picture : LastPicture n r flags ts before (event_at a)
    ledger_left_lem : is_pending n is_drain (ledger_after (noted_of k (event_at a)) l) ≡ false
    record_left : NotDraining (record_of n (step_on d (step_at a)).device.places)

  module _ (n r flags ts : ℕ) (last : leb 2 flags ≡ true) where
    abbrev a : Act
    a = finish n 0x101 r flags ts

    abbrev e : Event
    e = event_at a

    output_ends : good_act a ≡ true → accepted e ≡ true → EndsBoth n r flags ts a
    unfolding own_tickets
    output_ends m acc =
        let t = step_taken d (step_at a) g.well m acc in
        let eos = eos_taken (around d n) n 0x101 r flags ts (record_of n d.places) last t.replied in
        let answers : (step_on d (step_at a)).answers ≡ last_answers n flags ts eos.buffer eos.drain = ap (λ (o : DeviceReply). o.answers) t.runs ∙ eos.answers in
        let parts : completed (noted_of k e) l ≡ pictures n r flags ts last l ++ drains_to n l =
        ap (λ (x : Bool). completed (noted k a (eqb e.refusal 0) x) l) acc ∙ done_in_order n r flags ts last l in
        record {
          last_picture = two_parts n r flags ts eos.buffer eos.drain before e (pictures n r flags ts last l) (drains_to n l) parts
              (ap tickets_in (sym parts)
              ∙ sym (append-nil (tickets_in (completed (noted_of k e) l)))
              ∙ sym (as_expected k d l (step_at a ∷ []) g (both m refl)).0
              ∙ ap tickets (read_back d (step_at a) g.well m)
              ∙ ap (λ (x : List Answer). tickets (map as_written x)) answers)
              (drains_held n d l g ∙ eos.held) (pictures_are n r flags ts last l) (all_kept (awaits is_drain) (awaits is_drain) (λ p h. h) (keep (is_to n) l)) (ap bytes_of answers)
              (inputs_held n d l g eos.inputs);
          ledger_left_lem = ap (λ (x : Bool). is_pending n is_drain (ledger_after (noted k a (eqb e.refusal 0) x) l)) acc ∙ none_left n r flags ts last l k (eqb e.refusal 0);
          record_left = subst NotDraining (sym (ap (λ (o : DeviceReply). record_of n o.device.places) t.runs ∙ own_record n d a)) eos.left;
        }

    -- a finish with EOS that is accepted is one of an output
    eos_ends : (qt : ℕ) → good_act (finish n qt r flags ts) ≡ true → accepted (event_at (finish n qt r flags ts)) ≡ true
        → (qt ≡ 0x101) × EndsBoth n r flags ts (finish n qt r flags ts)
    eos_ends qt m acc =
        let found = step_taken d (step_at (finish n qt r flags ts)) g.well m acc in
        let is = (eos_taken (around d n) n qt r flags ts (record_of n d.places) last found.replied).is_output in (
          is,
          subst (λ (x : ℕ). good_act (finish n x r flags ts) ≡ true → accepted (event_at (finish n x r flags ts)) ≡ true → EndsBoth n r flags ts (finish n x r flags ts))
              (sym is) output_ends m acc,
        )

  -- what answers a drain, by what the ledger says of it
  ends : (a : Act) → good_act a ≡ true → any_of (awaits is_drain) (completed (noted_of k (event_at a)) l) ≡ true → EndsDrain before (event_at a) (record_of (step_stream a) d.places) a
  unfolding completes
  ends a m h = let was = only_accepted (accepted (event_at a)) (in_order (keep (completed_by a) l)) h in of a m was.0 (completes_drain a l was.1)
    where
      of : (a : Act) → good_act a ≡ true → accepted (event_at a) ≡ true → completes a to_drain ≡ true → EndsDrain before (event_at a) (record_of (step_stream a) d.places) a
      of (command t f) m acc c =
          let ty = field 4 f 0 in
          let qt = field 4 f 8 in
          decide (eqb ty 0x0102) (λ e. by_destruction t f (eqb-true ty 0x0102 e)) (λ e.
          let clears : (eqb ty 0x0107 && (eqb qt 0x100 && true)) ≡ true = simp e at c in
          by_clear t f (eqb-true ty 0x0107 (and_left (eqb ty 0x0107) (eqb qt 0x100 && true) clears))
          (eqb-true qt 0x100 (and_left (eqb qt 0x100) true (and_right (eqb ty 0x0107) (eqb qt 0x100 && true) clears))))
      of (finish n qt r flags ts) m acc c =
          let last = and_left (leb 2 flags) true c in
          let end = eos_ends n r flags ts last qt m acc in
          subst (λ (x : ℕ). EndsDrain before (event_at (finish n qt r flags ts)) (record_of n d.places) (finish n x r flags ts)) (sym end.0)
          (behind_picture n r flags ts (leb-true 2 flags last) end.1.last_picture)
      of (drained n) m acc c =
          let over = over_taken (around d n) n (record_of n d.places) (step_taken d (step_at (drained n)) g.well m acc).replied in
          by_report n over.stream over.is over.outputs (inputs_held n d l g over.inputs)

-- One event more at the end of a list

ledger_last : (j k : ℕ) (l : Ledger) (before : List Event) (e : Event) → j ≡ k + length before
    → ledger_from k l (before ++ e ∷ []) ≡ ledger_after (noted_of j e) (ledger_from k l before)
ledger_last j k l [] e i = ap (λ (x : ℕ). ledger_after (noted_of x e) l) (omega arith)
ledger_last j k l (y ∷ before) e i = ledger_last j (suc k) (ledger_after (noted_of k y) l) before e (omega arith)

final_last : (d : Device) (ss : List Step) (s : Step) → final d (ss ++ s ∷ []) ≡ (step_on (final d ss) s).device
final_last d [] s = refl
final_last d (x ∷ ss) s = final_last (step_on d x).device ss s

-- Over tables

agree_before : (before : List Event) (e : Event) → Parted fresh before e → Agree (final fresh (steps_of before)) (ledger_of before)
agree_before before e p =
    subst (λ (x : List Event). Agree (final fresh (steps_of before)) (ledger_of x)) (sym p.first) (agree_end 0 fresh [] (steps_of before) agree_fresh p.first_good)

module _ (L : Layout) (law : Lawful L) (t : List ℕ) (h : table_words ≤ length t) (n : ℕ) where
  same_record : (ss : List Step) → good_steps ss ≡ true → (on_table L t ss).records n ≡ record_of n (final fresh ss).places
  same_record ss m = ap (λ (r : Run). r.records n) (same_run L law t h ss m)

  record_last : (before : List Event) (e : Event) → Parted fresh before e
      → (on_table L t (steps_of (before ++ e ∷ []))).records n ≡ record_of n (step_on (final fresh (steps_of before)) e.step).device.places
  record_last before e p =
      let ss = steps_of before in
      ap (λ (x : List Step). (on_table L t x).records n) (map-append (λ (x : Event). x.step) before (e ∷ []))
      ∙ same_record (ss ++ e.step ∷ []) (all_append (λ (s : Step). good_act s.act) ss (e.step ∷ []) ∙ both p.first_good (both p.next_good refl))
      ∙ ap (λ (x : Device). record_of n x.places) (final_last fresh ss e.step)

pub drains_end_lem : (L : Layout) → Lawful L → DrainsEnd L
drains_end_lem L law t ss before later e h m split ended =
    let p = parted fresh ss before later e m (sym (same_events L law t h ss m) ∙ split) in
    let d = final fresh (steps_of before) in
    let a = e.step.act in
    subst (λ (x : Option Stream). EndsDrain before e x a) (sym (same_record L law t h (step_stream a) (steps_of before) p.first_good))
    (subst (λ (x : Event). EndsDrain before x (record_of (step_stream a) d.places) a) (sym p.next_is)
    (ends before d (agree_before before e p) e.step.room a p.next_good
    (subst (λ (x : Event). any_of (awaits is_drain) (completed (noted_of (length before) x) (ledger_of before)) ≡ true) p.next_is ended)))

pub no_drain_after_eos_lem : (L : Layout) → Lawful L → NoDrainAfterEos L
no_drain_after_eos_lem L law t ss before later e n qt r flags ts h m split a many acc =
    let p = parted fresh ss before later e m (sym (same_events L law t h ss m) ∙ split) in
    let d = final fresh (steps_of before) in
    let g = agree_before before e p in
    let room = e.step.room in
    let is : e ≡ event_at before d g room (finish n qt r flags ts) = p.next_is ∙ ap (event_at before d g room) a in
    let end = (eos_ends before d g room n r flags ts (le-leb 2 flags many) qt (ap good_act (sym a) ∙ p.next_good) (ap accepted (sym is) ∙ acc)).1 in (
      subst (LastPicture n r flags ts before) (sym is) end.last_picture,
      ap (is_pending n is_drain) (ledger_last (length before) 0 [] before e (omega arith))
          ∙ ap (λ (x : Event). is_pending n is_drain (ledger_after (noted_of (length before) x) (ledger_of before))) is
          ∙ end.ledger_left_lem,
      subst NotDraining
          (sym (record_last L law t h n before e p ∙ ap (λ (x : Act). record_of n (step_on d (step_at before d g room x)).device.places) a))
          end.record_left,
    )
