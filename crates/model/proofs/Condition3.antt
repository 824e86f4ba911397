-- Condition 3 holds of every list of steps on devices.
use Prim.Native.Nat.{ℕ, suc, ◌+◌, ◌<◌, ◌≤◌}
use native.Mathlib.Omega.{arith}
use mathlib.Core.Path.{◌≡◌, refl, sym, ap, ap₂, ◌∙◌, subst}
use mathlib.Core.Bool.{Bool, true, false, cond, not, ◌&&◌, ◌||◌}
use Rattle.std.specs.Prelude.{Option, None, Some}
use mathlib.Core.List.{List, [], ◌∷◌, ◌++◌, map, tail-eq_of_cons-eq}
use lib.ListN.{length, length-append, length-map}
use lib.Dec.{eqb, ltb}
use borrow.Author.Tests.{eqb-true, le-ltb, ne_eqb}
use Rattle.laws.specs.Lists.{keep, any_of, all_of, how_many, is_none, to_list}
use Rattle.laws.proofs.Tests.{never, both, and_left, and_right}
use Rattle.laws.proofs.Lists.{decide, eqb_same, keep_comm, keep_append, keep_excluded, all_append, all_keep, how_many_append, how_many_all, how_many_split, how_many_map, how_many_kept}
use Rattle.laws.proofs.Ascending.{ascending_how_many}
use Rattle.field.specs.Field.{field, little_endian}
use Rattle.model.specs.Device.{QueueType, input, output, Stream, Device, fresh, Buffer, queued_in, by_resource, record_of, pending_of}
use Rattle.model.specs.Frames.{queue_number}
use Rattle.model.specs.Answers.{Answer, response_of, bytes_of, Written, rewritten, answers_in}
use Rattle.model.specs.Replies.{Reply}
use Rattle.model.specs.Steps.{Act, command, finish, drained, Step, stream_of, serve, DeviceReply, refused, around, perform_of, perform, step_on, Event, event_of, events_of, final, answers_of, is_error, accepted}
use Rattle.model.specs.WellFormed.{well_formed, good_act, good_steps}
use Rattle.model.specs.Ledger.{Noted, noted, Awaited, to_buffer, to_drain, Pending, Ledger, step_stream, step_ticket, awaited_by, pending, adds, is_buffer_of, is_drain, resource_in, completes, completed_by, by_number, awaits, in_order, ledger_after, completed, own_tickets, expected_tickets, noted_of, ledger_from, ledger_of, tickets, AsExpected, reached, of_step, answers_to, Outstanding, outstanding, outstanding_to, outstanding_buffers, outstanding_drain, outstanding_in}
use Rattle.model.specs.Promises.{as_written}
use Rattle.model.specs.Condition3.{older, InWholeAnswers, OnDevices}
use Rattle.model.proofs.ReadBack.{error_is, read_back}
use Rattle.model.proofs.WellFormed.{GoodSelf, not_again_lem, well_record, well_fresh, stays_well_formed}
use Rattle.model.proofs.LedgerView.{View, awaited_timestamp, view_of, view_at, is_to, buffers_in, awaited_buffer, tickets_in, view_after, tickets_completed, view_own, view_other, tickets_completed_lem}
use Rattle.model.proofs.Fits.{Sane, holding, fails, known, known_if, answer_tickets, FitsAct, serve_fits}
use Rattle.model.proofs.Seen.{step_runs, step_refused, own_record, other_record, room_refusal}
use Rattle.model.proofs.Isolation.{isolated}

-- What an event shows of a step

tickets_written : (l : List Answer) → tickets (map as_written l) ≡ answer_tickets l
tickets_written [] = refl
tickets_written (a ∷ l) = ap (λ r. a.ticket ∷ r) (tickets_written l)

errors_written : (l : List Answer) → any_of is_error (map as_written l) ≡ any_of fails l
errors_written [] = refl
errors_written (a ∷ l) = simp (error_is a, errors_written l)

module _ (s : Step) (o : DeviceReply) (read : answers_in (bytes_of o.answers) ≡ map as_written o.answers) where
  tickets_are : tickets (answers_of (event_of s o)) ≡ answer_tickets o.answers
  tickets_are = ap tickets read ∙ tickets_written o.answers

  pub accepted_is : accepted (event_of s o) ≡ (eqb o.refusal 0 && not (any_of fails o.answers))
  unfolding accepted
  accepted_is = ap (λ (x : Bool). eqb o.refusal 0 && not x) (ap (any_of is_error) read ∙ errors_written o.answers)

-- The device and the ledger agree

pub record Agree (d : Device) (l : Ledger) : Type 0 where
  pub well : well_formed d ≡ true
  pub same_view : (n : ℕ) → view_at n l ≡ holding (record_of n d.places)
  knows : all_of (awaits known) l ≡ true

pub sane_record : (n : ℕ) (d : Device) → well_formed d ≡ true → Sane (record_of n d.places)
sane_record n d h = of (record_of n d.places) (well_record n d h)
  where
    of : (r : Option Stream) → GoodSelf r → Sane r
    of None g = tt
    of (Some b) g = (g.inputs.slots.apart, g.outputs.slots.apart)

-- a step answers as the ledger expects, and the two agree after it
record Kept (k : ℕ) (d : Device) (l : Ledger) (s : Step) : Type 0 where
  answers : tickets (answers_of (event_of s (step_on d s))) ≡ expected_tickets (noted_of k (event_of s (step_on d s))) l
  agree : Agree (step_on d s).device (ledger_after (noted_of k (event_of s (step_on d s))) l)

own_nothing : (a : Act) → own_tickets a false false ≡ []
unfolding own_tickets
own_nothing (command t f) = refl
own_nothing (finish n qt r flags ts) = refl
own_nothing (drained n) = refl

knows_pending : (k t n : ℕ) (w : Option Awaited) → known_if w ≡ true → all_of (awaits known) (pending k t n w) ≡ true
knows_pending k t n None h = refl
knows_pending k t n (Some w) h = both h refl

module _ (k : ℕ) (d : Device) (l : Ledger) (s : Step) (g : Agree d l) (m : good_act s.act ≡ true) where
  abbrev a : Act
  a = s.act

  answers_read : answers_in (bytes_of (step_on d s).answers) ≡ map as_written (step_on d s).answers
  answers_read = read_back d s g.well m

  -- a step that is refused by a number
  read_refused : (j : ℕ) → eqb j 0 ≡ false → step_on d s ≡ refused j d → Kept k d l s
  read_refused j z e =
      let o = event_of s (step_on d s) in
      let no : accepted o ≡ false = accepted_is s (step_on d s) answers_read ∙ ap (λ (x : DeviceReply). eqb x.refusal 0 && not (any_of fails x.answers)) e ∙ simp z in
      let is : noted_of k o ≡ noted k a false false =
      λ i. record { number = k; act = a; is_zero = (ap (λ (x : DeviceReply). eqb x.refusal 0) e ∙ z) i; accepted = no i } in
      record {
        answers = tickets_are s (step_on d s) answers_read ∙ ap (λ (x : DeviceReply). answer_tickets x.answers) e ∙ sym (own_nothing a) ∙ ap (λ (x : Noted). expected_tickets x l) (sym is);
        agree = subst (λ (x : DeviceReply). Agree x.device (ledger_after (noted_of k o) l)) (sym e) (subst (λ (x : Noted). Agree d (ledger_after x l)) (sym is) g);
      }

  -- a step of a stream
  module _ (e : step_on d s ≡ perform_of d a (Some (step_stream a))) where
    abbrev n : ℕ
    n = step_stream a

    abbrev v : Reply
    v = serve (around d n) n (record_of n d.places) a

    fit : FitsAct n a (record_of n d.places) v
    fit = serve_fits (around d n) n (record_of n d.places) a (not_again_lem n d g.well) (sane_record n d g.well)

    abbrev z : Bool
    z = eqb v.refusal 0

    taken : accepted (event_of s (step_on d s)) ≡ fit.acc
    taken = accepted_is s (step_on d s) answers_read ∙ ap (λ (x : DeviceReply). eqb x.refusal 0 && not (any_of fails x.answers)) e ∙ fit.is

    noted_is : noted_of k (event_of s (step_on d s)) ≡ noted k a z fit.acc
    noted_is = λ i. record { number = k; act = a; is_zero = eqb (e i).refusal 0; accepted = taken i }

    own_pending : view_at n (ledger_after (noted k a z fit.acc) l) ≡ holding (record_of n (perform_of d a (Some n)).device.places)
    own_pending =
        view_own k a z fit.acc l
        ∙ ap (view_after (completes a) (awaited_by a) (step_ticket a) fit.acc) (g.same_view n)
        ∙ sym fit.held
        ∙ ap holding (sym (own_record n d a))

    still_knows : (acc : Bool) → (acc ≡ true → known_if (awaited_by a) ≡ true) → all_of (awaits known) (ledger_after (noted k a z acc) l) ≡ true
    still_knows false h = g.knows
    still_knows true h =
        all_append (awaits known) (adds k a) (keep (λ p. not (completed_by a p)) l)
        ∙ both (knows_pending k (step_ticket a) n (awaited_by a) (h refl)) (all_keep (awaits known) (λ p. not (completed_by a p)) l g.knows)

    read_own : Kept k d l s
    read_own =
        record {
          answers =
              tickets_are s (step_on d s) answers_read
              ∙ ap (λ (x : DeviceReply). answer_tickets x.answers) e
              ∙ fit.told
              ∙ ap (λ (x : View). tickets_completed (completes a) fit.acc x ++ own_tickets a z fit.acc) (sym (g.same_view n))
              ∙ ap (λ (x : List ℕ). x ++ own_tickets a z fit.acc) (sym (tickets_completed_lem k a z fit.acc l))
              ∙ ap (λ (x : Noted). expected_tickets x l) (sym noted_is);
          agree = record {
            well = stays_well_formed d s g.well m;
            same_view = λ j.
                ap (λ (x : Noted). view_at j (ledger_after x l)) noted_is
                ∙ decide (eqb n j)
                (λ q. subst (λ (x : ℕ). view_at x (ledger_after (noted k a z fit.acc) l) ≡ holding (record_of x (perform_of d a (Some n)).device.places)) (eqb-true n j q) own_pending)
                (λ q. view_other k j a z fit.acc l q ∙ g.same_view j ∙ ap holding (sym (other_record j n d a q)))
                ∙ ap (λ (x : DeviceReply). holding (record_of j x.device.places)) (sym e);
            knows = ap (λ (x : Noted). all_of (awaits known) (ledger_after x l)) noted_is ∙ still_knows fit.acc fit.adds;
          };
        }

pub step_stream_is : (a : Act) (n : ℕ) → stream_of a ≡ Some n → n ≡ step_stream a
unfolding stream_of
step_stream_is (command t f) n e = decide (ltb (length f) 8) (λ h. let z : None ≡ Some n = simp h at e in cc) (λ h. let z : Some (field 4 f 4) ≡ Some n = simp h at e in cc)
step_stream_is (finish m qt r flags ts) n e = cc
step_stream_is (drained m) n e = cc

event_read : (k : ℕ) (d : Device) (l : Ledger) (s : Step) → Agree d l → good_act s.act ≡ true → Kept k d l s
event_read k d l s g m =
    decide (eqb (room_refusal s) 0)
    (λ e. of (stream_of s.act) refl (step_runs d s e))
    (λ e. read_refused k d l s g m (room_refusal s) e (step_refused d s e))
  where
    of : (o : Option ℕ) → stream_of s.act ≡ o → step_on d s ≡ perform d s.act → Kept k d l s
    of None e h = read_refused k d l s g m 4 refl (h ∙ ap (perform_of d s.act) e)
    of (Some n) e h = read_own k d l s g m (h ∙ ap (perform_of d s.act) (e ∙ ap Some (step_stream_is s.act n e)))

agree_step : (k : ℕ) (d : Device) (l : Ledger) (s : Step) → Agree d l → good_act s.act ≡ true → Agree (step_on d s).device (ledger_after (noted_of k (event_of s (step_on d s))) l)
agree_step k d l s g m = (event_read k d l s g m).agree

-- and so over a whole list

abbrev good : Step → List Step → Type 0
good s ss = (good_act s.act && good_steps ss) ≡ true

pub as_expected : (k : ℕ) (d : Device) (l : Ledger) (ss : List Step) → Agree d l → good_steps ss ≡ true → AsExpected k l (events_of d ss)
as_expected k d l [] g m = tt
as_expected k d l (s ∷ ss) g m =
    let h = event_read k d l s g (and_left (good_act s.act) (good_steps ss) m) in
    (h.answers, as_expected (suc k) (step_on d s).device (ledger_after (noted_of k (event_of s (step_on d s))) l) ss h.agree (and_right (good_act s.act) (good_steps ss) m))

pub agree_end : (k : ℕ) (d : Device) (l : Ledger) (ss : List Step) → Agree d l → good_steps ss ≡ true → Agree (final d ss) (ledger_from k l (events_of d ss))
agree_end k d l [] g m = g
agree_end k d l (s ∷ ss) g m =
    agree_end (suc k) (step_on d s).device (ledger_after (noted_of k (event_of s (step_on d s))) l) ss
    (agree_step k d l s g (and_left (good_act s.act) (good_steps ss) m)) (and_right (good_act s.act) (good_steps ss) m)

-- the bytes of a step are its answers

pub rewritten_written : (l : List Answer) → rewritten (map as_written l) ≡ bytes_of l
rewritten_written [] = refl
rewritten_written (a ∷ l) = ap (λ r. little_endian 4 a.ticket ++ (little_endian 4 (length (response_of a)) ++ (response_of a ++ r))) (rewritten_written l)

all_whole : (d : Device) (ss : List Step) → well_formed d ≡ true → good_steps ss ≡ true → InWholeAnswers (events_of d ss)
all_whole d [] h m = tt
all_whole d (s ∷ ss) h m =
    let good = and_left (good_act s.act) (good_steps ss) m in (
      ap rewritten (read_back d s h good) ∙ rewritten_written (step_on d s).answers,
      refl,
      all_whole (step_on d s).device ss (stays_well_formed d s h good) (and_right (good_act s.act) (good_steps ss) m),
    )

pub agree_fresh : Agree fresh []
unfolding fresh view_of holding
agree_fresh = record { well = well_fresh; same_view = λ n. refl; knows = refl }

-- What stays pending is what the records hold

-- counted apart: inputs, outputs, drains
how_many_kinds : (p : Pending → Bool) (l : List Pending) → all_of (awaits known) l ≡ true
    → how_many p (keep (awaits (is_buffer_of 0x100)) l) + how_many p (keep (awaits (is_buffer_of 0x101)) l) + how_many p (keep (awaits is_drain) l) ≡ how_many p l
how_many_kinds p [] h = refl
how_many_kinds p (x ∷ l) h =
    of x.awaited refl (and_left (known x.awaited) (all_of (awaits known) l) h) (how_many_kinds p l (and_right (known x.awaited) (all_of (awaits known) l) h))
  where
    Split : List Pending → Type 0
    Split m = how_many p (keep (awaits (is_buffer_of 0x100)) m) + how_many p (keep (awaits (is_buffer_of 0x101)) m) + how_many p (keep (awaits is_drain) m) ≡ how_many p m

    queue : (q : ℕ) → (eqb q 0x100 || eqb q 0x101) ≡ true → (r ts : ℕ) → x.awaited ≡ to_buffer q r ts → Split l → Split (x ∷ l)
    queue q k r ts e i =
        decide (eqb q 0x100)
        (λ w. simp (e, eqb-true q 0x100 w) (omega (arith, i)))
        (λ w. decide (eqb q 0x101) (λ u. simp (e, eqb-true q 0x101 u) (omega (arith, i))) (λ u. never (sym (simp (w, u) at k))))

    of : (w : Awaited) → x.awaited ≡ w → known x.awaited ≡ true → Split l → Split (x ∷ l)
    of (to_buffer q r ts) e k i = queue q (simp e at k) r ts e i
    of to_drain e k i = simp e (omega (arith, i))

abbrev outstanding_of : Pending → Outstanding
outstanding_of x = outstanding x.ticket x.awaited

abbrev buffer_outstanding : ℕ → Buffer → Outstanding
buffer_outstanding qt i = outstanding i.ticket (to_buffer qt i.resource i.timestamp)

is_buffer : (qt : ℕ) (w : Awaited) → is_buffer_of qt w ≡ true → w ≡ to_buffer qt (resource_in w) (awaited_timestamp w)
is_buffer qt (to_buffer q r ts) h = ap (λ (x : ℕ). to_buffer x r ts) (eqb-true q qt h)
is_buffer qt to_drain h = never (sym h)

pub is_drain_lem : (w : Awaited) → is_drain w ≡ true → w ≡ to_drain
is_drain_lem (to_buffer q r ts) h = never (sym h)
is_drain_lem to_drain h = refl

module _ (p : Outstanding → Bool) where
  -- a pending answer of a queue is the answer to a buffer of it, and any other to a drain
  how_many_queue : (qt : ℕ) (m : List Pending)
      → how_many (λ x. p (outstanding_of x)) (keep (awaits (is_buffer_of qt)) m) ≡ how_many (λ x. p (buffer_outstanding qt (awaited_buffer x))) (keep (awaits (is_buffer_of qt)) m)
  how_many_queue qt m = how_many_kept (λ x. p (outstanding_of x)) (λ x. p (buffer_outstanding qt (awaited_buffer x))) (awaits (is_buffer_of qt)) (λ x h. ap (λ (w : Awaited). p (outstanding x.ticket w)) (is_buffer qt x.awaited h)) m

  how_many_drains : (m : List Pending) → how_many (λ x. p (outstanding_of x)) (keep (awaits is_drain) m) ≡ how_many (λ x. p (outstanding x.ticket to_drain)) (keep (awaits is_drain) m)
  how_many_drains m = how_many_kept (λ x. p (outstanding_of x)) (λ x. p (outstanding x.ticket to_drain)) (awaits is_drain) (λ x h. ap (λ (w : Awaited). p (outstanding x.ticket w)) (is_drain_lem x.awaited h)) m

  -- how much of a view passes a test
  abbrev in_view : View → ℕ
  in_view v = how_many p (outstanding_buffers 0x100 (v.queued input)) + how_many p (outstanding_buffers 0x101 (v.queued output)) + how_many p (map (λ (t : ℕ). outstanding t to_drain) v.drains)

  how_many_buffers : (qt : ℕ) (l : List Buffer) → how_many p (outstanding_buffers qt (by_resource l)) ≡ how_many p (outstanding_buffers qt l)
  how_many_buffers qt l =
      how_many_map p (buffer_outstanding qt) (by_resource l) ∙ ascending_how_many (λ (i : Buffer). i.resource) l (λ i. p (buffer_outstanding qt i)) ∙ sym (how_many_map p (buffer_outstanding qt) l)

  by_ledger : (m : List Pending) → all_of (awaits known) m ≡ true → how_many p (map outstanding_of m) ≡ in_view (view_of m)
  unfolding view_of
  by_ledger m h =
      omega (
        arith,
        how_many_map p outstanding_of m,
        how_many_kinds (λ x. p (outstanding_of x)) m h,
        queue input,
        queue output,
        how_many_drains m,
        how_many_map (λ t. p (outstanding t to_drain)) (λ (x : Pending). x.ticket) (keep (awaits is_drain) m),
        how_many_map p (λ (t : ℕ). outstanding t to_drain) (tickets_in (keep (awaits is_drain) m)),
      )
    where
      queue : (q : QueueType) → how_many (λ x. p (outstanding_of x)) (keep (awaits (is_buffer_of (queue_number q))) m) ≡ how_many p (outstanding_buffers (queue_number q) (buffers_in q m))
      queue q =
          let mine = keep (awaits (is_buffer_of (queue_number q))) m in
          how_many_queue (queue_number q) m
          ∙ sym (ascending_how_many (λ (x : Pending). resource_in x.awaited) mine (λ x. p (buffer_outstanding (queue_number q) (awaited_buffer x))))
          ∙ sym (how_many_map (λ i. p (buffer_outstanding (queue_number q) i)) awaited_buffer (by_number mine))
          ∙ sym (how_many_map p (buffer_outstanding (queue_number q)) (buffers_in q m))

  by_record : (r : Option Stream) → in_view (holding r) ≡ how_many p (outstanding_in r)
  unfolding holding
  by_record None = refl
  by_record (Some b) =
      omega (
        arith,
        how_many_buffers 0x100 (queued_in b.inputs.slots),
        how_many_buffers 0x101 (queued_in b.outputs.slots),
        how_many_append p (outstanding_buffers 0x100 (queued_in b.inputs.slots)) (outstanding_buffers 0x101 (queued_in b.outputs.slots) ++ outstanding_drain b.draining),
        how_many_append p (outstanding_buffers 0x101 (queued_in b.outputs.slots)) (outstanding_drain b.draining),
      )

  agree_pending : (d : Device) (l : Ledger) (n : ℕ) → Agree d l → how_many p (outstanding_to n l) ≡ how_many p (outstanding_in (record_of n d.places))
  agree_pending d l n g = by_ledger (keep (is_to n) l) (all_keep (awaits known) (is_to n) l g.knows) ∙ ap in_view (g.same_view n) ∙ by_record (record_of n d.places)

-- and how many these are is what going through the record gives
length_record : (r : Option Stream) → pending_of r ≡ length (outstanding_in r)
length_record None = refl
length_record (Some b) =
    let ins = outstanding_buffers 0x100 (queued_in b.inputs.slots) in
    let outs = outstanding_buffers 0x101 (queued_in b.outputs.slots) in
    omega (
      arith,
      length-append ins (outs ++ outstanding_drain b.draining),
      length-append outs (outstanding_drain b.draining),
      length-map (queued_in b.inputs.slots) (buffer_outstanding 0x100),
      length-map (queued_in b.outputs.slots) (buffer_outstanding 0x101),
      length-map (to_list b.draining) (λ (t : ℕ). outstanding t to_drain),
    )

pub agree_figure : (d : Device) (l : Ledger) (n : ℕ) → Agree d l → pending_of (record_of n d.places) ≡ length (outstanding_to n l)
agree_figure d l n g =
    length_record (record_of n d.places)
    ∙ sym (how_many_all (outstanding_in (record_of n d.places)))
    ∙ sym (agree_pending (λ _. true) d l n g)
    ∙ how_many_all (outstanding_to n l)

-- Each is answered once or pending once

how_many_in_order : (p : Pending → Bool) (l : List Pending) → all_of (awaits known) l ≡ true → how_many p (in_order l) ≡ how_many p l
unfolding in_order
how_many_in_order p l h =
    let ins = keep (awaits (is_buffer_of 0x100)) l in
    let outs = keep (awaits (is_buffer_of 0x101)) l in
    let drains = keep (awaits is_drain) l in
    omega (
      arith,
      how_many_append p (by_number ins) (by_number outs ++ drains),
      how_many_append p (by_number outs) drains,
      ascending_how_many (λ (x : Pending). resource_in x.awaited) ins p,
      ascending_how_many (λ (x : Pending). resource_in x.awaited) outs p,
      how_many_kinds p l h,
    )

-- what a step adds
abbrev new : ℕ → Act → Bool → List Pending
new k a acc = cond acc (adds k a) []

abbrev added : ℕ → List Event → List Pending
added k [] = []
added k (e ∷ es) = new k e.step.act (accepted e) ++ added (suc k) es

how_many_after : (p : Pending → Bool) (k : ℕ) (a : Act) (z acc : Bool) (l : Ledger) → all_of (awaits known) l ≡ true
    → how_many p (completed (noted k a z acc) l) + how_many p (ledger_after (noted k a z acc) l) ≡ how_many p (new k a acc) + how_many p l
how_many_after p k a z false l h = refl
how_many_after p k a z true l h =
    omega (
      arith,
      how_many_append p (adds k a) (keep (λ x. not (completed_by a x)) l),
      how_many_split p (completed_by a) l,
      how_many_in_order p (keep (completed_by a) l) (all_keep (awaits known) (completed_by a) l h),
    )

-- every pending answer that is completed is reached by an answer
reached_all : (ws : List Written) (ps : List Pending) (x : List ℕ) → tickets ws ≡ map (λ (p : Pending). p.ticket) ps ++ x → reached ws ps ≡ ps
reached_all [] [] x h = refl
reached_all [] (p ∷ ps) x h = cc
reached_all (w ∷ ws) [] x h = refl
reached_all (w ∷ ws) (p ∷ ps) x h = ap (λ r. p ∷ r) (reached_all ws ps x (tail-eq_of_cons-eq h))

-- the ledger of every event knows its queues
abbrev Knows : ℕ → Ledger → List Event → Type 0
Knows k l [] = Unit {0}
Knows k l (e ∷ es) = (all_of (awaits known) l ≡ true) × Knows (suc k) (ledger_after (noted_of k e) l) es

all_know : (k : ℕ) (d : Device) (l : Ledger) (ss : List Step) → Agree d l → good_steps ss ≡ true → Knows k l (events_of d ss)
all_know k d l [] g m = tt
all_know k d l (s ∷ ss) g m = (
  g.knows,
  all_know (suc k) (step_on d s).device (ledger_after (noted_of k (event_of s (step_on d s))) l) ss
      (agree_step k d l s g (and_left (good_act s.act) (good_steps ss) m)) (and_right (good_act s.act) (good_steps ss) m),
)

balance : (j k : ℕ) (l : Ledger) (es : List Event) → AsExpected k l es → Knows k l es
    → answers_to j k l es + how_many (of_step j) (ledger_from k l es) ≡ how_many (of_step j) (added k es) + how_many (of_step j) l
balance j k l [] h w = refl
balance j k l (e ∷ es) h w =
    let s = noted_of k e in
    omega (
      arith,
      balance j (suc k) (ledger_after s l) es h.1 w.1,
      ap (how_many (of_step j)) (reached_all (answers_of e) (completed s l) (own_tickets s.act s.is_zero s.accepted) h.0),
      how_many_after (of_step j) k s.act s.is_zero s.accepted l w.0,
      how_many_append (of_step j) (new k s.act s.accepted) (added (suc k) es),
    )

-- step numbers are each given once

pending_other : (j k t n : ℕ) (w : Option Awaited) → (k ≡ j → ⊥) → how_many (of_step j) (pending k t n w) ≡ 0
pending_other j k t n None h = refl
pending_other j k t n (Some w) h = simp (ne_eqb k j h)

new_other : (j k : ℕ) (a : Act) (acc : Bool) → (k ≡ j → ⊥) → how_many (of_step j) (new k a acc) ≡ 0
new_other j k a true h = pending_other j k (step_ticket a) (step_stream a) (awaited_by a) h
new_other j k a false h = refl

added_later : (j k : ℕ) (es : List Event) → j < k → how_many (of_step j) (added k es) ≡ 0
added_later j k [] h = refl
added_later j k (e ∷ es) h =
    omega (
      arith,
      how_many_append (of_step j) (new k e.step.act (accepted e)) (added (suc k) es),
      new_other j k e.step.act (accepted e) (λ q. omega arith),
      added_later j (suc k) es (omega arith),
    )

pending_own : (k t n : ℕ) (w : Option Awaited) → is_none w ≡ false → how_many (of_step k) (pending k t n w) ≡ 1
pending_own k t n None h = never h
pending_own k t n (Some w) h = simp (eqb_same k)

added_once : (j k : ℕ) (before later : List Event) (e : Event) → j ≡ k + length before → accepted e ≡ true → is_none (awaited_by e.step.act) ≡ false
    → how_many (of_step j) (added k (before ++ e ∷ later)) ≡ 1
added_once j k [] later e i acc h =
    let a = e.step.act in
    let here : k ≡ j = omega arith in
    let one : how_many (of_step j) (new k a (accepted e)) ≡ 1 = simp acc (subst (λ (x : ℕ). how_many (of_step x) (adds k a) ≡ 1) here (pending_own k (step_ticket a) (step_stream a) (awaited_by a) h)) in
    omega (arith, how_many_append (of_step j) (new k a (accepted e)) (added (suc k) later), one, added_later j (suc k) later (omega arith))
added_once j k (y ∷ before) later e i acc h =
    omega (
      arith,
      how_many_append (of_step j) (new k y.step.act (accepted y)) (added (suc k) (before ++ e ∷ later)),
      new_other j k y.step.act (accepted y) (λ q. omega arith),
      added_once j (suc k) before later e (omega arith) acc h,
    )

-- After a destruction nothing older of its stream is pending

old_pending : (n j k t m : ℕ) (w : Option Awaited) → j ≤ k → keep (older n j) (pending k t m w) ≡ []
old_pending n j k t m None h = refl
old_pending n j k t m (Some w) h = decide (eqb m n) (λ e. simp (e, le-ltb k j h)) (λ e. simp e)

old_after : (n j k : ℕ) (a : Act) (z acc : Bool) (l : Ledger) → j ≤ k → keep (older n j) l ≡ [] → keep (older n j) (ledger_after (noted k a z acc) l) ≡ []
old_after n j k a z false l h e = e
old_after n j k a z true l h e =
    keep_append (older n j) (adds k a) (keep (λ x. not (completed_by a x)) l)
    ∙ ap₂ (λ (x y : List Pending). x ++ y) (old_pending n j k (step_ticket a) (step_stream a) (awaited_by a) h)
    (keep_comm (older n j) (λ x. not (completed_by a x)) l ∙ ap (keep (λ x. not (completed_by a x))) e)

old_from : (n j k : ℕ) (l : Ledger) (es : List Event) → j ≤ k → keep (older n j) l ≡ [] → keep (older n j) (ledger_from k l es) ≡ []
old_from n j k l [] h e = e
old_from n j k l (x ∷ es) h e =
    old_from n j (suc k) (ledger_after (noted_of k x) l) es (omega arith) (old_after n j k x.step.act (eqb x.refusal 0) (accepted x) l h e)

-- the ledger just after a destruction
destroy_after : (j k t : ℕ) (f : List ℕ) (z : Bool) (l : Ledger) → field 4 f 0 ≡ 0x0102 → keep (older (field 4 f 4) j) (ledger_after (noted k (command t f) z true) l) ≡ []
unfolding awaited_by completes
destroy_after j k t f z l e =
    simp e
    (keep_excluded (λ x. not (eqb x.stream (field 4 f 4) && true)) (older (field 4 f 4) j) (λ x h. decide (eqb x.stream (field 4 f 4)) (λ q. never (sym (simp q at h))) (λ q. simp q)) l)

destroyed_from : (j k : ℕ) (l : Ledger) (before later : List Event) (e : Event) (t : ℕ) (f : List ℕ) → j ≡ k + length before → e.step.act ≡ command t f
    → field 4 f 0 ≡ 0x0102 → accepted e ≡ true → keep (older (field 4 f 4) j) (ledger_from k l (before ++ e ∷ later)) ≡ []
destroyed_from j k l [] later e t f i a x acc =
    old_from (field 4 f 4) j (suc k) (ledger_after (noted_of k e) l) later (omega arith) (simp (a, acc) (destroy_after j k t f (eqb e.refusal 0) l x))
destroyed_from j k l (y ∷ before) later e t f i a x acc = destroyed_from j (suc k) (ledger_after (noted_of k y) l) before later e t f (omega arith) a x acc

-- Condition 3

pub condition3 : OnDevices
condition3 ss m =
    record {
      isolated = λ n h. let a = isolated n ss h in (a.0, a.1, ap pending_of a.1);
      whole_answers = all_whole fresh ss well_fresh m;
      answered = as_expected 0 fresh [] ss agree_fresh m;
      pending_exactly = λ n p. agree_pending p (final fresh ss) (ledger_of (events_of fresh ss)) n (agree_end 0 fresh [] ss agree_fresh m);
      figure_exactly = λ n. agree_figure (final fresh ss) (ledger_of (events_of fresh ss)) n (agree_end 0 fresh [] ss agree_fresh m);
      once = λ before later e split acc h.
          let j = length before in
          omega (
            arith,
            balance j 0 [] (events_of fresh ss) (as_expected 0 fresh [] ss agree_fresh m) (all_know 0 fresh [] ss agree_fresh m),
            ap (λ (es : List Event). how_many (of_step j) (added 0 es)) split,
            added_once j 0 before later e (omega arith) acc h,
          );
      destroyed = λ before later e t f split a x acc.
          subst (λ (es : List Event). keep (older (field 4 f 4) (length before)) (ledger_of es) ≡ []) (sym split)
          (destroyed_from (length before) 0 [] before later e t f (omega arith) a x acc);
    }
