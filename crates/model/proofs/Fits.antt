-- Each step of a stream keeps to the ledger: what is pending by its record after the step, the tickets of its answers, and that a step which is
-- not accepted leaves the record alone.
use mathlib.Core.Path.{◌≡◌, refl, sym, ap, ◌∙◌, subst}
use mathlib.Core.Bool.{Bool, true, false, cond, not, ◌&&◌, ◌||◌, and-false, or-false}
use Rattle.std.specs.Prelude.{Option, None, Some}
use mathlib.Core.List.{List, [], ◌∷◌, ◌++◌, map, append-nil, append_assoc, map-append}
use Prim.Native.Nat.{ℕ}
use lib.ListN.{length}
use lib.Dec.{eqb}
use borrow.Author.Tests.{not-false}
use Rattle.laws.specs.Lists.{keep, any_of, Each, is_empty, to_list}
use Rattle.laws.specs.Ascending.{insert_by}
use Rattle.laws.proofs.Tests.{never}
use Rattle.laws.proofs.Lists.{cond_elim, each_map, eqb_same, eqb_sym, empty_is, keep_const, keep_ext, any_append, none_is, keep_ascending}
use Rattle.laws.proofs.InOrder.{tests_cases, tests_all}
use Rattle.field.specs.Field.{field}
use Rattle.model.specs.Device.{QueueType, input, output, is_input, queued, dequeued, Queue, Stream, new_stream, queue_of, with_queue, with_drain, with_slots, Buffer, queued_in, by_resource, buffers, buffer_of, present, add_resource, set_state, free_all}
use Rattle.model.specs.Frames.{QueueCommand, create_resource, queue_resource, destroy_all, clear, get_parameters, set_parameters, LiveCommand, destroy, drain, control, to_queue, create, live, CommandRule, commands, rule_of, wrong_length, queue_number, queue_named, coded_format, resource_id, timestamp_sent}
use Rattle.model.specs.Answers.{ErrorCode, invalid_operation, invalid_stream, invalid_parameter, unsupported_control, Response, success, buffer_done, drain_done, parameters, failure, Answer}
use Rattle.model.specs.Replies.{Reply, refuse, reply, Request, own, fail}
use Rattle.model.specs.Commands.{Surroundings, on_create, stopped_answers, drain_ended, without_ended, drain_answers, on_destroy, on_drain, on_create_resource, on_queue, on_destroy_all, cleared, on_clear, on_get, on_set, on_queue_of, on_live, on_stream, on_rule, on_command}
use Rattle.model.specs.Reports.{has_eos, finish_answers, finish_leaves, on_finish, on_drained}
use Rattle.model.specs.Steps.{Act, command, finish, drained, serve}
use Rattle.model.specs.Ledger.{Awaited, to_buffer, to_drain, awaited_by, is_buffer_of, is_drain, resource_in, completes, step_ticket, own_tickets}
use Rattle.model.proofs.Slots.{by_res, Distinct, queued_stop, queued_free, queued_add, queued_finish, queued_only, queued_more, is_res}
use Rattle.model.proofs.Origins.{named_cases, finish_cases, drained_cases}
use Rattle.model.proofs.Rules.{by_type, named_number}
use Rattle.model.proofs.Seen.{NotAgain}
use Rattle.model.proofs.LedgerView.{View, pick, buffer_tickets, tickets_of, view_after, tickets_completed}

-- resource numbers are distinct
abbrev pub Sane : Option Stream → Type 0
Sane None = Unit {0}
Sane (Some b) = Distinct b.inputs.slots × Distinct b.outputs.slots

-- what is pending by a record
unfoldable pub holding : Option Stream → View
holding None = record { queued = λ q. []; drains = [] }
holding (Some b) = record { queued = λ q. buffers q b; drains = to_list b.draining }

abbrev pub is_failure : Response → Bool
is_failure success = false
is_failure (buffer_done q ts flags) = false
is_failure drain_done = false
is_failure (parameters ws) = false
is_failure (failure e) = true

abbrev pub fails : Answer → Bool
fails a = is_failure a.response

-- refused by no number and answered by no error
abbrev pub accepted_reply : Reply → Bool
accepted_reply v = eqb v.refusal 0 && not (any_of fails v.answers)

-- not accepted: refused by the host's numbers, or answered by one error
pub data Rejected (n t : ℕ) (self : Option Stream) : Reply → Type 0 where
  by_host : (k : ℕ) → eqb k 0 ≡ false → Rejected n t self (refuse k self)
  by_error : (e : ErrorCode) → Rejected n t self (reply (record { ticket = t; stream = n; response = failure e } ∷ []) self)

-- of a queue that the ledger knows
abbrev pub known : Awaited → Bool
known (to_buffer q r ts) = eqb q 0x100 || eqb q 0x101
known to_drain = true

abbrev pub known_if : Option Awaited → Bool
known_if None = true
known_if (Some w) = known w

abbrev pub answer_tickets : List Answer → List ℕ
answer_tickets = map (λ (a : Answer). a.ticket)

-- a step of stream n with ticket t: p is what it completes if it is accepted, w what it adds, me the tickets of its own answer
pub record Fits (p : Awaited → Bool) (w : Option Awaited) (n t : ℕ) (me : Bool → Bool → List ℕ) (self : Option Stream) (v : Reply) : Type 0 where
  pub acc : Bool
  pub is : accepted_reply v ≡ acc
  pub held : holding v.next ≡ view_after p w t acc (holding self)
  pub told : answer_tickets v.answers ≡ tickets_completed p acc (holding self) ++ me (eqb v.refusal 0) acc
  pub adds : acc ≡ true → known_if w ≡ true
  pub rejected : acc ≡ false → Rejected n t self v

abbrev me : ℕ → Bool → Bool → Bool → List ℕ
me t answers_later is_zero acc = cond (is_zero && not (acc && answers_later)) (t ∷ []) []

abbrev nobody : Bool → Bool → List ℕ
nobody is_zero acc = []

-- refused by the host's numbers, and with an error answer

refuse_fits : (p : Awaited → Bool) (w : Option Awaited) (n t k : ℕ) (self : Option Stream) → eqb k 0 ≡ false → Fits p w n t nobody self (refuse k self)
refuse_fits p w n t k self z =
    record { acc = false; is = simp z; held = refl; told = refl; adds = λ e. never (sym e); rejected = λ _. by_host k z }

fail_fits : (p : Awaited → Bool) (w : Option Awaited) (c : Request) (answers_later : Bool) (e : ErrorCode)
    → Fits p w c.stream c.ticket (me c.ticket answers_later) c.self (fail c e)
fail_fits p w c answers_later e =
    record { acc = false; is = refl; held = refl; told = refl; adds = λ z. never (sym z); rejected = λ _. by_error e }

-- what the tests of a picked list come to
pick_all : (v : View) → pick (λ x. true) v ≡ v
pick_all v = λ i. record { queued = λ q. keep_const true (v.queued q) i; drains = v.drains }

pick_none : (v : View) → tickets_of (pick (λ x. false) v) ≡ []
pick_none v = simp (keep_const false (v.queued input), keep_const false (v.queued output))

-- one answer under the command's own ticket, and nothing pending more or less
quiet_fits : (n t : ℕ) (a : Answer) (self next : Option Stream) → a.ticket ≡ t → fails a ≡ false → holding next ≡ holding self
    → Fits (λ x. false) None n t (me t false) self (reply (a ∷ []) next)
quiet_fits n t a self next k e h =
    record {
      acc = true;
      is = simp e;
      held = h ∙ sym (pick_all (holding self));
      told = simp (pick_none (holding self)) (ap (λ (x : ℕ). x ∷ []) k);
      adds = λ _. refl;
      rejected = λ z. never z;
    }

-- no answer to a stopped buffer or drain is an error

fine_stopped : (n : ℕ) (q : QueueType) (l : List Buffer) → any_of fails (stopped_answers n q l) ≡ false
fine_stopped n q [] = refl
fine_stopped n q (i ∷ l) = fine_stopped n q l

fine_drain : (n : ℕ) (d : Option ℕ) → any_of fails (drain_answers n d) ≡ false
fine_drain n None = refl
fine_drain n (Some t) = refl

tickets_stopped : (n : ℕ) (q : QueueType) (l : List Buffer) → answer_tickets (stopped_answers n q l) ≡ buffer_tickets l
tickets_stopped n q [] = refl
tickets_stopped n q (i ∷ l) = ap (λ r. i.ticket ∷ r) (tickets_stopped n q l)

tickets_drain : (n : ℕ) (d : Option ℕ) → answer_tickets (drain_answers n d) ≡ to_list d
tickets_drain n None = refl
tickets_drain n (Some t) = refl

-- what is pending where one queue is changed: that queue's, and the other's as before
view_with : (q : QueueType) (x : Queue) (b : Stream) (g : QueueType → List Buffer) (d : List ℕ) → by_resource (queued_in x.slots) ≡ g q
    → ((o : QueueType) → eqb (queue_number q) (queue_number o) ≡ false → buffers o b ≡ g o) → to_list b.draining ≡ d
    → holding (Some (with_queue q x b)) ≡ record { queued = g; drains = d }
unfolding holding
view_with input x b g d here other e = λ i. record { queued = λ o. at o i; drains = e i }
  where
    at : (o : QueueType) → buffers o (with_queue input x b) ≡ g o
    at input = here
    at output = other output refl
view_with output x b g d here other e = λ i. record { queued = λ o. at o i; drains = e i }
  where
    at : (o : QueueType) → buffers o (with_queue output x b) ≡ g o
    at input = other input refl
    at output = here

same_queued : (q : QueueType) (x : Queue) (b : Stream) → queued_in x.slots ≡ queued_in (queue_of q b).slots → holding (Some (with_queue q x b)) ≡ holding (Some b)
unfolding holding
same_queued q x b h = view_with q x b (λ o. buffers o b) (to_list b.draining) (ap by_resource h) (λ o _. refl) refl

sane_of : (q : QueueType) (b : Stream) → Sane (Some b) → Distinct (queue_of q b).slots
sane_of input b s = s.0
sane_of output b s = s.1

known_queue : (q : QueueType) (r ts : ℕ) → known (to_buffer (queue_number q) r ts) ≡ true
known_queue input r ts = refl
known_queue output r ts = refl

-- an accepted queueing
queue_fits : (q : QueueType) (n t r ts : ℕ) (b : Stream) → Sane (Some b) → present r (queue_of q b).slots ≡ true → buffer_of r (queued_in (queue_of q b).slots) ≡ None
    → Fits (λ x. false) (Some (to_buffer (queue_number q) r ts)) n t (me t true) (Some b)
    (reply [] (Some (with_queue q (with_slots (set_state r (queued t ts) (queue_of q b).slots) (queue_of q b)) b)))
unfolding holding
queue_fits q n t r ts b s p f =
    record {
      acc = true;
      is = refl;
      held = view_with q (with_slots (set_state r (queued t ts) (queue_of q b).slots) (queue_of q b)) b _ _
          (simp (eqb_same (queue_number q), keep_const true (buffers q b)) (queued_more r t ts (queue_of q b).slots (sane_of q b s) p f))
          (λ o h. simp (h, keep_const true (buffers o b))) refl;
      told = simp (pick_none (holding (Some b)));
      adds = λ _. known_queue q r ts;
      rejected = λ z. never z;
    }

buffers_drain : (d : Option ℕ) (b : Stream) (q : QueueType) → buffers q (with_drain d b) ≡ keep (λ i. true) (buffers q b)
buffers_drain d b input = sym (keep_const true (buffers input b))
buffers_drain d b output = sym (keep_const true (buffers output b))

-- an accepted drain
drain_fits : (n t : ℕ) (b : Stream) → b.draining ≡ None → Fits (λ x. false) (Some to_drain) n t (me t true) (Some b) (reply [] (Some (with_drain (Some t) b)))
unfolding holding
drain_fits n t b d =
    record {
      acc = true;
      is = refl;
      held = λ i. record { queued = λ q. buffers_drain (Some t) b q i; drains = t ∷ to_list (sym d i) };
      told = simp (pick_none (holding (Some b)));
      adds = λ _. refl;
      rejected = λ z. never z;
    }

-- an accepted clear
abbrev clears : ℕ → Awaited → Bool
clears qt w = is_buffer_of qt w || (eqb qt 0x100 && is_drain w)

clear_held : (q : QueueType) (b : Stream)
    → holding (Some (with_queue q (cleared (queue_of q b)) (without_ended (is_input q) b))) ≡ view_after (clears (queue_number q)) None 0 true (holding (Some b))
unfolding holding
clear_held q b = held q
  where
    left : QueueType → QueueType → List Buffer
    left x o = (view_after (clears (queue_number x)) None 0 true (holding (Some b))).queued o

    undrained : QueueType → Stream
    undrained input = with_drain None b
    undrained output = b

    other : (x o : QueueType) → eqb (queue_number x) (queue_number o) ≡ false → buffers o (undrained x) ≡ left x o
    other input input h = never h
    other input output h = sym (keep_const true (buffers output b))
    other output input h = sym (keep_const true (buffers input b))
    other output output h = never h

    held : (x : QueueType) → holding (Some (with_queue x (cleared (queue_of x b)) (without_ended (is_input x) b))) ≡ view_after (clears (queue_number x)) None 0 true (holding (Some b))
    held input = view_with input (cleared b.inputs) (undrained input) (left input) _ (ap by_resource (queued_stop b.inputs.slots) ∙ sym (keep_const false (buffers input b))) (other input) refl
    held output = view_with output (cleared b.outputs) (undrained output) (left output) _ (ap by_resource (queued_stop b.outputs.slots) ∙ sym (keep_const false (buffers output b))) (other output) refl

clear_told : (q : QueueType) (n t : ℕ) (b : Stream)
    → answer_tickets (stopped_answers n q (buffers q b) ++ (drain_answers n (drain_ended (is_input q) b) ++ record { ticket = t; stream = n; response = success } ∷ []))
    ≡ tickets_of (pick (clears (queue_number q)) (holding (Some b))) ++ t ∷ []
unfolding holding
clear_told input n t b = simp (map-append, tickets_stopped, tickets_drain n (drain_ended true b), keep_const true (buffers input b), keep_const false (buffers output b), append_assoc)
clear_told output n t b = simp (map-append, tickets_stopped, keep_const true (buffers output b), keep_const false (buffers input b), append-nil)

clear_fits : (q : QueueType) (n t : ℕ) (b : Stream)
    → Fits (clears (queue_number q)) None n t (me t false) (Some b)
    (reply (stopped_answers n q (buffers q b) ++ (drain_answers n (drain_ended (is_input q) b) ++ record { ticket = t; stream = n; response = success } ∷ []))
    (Some (with_queue q (cleared (queue_of q b)) (without_ended (is_input q) b))))
clear_fits q n t b =
    record {
      acc = true;
      is = simp (any_append fails, fine_stopped n q (buffers q b), fine_drain n (drain_ended (is_input q) b));
      held = clear_held q b;
      told = clear_told q n t b;
      adds = λ _. refl;
      rejected = λ z. never z;
    }

-- an accepted destruction
destroy_fits : (c : Request) (b : Stream) → Fits (λ x. true) None c.stream c.ticket (me c.ticket false) (Some b) (on_destroy c b)
unfolding holding on_destroy
destroy_fits c b =
    let n = c.stream in
    record {
      acc = true;
      is = simp (any_append fails, fine_stopped n input (buffers input b), fine_stopped n output (buffers output b), fine_drain n b.draining);
      held = λ i. record { queued = λ q. sym (keep_const false (buffers q b)) i; drains = [] };
      told = simp (map-append, tickets_stopped, tickets_drain, keep_const true (buffers input b), keep_const true (buffers output b), append_assoc);
      adds = λ _. refl;
      rejected = λ z. never z;
    }

-- an accepted finish report: its buffer, and the drain where it ends it
abbrev finishes : ℕ → ℕ → Bool → Awaited → Bool
finishes qt r ends x = (is_buffer_of qt x && eqb (resource_in x) r) || (ends && is_drain x)

-- its buffer, by the queue
abbrev is_finished : ℕ → ℕ → QueueType → Buffer → Bool
is_finished qt r o x = eqb (queue_number o) qt && is_res r x

-- the part of a view that passes a test, by what the test says of the buffers
pick_as : (t : Awaited → Bool) (u : QueueType → Buffer → Bool) (v : View) → ((o : QueueType) (x : Buffer) → t (to_buffer (queue_number o) x.resource x.timestamp) ≡ u o x)
    → pick t v ≡ record { queued = λ o. keep (u o) (v.queued o); drains = cond (t to_drain) v.drains [] }
pick_as t u v h = λ i. record { queued = λ o. keep_ext (λ x. t (to_buffer (queue_number o) x.resource x.timestamp)) (u o) (h o) (v.queued o) i; drains = cond (t to_drain) v.drains [] }

one_of : (i : Buffer) → by_resource (i ∷ []) ≡ i ∷ []
unfolding insert_by
one_of i = refl

module _ (q : QueueType) (n r : ℕ) (ends : Bool) (b : Stream) where
  abbrev done : Awaited → Bool
  done = finishes (queue_number q) r ends

  abbrev mine : QueueType → Buffer → Bool
  mine = is_finished (queue_number q) r

  finish_told : (i : Buffer) → Sane (Some b) → buffer_of r (queued_in (queue_of q b).slots) ≡ Some i
      → i.ticket ∷ answer_tickets (drain_answers n (drain_ended ends b)) ≡ tickets_of (pick done (holding (Some b)))
  unfolding holding
  finish_told i s f =
      ap (λ l. i.ticket ∷ l) (tickets_drain n (drain_ended ends b) ∙ drains_ended ends)
      ∙ go q refl
      ∙ ap tickets_of (sym (pick_as done mine (holding (Some b)) (λ o x. simp (and-false ends, or-false (mine o x)))))
    where
      out : keep (is_res r) (buffers q b) ≡ i ∷ []
      out = keep_ascending by_res (is_res r) (queued_in (queue_of q b).slots) ∙ ap by_resource (queued_only r i (queue_of q b).slots (sane_of q b s) f) ∙ one_of i

      drains_ended : (x : Bool) → to_list (drain_ended x b) ≡ cond (x && true) (to_list b.draining) []
      drains_ended true = refl
      drains_ended false = refl

      go : (o : QueueType) → q ≡ o → i.ticket ∷ cond (ends && true) (to_list b.draining) []
          ≡ tickets_of (record { queued = λ x. keep (mine x) (buffers x b); drains = cond (ends && true) (to_list b.draining) [] })
      go input e = simp (e, subst (λ (x : QueueType). keep (is_res r) (buffers x b) ≡ i ∷ []) e out, keep_const false (buffers output b))
      go output e = simp (e, subst (λ (x : QueueType). keep (is_res r) (buffers x b) ≡ i ∷ []) e out, keep_const false (buffers input b))

  finish_held : holding (Some (with_queue q (with_slots (set_state r dequeued (queue_of q b).slots) (queue_of q b)) (without_ended ends b))) ≡ view_after done None 0 true (holding (Some b))
  unfolding holding
  finish_held =
      let x = (queue_of q b).slots in
      view_with q (with_slots (set_state r dequeued x) (queue_of q b)) (without_ended ends b) _ _
      (simp (eqb_same (queue_number q)) (ap by_resource (queued_finish r x) ∙ sym (keep_ascending by_res (λ y. not (is_res r y)) (queued_in x))))
      (λ o h. simp (eqb_sym (queue_number q) (queue_number o) h) (same_buffers ends o ∙ sym (keep_const true (buffers o b)))) (drains_left ends)
      ∙ sym (pick_as (λ w. not (done w)) (λ o y. not (mine o y)) (holding (Some b)) (λ o y. simp (and-false ends, or-false (mine o y))))
    where
      same_buffers : (e : Bool) (o : QueueType) → buffers o (without_ended e b) ≡ buffers o b
      same_buffers true input = refl
      same_buffers true output = refl
      same_buffers false o = refl

      drains_left : (e : Bool) → to_list (without_ended e b).draining ≡ cond (not (e && true)) (to_list b.draining) []
      drains_left true = refl
      drains_left false = refl

pub finish_accepted : (n flags ts : ℕ) (b : Stream) (q : QueueType) (i : Buffer) (next : Option Stream) → accepted_reply (reply (finish_answers n flags ts b q i) next) ≡ true
finish_accepted n flags ts b q i next = simp (fine_drain n (drain_ended (has_eos flags) b))

finish_fits : (q : QueueType) (n r flags ts : ℕ) (i : Buffer) (b : Stream) → Sane (Some b) → buffer_of r (queued_in (queue_of q b).slots) ≡ Some i
    → Fits (finishes (queue_number q) r (has_eos flags)) None n 0 nobody (Some b) (reply (finish_answers n flags ts b q i) (Some (finish_leaves r flags b q)))
finish_fits q n r flags ts i b s f =
    record {
      acc = true;
      is = finish_accepted n flags ts b q i (Some (finish_leaves r flags b q));
      held = finish_held q n r (has_eos flags) b;
      told = finish_told q n r (has_eos flags) b i s f ∙ sym (append-nil _);
      adds = λ _. refl;
      rejected = λ z. never z;
    }

-- an accepted drained report
drained_fits : (n t : ℕ) (b : Stream) → b.draining ≡ Some t
    → Fits is_drain None n 0 nobody (Some b) (reply (record { ticket = t; stream = n; response = drain_done } ∷ []) (Some (with_drain None b)))
unfolding holding
drained_fits n t b d =
    record {
      acc = true;
      is = refl;
      held = λ i. record { queued = λ q. buffers_drain None b q i; drains = [] };
      told = simp (d, keep_const false (buffers input b), keep_const false (buffers output b));
      adds = λ _. refl;
      rejected = λ z. never z;
    }

-- The walk over the commands

-- a request, by its parts
abbrev pub request_of : ℕ → ℕ → Option Stream → List ℕ → Request
request_of n t self f = record { stream = n; ticket = t; frame = f; self = self }

-- what the ledger makes of a command of type ty
abbrev completes_type : ℕ → List ℕ → Awaited → Bool
completes_type ty f w = eqb ty 0x0102 || (eqb ty 0x0107 && clears (field 4 f 8) w)

abbrev awaited_type : ℕ → List ℕ → Option Awaited
awaited_type ty f = cond (eqb ty 0x0105) (Some (to_buffer (field 4 f 8) (field 4 f 12) (field 8 f 16))) (cond (eqb ty 0x0103) (Some to_drain) None)

abbrev answers_later : ℕ → Bool
answers_later ty = eqb ty 0x0105 || eqb ty 0x0103

abbrev FitsType : ℕ → ℕ → ℕ → List ℕ → Option Stream → Reply → Type 0
FitsType ty n t f self v = Fits (completes_type ty f) (awaited_type ty f) n t (me t (answers_later ty)) self v

fail_type : (ty n t : ℕ) (f : List ℕ) (self : Option Stream) (e : ErrorCode) → FitsType ty n t f self (fail (request_of n t self f) e)
fail_type ty n t f self e = fail_fits (completes_type ty f) (awaited_type ty f) (request_of n t self f) (answers_later ty) e

module _ (n t : ℕ) (f : List ℕ) (b : Stream) (s : Sane (Some b)) where
  abbrev FitsLive : ℕ → Reply → Type 0
  FitsLive ty v = FitsType ty n t f (Some b) v

  abbrev c : Request
  c = request_of n t (Some b) f

  bad : (ty : ℕ) (e : ErrorCode) → FitsLive ty (fail c e)
  bad ty e = fail_type ty n t f (Some b) e

  -- a command to the queue that it names
  in_queue_lem : (ty : ℕ) (k : QueueCommand) → ((q : QueueType) → queue_named (field 4 f 8) ≡ Some q → FitsLive ty (on_queue_of k c b q)) → FitsLive ty (on_live (to_queue k) c b)
  in_queue_lem ty k h = named_cases (FitsLive ty) k c b (bad ty invalid_parameter) h

  queued_live : FitsLive 0x0105 (on_live (to_queue queue_resource) c b)
  unfolding on_queue
  queued_live =
      in_queue_lem 0x0105 queue_resource (λ q e. tests_cases (FitsLive 0x0105) (fail c) _ (bad 0x0105) (λ h₁ h₂ h₃ h₄.
      subst (λ (x : ℕ). Fits (λ w. false) (Some (to_buffer x (resource_id f) (timestamp_sent f))) n t (me t true) (Some b)
      (reply [] (Some (with_queue q (with_slots (set_state (resource_id f) (queued t (timestamp_sent f)) (queue_of q b).slots) (queue_of q b)) b))))
      (sym (named_number (field 4 f 8) q e))
      (queue_fits q n t (resource_id f) (timestamp_sent f) b s (not-false _ h₃) (none_is _ (not-false _ h₄)))))

  cleared_live : FitsLive 0x0107 (on_live (to_queue clear) c b)
  unfolding on_clear
  cleared_live =
      in_queue_lem 0x0107 clear (λ q e.
      subst (λ (x : ℕ). Fits (clears x) None n t (me t false) (Some b)
      (reply (stopped_answers n q (buffers q b) ++ (drain_answers n (drain_ended (is_input q) b) ++ own c success ∷ [])) (Some (with_queue q (cleared (queue_of q b)) (without_ended (is_input q) b)))))
      (sym (named_number (field 4 f 8) q e)) (clear_fits q n t b))

  -- a command that neither adds nor completes anything changes one queue at most, and not what is Queued in it
  quiet : (q : QueueType) (x : Queue) → queued_in x.slots ≡ queued_in (queue_of q b).slots
      → Fits (λ w. false) None n t (me t false) (Some b) (reply (own c success ∷ []) (Some (with_queue q x b)))
  quiet q x h = quiet_fits n t (own c success) (Some b) (Some (with_queue q x b)) refl refl (same_queued q x b h)

  resource_live : FitsLive 0x0104 (on_live (to_queue create_resource) c b)
  unfolding on_create_resource
  resource_live =
      in_queue_lem 0x0104 create_resource (λ q e. tests_all (FitsLive 0x0104) (fail c) _ (bad 0x0104)
      (let x = (queue_of q b).slots in
      quiet q (with_slots (add_resource (resource_id f) x) (queue_of q b)) (queued_add (resource_id f) x)))

  freed_live : FitsLive 0x0106 (on_live (to_queue destroy_all) c b)
  unfolding on_destroy_all
  freed_live =
      in_queue_lem 0x0106 destroy_all (λ q e. tests_cases (FitsLive 0x0106) (fail c) _ (bad 0x0106) (λ h.
      let x = (queue_of q b).slots in
      let none_queued : not (is_empty (queued_in x)) ≡ false = h in
      quiet q (with_slots (free_all x) (queue_of q b)) (queued_free x ∙ sym (empty_is _ (not-false _ none_queued)))))

  got_live : FitsLive 0x0108 (on_live (to_queue get_parameters) c b)
  unfolding on_get
  got_live = in_queue_lem 0x0108 get_parameters (λ q e. quiet_fits n t (own c (parameters _)) (Some b) (Some b) refl refl refl)

  set_live : FitsLive 0x0109 (on_live (to_queue set_parameters) c b)
  unfolding on_set
  set_live = in_queue_lem 0x0109 set_parameters (λ q e. tests_all (FitsLive 0x0109) (fail c) _ (bad 0x0109) (quiet q _ refl))

  drain_live : FitsLive 0x0103 (on_drain c b)
  unfolding on_drain
  drain_live = tests_cases (FitsLive 0x0103) (fail c) _ (bad 0x0103) (λ h. drain_fits n t b (none_is _ (not-false _ h)))

-- nothing is pending of a new stream
new_pends : (format : ℕ) → holding (Some (new_stream format)) ≡ holding None
unfolding holding
new_pends format = λ i. record { queued = λ q. nothing q i; drains = [] }
  where
    nothing : (q : QueueType) → buffers q (new_stream format) ≡ []
    nothing input = refl
    nothing output = refl

create_fits : (around : Surroundings) (n t : ℕ) (f : List ℕ) → FitsType 0x0101 n t f None (on_create around (request_of n t None f))
unfolding on_create
create_fits around n t f =
    tests_all (FitsType 0x0101 n t f None) (fail (request_of n t None f)) _ (λ e. fail_type 0x0101 n t f None e)
    (quiet_fits n t (own (request_of n t None f) success) None (Some (new_stream (coded_format f))) refl refl (new_pends (coded_format f)))

module _ (around : Surroundings) (n t : ℕ) (f : List ℕ) where
  abbrev OfRule : Option Stream → ℕ → Option CommandRule → Type 0
  OfRule self ty l = FitsType ty n t f self (on_rule around (request_of n t self f) l)

  -- a rule, by its length
  of_rule : (self : Option Stream) (l : CommandRule) → FitsType l.type n t f self (on_stream around (request_of n t self f) l.command self)
      → OfRule self l.type (Some l)
  of_rule self l h = cond_elim (FitsType l.type n t f self) (wrong_length l.length_rule (length f)) (λ _. fail_type l.type n t f self invalid_parameter) (λ _. h)

  create_rule : (self : Option Stream) → NotAgain around self → FitsType 0x0101 n t f self (on_stream around (request_of n t self f) create self)
  create_rule None u = cond_elim (FitsType 0x0101 n t f None) around.unusable (λ _. fail_type 0x0101 n t f None invalid_stream) (λ _. create_fits around n t f)
  create_rule (Some b) u = simp u (fail_type 0x0101 n t f (Some b) invalid_stream)

  live_rule : (ty : ℕ) (k : LiveCommand) (self : Option Stream) → Sane self
      → ((b : Stream) → Sane (Some b) → FitsType ty n t f (Some b) (on_live k (request_of n t (Some b) f) b)) → FitsType ty n t f self (on_stream around (request_of n t self f) (live k) self)
  live_rule ty k None s h = fail_type ty n t f None invalid_stream
  live_rule ty k (Some b) s h = h b s

  unsupported : (ty : ℕ) (b : Stream) → Sane (Some b) → FitsType ty n t f (Some b) (fail (request_of n t (Some b) f) unsupported_control)
  unsupported ty b s = fail_type ty n t f (Some b) unsupported_control

  -- by the table of commands
  OfStream : Option Stream → CommandRule → Type 0
  OfStream self l = FitsType l.type n t f self (on_stream around (request_of n t self f) l.command self)

  streams : (self : Option Stream) → NotAgain around self → Sane self → Each (OfStream self) commands
  unfolding OfStream
  streams self u s = (
    create_rule self u,
    (
      live_rule 0x0102 destroy self s (λ b _. destroy_fits (request_of n t (Some b) f) b),
      (
        live_rule 0x0103 drain self s (drain_live n t f),
        (
          live_rule 0x0104 (to_queue create_resource) self s (resource_live n t f),
          (
            live_rule 0x0105 (to_queue queue_resource) self s (queued_live n t f),
            (
              live_rule 0x0106 (to_queue destroy_all) self s (freed_live n t f),
              (
                live_rule 0x0107 (to_queue clear) self s (cleared_live n t f),
                (
                  live_rule 0x0108 (to_queue get_parameters) self s (got_live n t f),
                  (
                    live_rule 0x0109 (to_queue set_parameters) self s (set_live n t f),
                    (
                      live_rule 0x010A control self s (unsupported 0x010A),
                      (
                        live_rule 0x010B control self s (unsupported 0x010B),
                        (live_rule 0x010C control self s (unsupported 0x010C), tt),
                      ),
                    ),
                  ),
                ),
              ),
            ),
          ),
        ),
      ),
    ),
  )

  command_fits : (self : Option Stream) → NotAgain around self → Sane self → (ty : ℕ) → OfRule self ty (rule_of ty)
  unfolding OfStream
  command_fits self u s = by_type (OfRule self) (each_map (OfStream self) (λ l. OfRule self l.type (Some l)) (of_rule self) commands (streams self u s)) (λ ty. fail_type ty n t f self invalid_operation)

-- Reports

module _ (n qt r flags ts : ℕ) where
  abbrev FinishFits : Option Stream → Reply → Type 0
  FinishFits self v = Fits (finishes qt r (has_eos flags)) None n 0 nobody self v

  not_finished : (self : Option Stream) (k : ℕ) → eqb k 0 ≡ false → FinishFits self (refuse k self)
  not_finished self k z = refuse_fits (finishes qt r (has_eos flags)) None n 0 k self z

  finished : (self : Option Stream) → Sane self → FinishFits self (on_finish n qt r flags ts self)
  finished self s =
      finish_cases (FinishFits self) n qt r flags ts self (not_finished self 5 refl) (not_finished self 6 refl)
      (λ b q i h. let v = reply (finish_answers n flags ts b q i) (Some (finish_leaves r flags b q)) in
      subst (λ (x : Option Stream). FinishFits x v) (sym h.self_is)
      (subst (λ (x : ℕ). Fits (finishes x r (has_eos flags)) None n 0 nobody (Some b) v) (sym (named_number qt q h.named_is))
      (finish_fits q n r flags ts i b (subst Sane h.self_is s) h.waits_is)))

drained_in_lem : (n : ℕ) (self : Option Stream) → Fits is_drain None n 0 nobody self (on_drained n self)
drained_in_lem n self =
    drained_cases (Fits is_drain None n 0 nobody self) n self (refuse_fits is_drain None n 0 5 self refl)
    (λ b t h.
    subst (λ (x : Option Stream). Fits is_drain None n 0 nobody x (reply (record { ticket = t; stream = n; response = drain_done } ∷ []) (Some (with_drain None b)))) (sym h.self_is)
    (drained_fits n t b h.drain_is))

-- Every step

abbrev pub FitsAct : ℕ → Act → Option Stream → Reply → Type 0
FitsAct n a = Fits (completes a) (awaited_by a) n (step_ticket a) (own_tickets a)

pub serve_fits : (around : Surroundings) (n : ℕ) (self : Option Stream) (a : Act) → NotAgain around self → Sane self → FitsAct n a self (serve around n self a)
unfolding serve completes awaited_by own_tickets on_command
serve_fits around n self (command t f) u s = command_fits around n t f self u s (field 4 f 0)
serve_fits around n self (finish m qt r flags ts) u s = finished n qt r flags ts self s
serve_fits around n self (drained m) u s = drained_in_lem n self
