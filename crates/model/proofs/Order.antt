-- Finish reports of one stream without EOS that are accepted one after the other may come in any order.
use mathlib.Core.Logic.{∥∥₁_elim}
use mathlib.Core.Path.{◌≡◌, refl, sym, ap, ap₂, ◌∙◌, subst}
use mathlib.Core.Bool.{Bool, true, false, cond, ◌&&◌, and-true, Bool-set}
use Rattle.std.specs.Prelude.{Option, None, Some}
use mathlib.Core.List.Perm
use mathlib.Core.List.{List, [], ◌∷◌, ◌++◌, Perm, Perm-prop, Permᴰ, is_set}
use Prim.Native.Nat.{ℕ, ◌<◌}
use native.Mathlib.Nat.{ℕ_set}
use native.Mathlib.Omega.{arith}
use lib.ListN.{length, take, drop}
use lib.Dec.{eqb}
use borrow.Author.Tests.{eqb-true, ltb-true, le-ltb, lt-leb}
use Rattle.laws.specs.Lists.{all_of, is_none, same}
use Rattle.laws.proofs.Tests.{never, both, and_left, and_right}
use Rattle.laws.proofs.Lists.{decide, eqb_sym, each_all, all_swap, all_take}
use Rattle.model.specs.Numbers.{table_words}
use Rattle.model.specs.Device.{QueueType, input, output, dequeued, Stream, Device, queue_of, with_queue, with_slots, Buffer, queued_in, buffer_of, record_of, put_back}
use Rattle.model.specs.Frames.{queue_number}
use Rattle.model.specs.Answers.{buffer_done, Answer, bytes_of}
use Rattle.model.specs.Replies.{Reply, reply}
use Rattle.model.specs.Reports.{timestamp_of, has_eos, finish_leaves}
use Rattle.model.specs.Steps.{Act, command, finish, drained, Step, stream_of, serve, DeviceReply, around, perform, step_on, Event, event_of, events_of, final, accepted}
use Rattle.model.specs.Ledger.{step_stream}
use Rattle.model.specs.WellFormed.{well_formed, good_act, good_steps}
use Rattle.model.specs.Tables.{Layout, Lawful, effect_of, table_event, table_events, table_final, valid}
use Rattle.model.specs.Promises.{without_eos, finished_without_eos, FinishRun, buffer_named, swapped, FinishesSwap, Rearranged, AnyOrder}
use Rattle.model.proofs.Slots.{buffer_finish, set_commutes}
use Rattle.model.proofs.Rules.{number_names, named_number}
use Rattle.model.proofs.Places.{put_live, put_twice}
use Rattle.model.proofs.Origins.{finish_cases, finish_by_tests}
use Rattle.model.proofs.Fits.{accepted_reply}
use Rattle.model.proofs.Seen.{room_refusal, step_runs, step_refused}
use Rattle.model.proofs.WellFormed.{stays_well_formed}
use Rattle.model.proofs.Tables.{words_of, valid_device, valid_log, valid_final}
use Rattle.model.proofs.Unchanged.{stays_valid_lem}
use Rattle.model.proofs.LastPicture.{step_taken}

abbrev good_step : Step → Bool
good_step s = good_act s.act

-- Over the record of a stream

-- the Queued buffer of a number on a queue
abbrev waiting : QueueType → ℕ → Stream → Option Buffer
waiting q r b = buffer_of r (queued_in (queue_of q b).slots)

-- the record with that buffer Dequeued
abbrev dequeue : QueueType → ℕ → Stream → Stream
dequeue q r b = finish_leaves r 0 b q

-- one buffer: one queue and one number
abbrev alike : QueueType → QueueType → ℕ → ℕ → Bool
alike p q m r = eqb (queue_number p) (queue_number q) && eqb m r

alike_sym : (p q : QueueType) (m r : ℕ) → alike p q m r ≡ false → alike q p r m ≡ false
alike_sym input input m r h = eqb_sym m r h
alike_sym input output m r h = refl
alike_sym output input m r h = refl
alike_sym output output m r h = eqb_sym m r h

-- a buffer waits as before where another is Dequeued
still_waiting : (p q : QueueType) (m r : ℕ) (b : Stream) → waiting q r (dequeue p m b) ≡ cond (alike p q m r) None (waiting q r b)
still_waiting input input m r b = buffer_finish m r b.inputs.slots
still_waiting input output m r b = refl
still_waiting output input m r b = refl
still_waiting output output m r b = buffer_finish m r b.outputs.slots

-- and two are Dequeued in either order
dequeue_commutes : (p q : QueueType) (m r : ℕ) (b : Stream) → alike p q m r ≡ false → dequeue q r (dequeue p m b) ≡ dequeue p m (dequeue q r b)
dequeue_commutes input input m r b h = ap (λ s. with_queue input (with_slots s b.inputs) b) (set_commutes m r dequeued dequeued b.inputs.slots h)
dequeue_commutes input output m r b h = refl
dequeue_commutes output input m r b h = refl
dequeue_commutes output output m r b h = ap (λ s. with_queue output (with_slots s b.outputs) b) (set_commutes m r dequeued dequeued b.outputs.slots h)

-- A report of a run

-- a finish report of the stream n without EOS, of a queue that there is, and with room enough
record Report (n : ℕ) (s : Step) : Type 0 where
  queue : QueueType
  number : ℕ
  flags : ℕ
  timestamp : ℕ
  act_is : s.act ≡ finish n (queue_number queue) number flags timestamp
  low : flags < 2
  room_is : eqb (room_refusal s) 0 ≡ true

module _ {n : ℕ} {s : Step} (x : Report n s) where
  -- its buffer in a record, and what it leaves of the record
  abbrev waits_in : Stream → Option Buffer
  waits_in b = waiting x.queue x.number b

  abbrev leaves_of : Stream → Stream
  leaves_of b = dequeue x.queue x.number b

  -- its answer to a buffer
  abbrev finish_answer : Buffer → Answer
  finish_answer i = record { ticket = i.ticket; stream = n; response = buffer_done x.queue (timestamp_of x.queue i x.timestamp) x.flags }

  -- what the host gets back of it, whatever the device
  abbrev event_to : Buffer → Event
  event_to i = record { step = s; refusal = 0; written = length (bytes_of (finish_answer i ∷ [])); bytes = bytes_of (finish_answer i ∷ []) }

  -- where its buffer waits it is accepted: that is answered and Dequeued
  abbrev done_on : Device → Stream → Buffer → DeviceReply
  done_on d b i = record { refusal = 0; answers = finish_answer i ∷ []; device = put_back n (Some (leaves_of b)) d }

  does : (d : Device) (b : Stream) (i : Buffer) → record_of n d.places ≡ Some b → waits_in b ≡ Some i → step_on d s ≡ done_on d b i
  unfolding serve stream_of
  does d b i self waits =
      let no_eos : has_eos x.flags ≡ false = lt-leb 2 x.flags x.low in
      let served : serve (around d n) n (record_of n d.places) (finish n (queue_number x.queue) x.number x.flags x.timestamp) ≡ reply (finish_answer i ∷ []) (Some (leaves_of b)) =
      finish_by_tests n (queue_number x.queue) x.number x.flags x.timestamp (record_of n d.places) b x.queue i (le-ltb 3 x.flags (omega (arith, x.low)))
      (record { self_is = self; named_is = number_names x.queue; waits_is = waits; eos_fits = simp no_eos; not_early = simp no_eos })
      ∙ simp no_eos in
      step_runs d s x.room_is
      ∙ ap (perform d) x.act_is
      ∙ ap (λ (v : Reply). record { refusal = v.refusal; answers = v.answers; device = put_back n v.next d }) served

-- of two records put back for a live number only the last is left
put_back_twice : (n : ℕ) (c : Stream) (r : Option Stream) (d : Device) → is_none (record_of n d.places) ≡ false → put_back n r (put_back n (Some c) d) ≡ put_back n r d
put_back_twice n c r d live = λ i. record { places = put_twice n c r d.places live i; spent = spent i }
  where
    spent : (put_back n r (put_back n (Some c) d)).spent ≡ (put_back n r d).spent
    spent = simp (ap is_none (put_live n (Some c) d.places live), live)

-- two of them, the second of a buffer that waits in what the first leaves
module _ {n : ℕ} {s u : Step} (x : Report n s) (y : Report n u) (d : Device) (b : Stream) (i j : Buffer) where
  record Both : Type 0 where
    events : events_of d (s ∷ u ∷ []) ≡ event_to x i ∷ event_to y j ∷ []
    device : final d (s ∷ u ∷ []) ≡ put_back n (Some (leaves_of y (leaves_of x b))) d

  both_do : record_of n d.places ≡ Some b → waits_in x b ≡ Some i → waits_in y (leaves_of x b) ≡ Some j → Both
  both_do self first second =
      let c = leaves_of x b in
      let e = (step_on d s).device in
      let live : is_none (record_of n d.places) ≡ false = ap is_none self in
      let one = does x d b i self first in
      let left : e ≡ put_back n (Some c) d = ap (λ (o : DeviceReply). o.device) one in
      let two = does y e c j (ap (λ (z : Device). record_of n z.places) left ∙ put_live n (Some c) d.places live) second in
      record {
        events = ap₂ (λ (v w : Event). v ∷ w ∷ []) (ap (event_of s) one) (ap (event_of u) two);
        device = ap (λ (o : DeviceReply). o.device) two ∙ ap (put_back n (Some (leaves_of y c))) left ∙ put_back_twice n c (Some (leaves_of y c)) d live;
      }

-- What an accepted one found

record Answered (n : ℕ) (d : Device) (s : Step) : Type 0 where
  report : Report n s
  self : Stream
  buffer : Buffer
  self_is : record_of n d.places ≡ Some self
  waits_is : waits_in report self ≡ Some buffer

module _ (n : ℕ) (d : Device) (s : Step) (h : well_formed d ≡ true) (m : good_act s.act ≡ true) (run : finished_without_eos n (event_of s (step_on d s)) ≡ true) where
  acc : accepted (event_of s (step_on d s)) ≡ true
  acc = and_right (without_eos n s.act) _ run

  enough_room : eqb (room_refusal s) 0 ≡ true
  unfolding accepted
  enough_room =
      decide (eqb (room_refusal s) 0) (λ e. e)
      (λ e. never (sym (and_left (eqb (step_on d s).refusal 0) _ acc) ∙ ap (λ (o : DeviceReply). eqb o.refusal 0) (step_refused d s e) ∙ e))

  abbrev served_as : Act → Reply
  served_as a = serve (around d (step_stream a)) (step_stream a) (record_of (step_stream a) d.places) a

  of_finish : (qt r flags ts : ℕ) → s.act ≡ finish n qt r flags ts → flags < 2 → accepted_reply (served_as (finish n qt r flags ts)) ≡ true → Answered n d s
  unfolding serve
  of_finish qt r flags ts is low =
      finish_cases (λ (v : Reply). accepted_reply v ≡ true → Answered n d s) n qt r flags ts (record_of n d.places) (λ y. never (sym y)) (λ y. never (sym y))
      (λ b q i t y. record {
        report = record {
          queue = q;
          number = r;
          flags = flags;
          timestamp = ts;
          act_is = is ∙ ap (λ (k : ℕ). finish n k r flags ts) (named_number qt q t.named_is);
          low = low;
          room_is = enough_room;
        };
        self = b;
        buffer = i;
        self_is = t.self_is;
        waits_is = t.waits_is;
      })

  found : Answered n d s
  found = of s.act refl (and_left (without_eos n s.act) _ run)
    where
      of : (a : Act) → s.act ≡ a → without_eos n a ≡ true → Answered n d s
      of (command t f) is e = never (sym e)
      of (finish k qt r flags ts) is e =
          let mine : s.act ≡ finish n qt r flags ts = is ∙ ap (λ (z : ℕ). finish z qt r flags ts) (eqb-true k n (and_left (eqb k n) _ e)) in
          -- by omega, so that another bound in the statement is refused for its number
          let below : flags < _ = ltb-true flags _ (and_right (eqb k n) _ e) in
          let low : flags < 2 = omega (arith, below) in
          of_finish qt r flags ts mine low (subst (λ (a : Act). accepted_reply (served_as a) ≡ true) mine (step_taken d s h m acc).replied)
      of (drained k) is e = never (sym e)

-- Two reports of a run, on a device

module _ (n : ℕ) (d : Device) (s u : Step) where
  record SwappedOn : Type 0 where
    differ : same (buffer_named s.act) (buffer_named u.act) ≡ false
    device : final d (u ∷ s ∷ []) ≡ final d (s ∷ u ∷ [])
    events : events_of d (u ∷ s ∷ []) ≡ swapped (events_of d (s ∷ u ∷ []))

  -- the second was of another buffer, which waited before too; and so does that of the first after it
  swapped_reports : (x : Report n s) (y : Report n u) (b : Stream) (i j : Buffer) → record_of n d.places ≡ Some b → waits_in x b ≡ Some i → waits_in y (leaves_of x b) ≡ Some j → SwappedOn
  unfolding same
  swapped_reports x y b i j self first second =
      let y_waits = still_waiting x.queue y.queue x.number y.number b in
      let x_waits = still_waiting y.queue x.queue y.number x.number b in
      decide (alike x.queue y.queue x.number y.number)
      (λ e. let gone : None ≡ Some j = sym (y_waits ∙ simp e) ∙ second in never (ap is_none gone))
      (λ e.
      let there = both_do x y d b i j self first second in
      let back = both_do y x d b j i self (sym (y_waits ∙ simp e) ∙ second) ((x_waits ∙ simp (alike_sym x.queue y.queue x.number y.number e)) ∙ first) in
      record {
        differ = ap₂ (λ (v w : Act). same (buffer_named v) (buffer_named w)) x.act_is y.act_is ∙ simp (and-true (eqb x.number y.number)) e;
        device = back.device ∙ ap (λ (c : Stream). put_back n (Some c) d) (sym (dequeue_commutes x.queue y.queue x.number y.number b e)) ∙ sym there.device;
        events = back.events ∙ ap swapped (sym there.events);
      })

  swapped_on : well_formed d ≡ true → good_steps (s ∷ u ∷ []) ≡ true → all_of (finished_without_eos n) (events_of d (s ∷ u ∷ [])) ≡ true → SwappedOn
  swapped_on h m run =
      let good = each_all good_step (s ∷ u ∷ []) m in
      let each = each_all (finished_without_eos n) (events_of d (s ∷ u ∷ [])) run in
      let first = found n d s h good.0 each.0 in
      let second = found n (step_on d s).device u (stays_well_formed d s h good.0) good.1.0 each.1.0 in
      let b = first.self in
      let x = first.report in
      let same_record : Some second.self ≡ Some (leaves_of x b) =
      sym second.self_is
      ∙ ap (λ (o : DeviceReply). record_of n o.device.places) (does x d b first.buffer first.self_is first.waits_is)
      ∙ put_live n (Some (leaves_of x b)) d.places (ap is_none first.self_is) in
      let is : second.self ≡ leaves_of x b = cc in
      swapped_reports x second.report b first.buffer second.buffer first.self_is first.waits_is (ap (waits_in second.report) (sym is) ∙ second.waits_is)

-- Over tables

module _ (L : Layout) (law : Lawful L) where
  abbrev first_event : List ℕ → Step → Event
  first_event t s = table_event L s (effect_of L t s)

  pub finishes_swap_lem : FinishesSwap L
  finishes_swap_lem t n s u v run =
      let d = L.decode (take table_words t) in
      let there = valid_log L t v law (s ∷ u ∷ []) run.in_types in
      let good = all_swap good_step s u [] run.in_types in
      let on = swapped_on n d s u (valid_device L t v) run.in_types (ap (all_of (finished_without_eos n)) (sym there) ∙ run.in_turn) in
      let events : table_events L t (u ∷ s ∷ []) ≡ swapped (table_events L t (s ∷ u ∷ [])) = valid_log L t v law (u ∷ s ∷ []) good ∙ on.events ∙ ap swapped (sym there) in
      record {
        differ = on.differ;
        also_run = record { in_types = good; in_turn = ap (all_of (finished_without_eos n)) events ∙ all_swap (finished_without_eos n) (first_event t s) (first_event (effect_of L t s).table u) [] run.in_turn };
        same_table = valid_final L t v law (u ∷ s ∷ []) good ∙ ap (words_of L law (drop table_words t)) on.device ∙ sym (valid_final L t v law (s ∷ u ∷ []) run.in_types);
        answers_swapped = events;
      }

  -- A run in another order

  module _ (n : ℕ) where
    -- one report, and a run on the table that it leaves, in another order
    run_tail : (t : List ℕ) (s : Step) (ss : List Step) → FinishRun L t n (s ∷ ss) → FinishRun L (effect_of L t s).table n ss
    run_tail t s ss run = record { in_types = and_right (good_step s) _ run.in_types; in_turn = and_right (finished_without_eos n (first_event t s)) _ run.in_turn }

    head_first : (t : List ℕ) (s : Step) (ss us : List Step) → FinishRun L t n (s ∷ ss) → Rearranged L (effect_of L t s).table n ss us → Rearranged L t n (s ∷ ss) (s ∷ us)
    head_first t s ss us run more = record {
      also_run = record {
        in_types = both (and_left (good_step s) _ run.in_types) more.also_run.in_types;
        in_turn = both (and_left (finished_without_eos n (first_event t s)) _ run.in_turn) more.also_run.in_turn;
      };
      same_table = more.same_table;
      same_answers = Perm.cons (first_event t s) more.same_answers;
    }

    -- two reports swapped, and the rest of the run as it was
    two_first : (t : List ℕ) (s u : Step) (ss : List Step) → valid L t ≡ true → FinishRun L t n (s ∷ u ∷ ss) → Rearranged L t n (s ∷ u ∷ ss) (u ∷ s ∷ ss)
    two_first t s u ss v run =
        let e = first_event t s in
        let f = first_event (effect_of L t s).table u in
        let rest = table_events L (table_final L t (s ∷ u ∷ [])) ss in
        let two = finishes_swap_lem t n s u v (record { in_types = all_take good_step 2 (s ∷ u ∷ ss) run.in_types; in_turn = all_take (finished_without_eos n) 2 (e ∷ f ∷ rest) run.in_turn }) in
        let events : table_events L t (u ∷ s ∷ ss) ≡ f ∷ e ∷ rest = ap₂ (λ (x : List Event) (y : List ℕ). x ++ table_events L y ss) two.answers_swapped two.same_table in
        record {
          also_run = record {
            in_types = all_swap good_step s u ss run.in_types;
            in_turn = ap (all_of (finished_without_eos n)) events ∙ all_swap (finished_without_eos n) e f rest run.in_turn;
          };
          same_table = ap (λ (x : List ℕ). table_final L x ss) two.same_table;
          same_answers = subst (Perm (e ∷ f ∷ rest)) (sym events) (Perm.swap f e rest);
        }

    -- by how it is rearranged
    rearranged : (t : List ℕ) (ss us : List Step) → Permᴰ ss us → valid L t ≡ true → FinishRun L t n ss → Rearranged L t n ss us
    rearranged t [] [] Permᴰ.nil v run = record { also_run = run; same_table = refl; same_answers = Perm.nil }
    rearranged t (s ∷ ss) (u ∷ us) (Permᴰ.cons e p) v run =
        subst (λ (x : Step). Rearranged L t n (s ∷ ss) (x ∷ us)) e
        (head_first t s ss us run (rearranged (effect_of L t s).table ss us p (stays_valid_lem L law t s.act s.room (and_left (good_step s) _ run.in_types) v) (run_tail t s ss run)))
    rearranged t (s ∷ u ∷ ss) (w ∷ x ∷ _) (Permᴰ.swap e f) v run =
        subst (λ (y : Step). Rearranged L t n (s ∷ u ∷ ss) (y ∷ x ∷ ss)) f
        (subst (λ (y : Step). Rearranged L t n (s ∷ u ∷ ss) (u ∷ y ∷ ss)) e (two_first t s u ss v run))
    rearranged t ss us (Permᴰ.trans {l₂ = ms} p q) v run =
        let one = rearranged t ss ms p v run in
        let two = rearranged t ms us q v one.also_run in
        record { also_run = two.also_run; same_table = two.same_table ∙ one.same_table; same_answers = Perm.trans one.same_answers two.same_answers }

  -- `Perm` says that there is a way to rearrange, and not which; of what is promised there is one proof, so that any will do
  one_proof : (t : List ℕ) (n : ℕ) (ss us : List Step) → IsProp (Rearranged L t n ss us)
  one_proof t n ss us x y = λ i. record {
    also_run = record {
      in_types = Bool-set _ _ x.also_run.in_types y.also_run.in_types i;
      in_turn = Bool-set _ _ x.also_run.in_turn y.also_run.in_turn i;
    };
    same_table = is_set ℕ_set _ _ x.same_table y.same_table i;
    same_answers = Perm-prop x.same_answers y.same_answers i;
  }

  pub any_order : AnyOrder L
  any_order t n ss us v run p = ∥∥₁_elim p (one_proof t n ss us) (λ q. rearranged n t ss us q v run)
