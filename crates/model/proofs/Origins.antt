-- A property of a reply, of a stream or of the device, by what can give it.
use Prim.Native.Nat.{ℕ, ◌+◌}
use mathlib.Core.Path.{◌≡◌, refl, sym, subst}
use mathlib.Core.Bool.{true, false, cond, not}
use Rattle.std.specs.Prelude.{Option, None, Some}
use mathlib.Core.List.{[], ◌∷◌}
use lib.ListN.{length}
use lib.Dec.{eqb, ltb}
use Rattle.laws.specs.Tests.{within}
use Rattle.laws.specs.InOrder.{by_tests}
use Rattle.laws.proofs.Lists.{cond_elim}
use Rattle.tag.specs.Tag.{good_tag, tag_in}
use Rattle.model.specs.Numbers.{table_words, first_coded, last_coded, err, eos}
use Rattle.model.specs.Device.{QueueType, Stream, Device, new_stream, queue_of, with_drain, Buffer, queued_in, buffer_of}
use Rattle.model.specs.Frames.{QueueCommand, LiveCommand, destroy, drain, control, to_queue, Command, create, live, CommandRule, rule_of, wrong_length, queue_named, command_type, in_mem_type, out_mem_type, coded_format, queue_type}
use Rattle.model.specs.Answers.{ErrorCode, invalid_operation, out_of_memory, invalid_stream, invalid_parameter, unsupported_control, success, drain_done}
use Rattle.model.specs.Replies.{Reply, refuse, reply, Request, own, fail}
use Rattle.model.specs.Commands.{Surroundings, on_create, on_destroy, on_drain, on_queue_of, on_named, on_live, on_stream, on_rule, on_command}
use Rattle.model.specs.Reports.{bad_eos, early_eos, finish_answers, finish_leaves, finish_buffer, finish_queue, finish_stream, on_finish, drain_over, answer_drain, on_drained}
use Rattle.model.specs.Steps.{Step, stream_of, DeviceReply, refused, perform_of, host_refusal, step_on}

-- the queue that a command names
abbrev pub named : Request → Option QueueType
named c = queue_named (queue_type c.frame)

-- a finish report that is taken: its stream, its queue and its Queued buffer
pub record FinishTaken (self : Option Stream) (qt r flags : ℕ) (b : Stream) (q : QueueType) (i : Buffer) : Type 0 where
  pub self_is : self ≡ Some b
  pub named_is : queue_named qt ≡ Some q
  pub waits_is : buffer_of r (queued_in (queue_of q b).slots) ≡ Some i
  pub eos_fits : bad_eos flags q b ≡ false
  pub not_early : early_eos flags b ≡ false

-- a drained report that is taken
pub record DrainedTaken (self : Option Stream) (b : Stream) (t : ℕ) : Type 0 where
  pub self_is : self ≡ Some b
  pub drain_is : b.draining ≡ Some t
  pub over_is : drain_over b ≡ true

module _ (P : Reply → Type 0) where
  -- an error, a creation, or a command to a live stream
  pub command_cases : (around : Surroundings) (c : Request) → ((e : ErrorCode) → P (fail c e))
      → (around.unusable ≡ false → P (on_create around c))
      → ((k : LiveCommand) (b : Stream) → c.self ≡ Some b → P (on_live k c b))
      → P (on_command around c)
  unfolding on_command
  command_cases around c fails new old = of_rule (rule_of (command_type c.frame))
    where
      of_stream_lem : (k : Command) (self : Option Stream) → c.self ≡ self → P (on_stream around c k self)
      of_stream_lem create self e = cond_elim P around.unusable (λ _. fails invalid_stream) new
      of_stream_lem (live k) None e = fails invalid_stream
      of_stream_lem (live k) (Some b) e = old k b e

      of_rule : (l : Option CommandRule) → P (on_rule around c l)
      of_rule None = fails invalid_operation
      of_rule (Some l) = cond_elim P (wrong_length l.length_rule (length c.frame)) (λ _. fails invalid_parameter) (λ _. of_stream_lem l.command c.self refl)

  -- a creation: an error in its fields, no place, or a new stream
  pub create_cases : (around : Surroundings) (c : Request) → P (fail c invalid_parameter) → (around.full ≡ true → P (fail c out_of_memory))
      → P (reply (own c success ∷ []) (Some (new_stream (coded_format c.frame)))) → P (on_create around c)
  unfolding on_create by_tests
  create_cases around c bad full new =
      let f = c.frame in
      cond_elim P (not (eqb (in_mem_type f) 0)) (λ _. bad) (λ _.
      cond_elim P (not (eqb (out_mem_type f) 0)) (λ _. bad) (λ _.
      cond_elim P (not (within (coded_format f) first_coded last_coded)) (λ _. bad) (λ _.
      cond_elim P (not (good_tag (tag_in f))) (λ _. bad) (λ _.
      cond_elim P around.full full (λ _. new)))))

  -- an error, or a command to the queue that is named
  pub named_cases : (k : QueueCommand) (c : Request) (b : Stream) → P (fail c invalid_parameter) → ((q : QueueType) → named c ≡ Some q → P (on_queue_of k c b q))
      → P (on_named k c b (named c))
  named_cases k c b bad h = of (named c) refl
    where
      of : (o : Option QueueType) → named c ≡ o → P (on_named k c b o)
      of None e = bad
      of (Some q) e = h q e

  -- an error, a destroy, a drain, or a command to the queue that is named
  pub live_cases : (c : Request) (b : Stream) → ((e : ErrorCode) → P (fail c e)) → P (on_destroy c b) → P (on_drain c b)
      → ((k : QueueCommand) (q : QueueType) → P (on_queue_of k c b q)) → (k : LiveCommand) → P (on_live k c b)
  live_cases c b fails all ending each destroy = all
  live_cases c b fails all ending each drain = ending
  live_cases c b fails all ending each control = fails unsupported_control
  live_cases c b fails all ending each (to_queue k) = named_cases k c b (fails invalid_parameter) (λ q e. each k q)

  -- refusal 5 or 6, or the answers to a Queued buffer and to the drain that it ends
  pub finish_cases : (n qt r flags ts : ℕ) (self : Option Stream) → P (refuse 5 self) → P (refuse 6 self)
      → ((b : Stream) (q : QueueType) (i : Buffer) → FinishTaken self qt r flags b q i
      → P (reply (finish_answers n flags ts b q i) (Some (finish_leaves r flags b q))))
      → P (on_finish n qt r flags ts self)
  unfolding on_finish
  finish_cases n qt r flags ts self five six h = cond_elim P (ltb (err + eos) flags) (λ _. six) (λ _. of_stream_lem self refl)
    where
      of_buffer : (b : Stream) (q : QueueType) (i : Option Buffer) → self ≡ Some b → queue_named qt ≡ Some q → buffer_of r (queued_in (queue_of q b).slots) ≡ i
          → P (finish_buffer n r flags ts b q i)
      of_buffer b q None e o f = rw e at five
      of_buffer b q (Some i) e o f =
          cond_elim P (bad_eos flags q b) (λ _. rw e at six) (λ z.
          cond_elim P (early_eos flags b) (λ _. rw e at five) (λ y. h b q i (record { self_is = e; named_is = o; waits_is = f; eos_fits = z; not_early = y })))

      of_queue : (b : Stream) (q : Option QueueType) → self ≡ Some b → queue_named qt ≡ q → P (finish_queue n r flags ts b q)
      of_queue b None e o = rw e at five
      of_queue b (Some q) e o = of_buffer b q (buffer_of r (queued_in (queue_of q b).slots)) e o refl

      of_stream_lem : (s : Option Stream) → self ≡ s → P (finish_stream n qt r flags ts s)
      of_stream_lem None e = rw e at five
      of_stream_lem (Some b) e = of_queue b (queue_named qt) e refl

  -- refusal 5, or the answer to a pending drain
  pub drained_cases : (n : ℕ) (self : Option Stream) → P (refuse 5 self)
      → ((b : Stream) (t : ℕ) → DrainedTaken self b t → P (reply (record { ticket = t; stream = n; response = drain_done } ∷ []) (Some (with_drain None b))))
      → P (on_drained n self)
  unfolding on_drained
  drained_cases n None five h = five
  drained_cases n (Some b) five h = of_drain_lem b.draining refl
    where
      of_drain_lem : (d : Option ℕ) → b.draining ≡ d → P (answer_drain n b d)
      of_drain_lem None e = five
      of_drain_lem (Some t) e =
          let done : Reply = reply (record { ticket = t; stream = n; response = drain_done } ∷ []) (Some (with_drain None b)) in
          let is : answer_drain n b (Some t) ≡ cond (drain_over b) done (refuse 5 (Some b)) = refl in
          subst P (sym is) (cond_elim P (drain_over b) (λ z. h b t (record { self_is = refl; drain_is = e; over_is = z })) (λ _. five))

-- a finish report whose tests say so is taken
pub finish_by_tests : (n qt r flags ts : ℕ) (self : Option Stream) (b : Stream) (q : QueueType) (i : Buffer) → ltb (err + eos) flags ≡ false → FinishTaken self qt r flags b q i
    → on_finish n qt r flags ts self ≡ reply (finish_answers n flags ts b q i) (Some (finish_leaves r flags b q))
unfolding on_finish
finish_by_tests n qt r flags ts self b q i low h = simp (low, h.self_is, h.named_is, h.waits_is, h.eos_fits, h.not_early)

-- a refusal by a number, or what the stream that the step names gives
pub step_cases : (P : DeviceReply → Type 0) (d : Device) (s : Step) → ((k : ℕ) → eqb k 0 ≡ false → P (refused k d))
    → ((n : ℕ) → stream_of s.act ≡ Some n → P (perform_of d s.act (Some n))) → P (step_on d s)
unfolding step_on
step_cases P d s refuses h =
    let k = host_refusal table_words (length s.room) true in
    cond_elim P (eqb k 0) (λ _. of_stream_lem (stream_of s.act) refl) (refuses k)
  where
    of_stream_lem : (o : Option ℕ) → stream_of s.act ≡ o → P (perform_of d s.act o)
    of_stream_lem None e = refuses 4 refl
    of_stream_lem (Some n) e = h n e
