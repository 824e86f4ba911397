-- The bytes of a step's answers are read back into answers, and a response's type says whether it is an error.
use mathlib.Core.Path.{◌≡◌, refl, ap, ◌∙◌, subst}
use mathlib.Core.Bool.{Bool, true, false, ◌&&◌}
use Rattle.std.specs.Prelude.{Option, None, Some}
use mathlib.Core.List.{List, [], ◌∷◌, ◌++◌, map}
use Prim.Native.Nat.{ℕ, zero, suc, ◌+◌, ◌*◌, ◌^◌, ◌<◌, ◌≤◌}
use native.Mathlib.Omega.{arith}
use lib.ListN.{length, take, drop, length-append}
use lib.Seq.{take-append_seam, drop-append_seam, drop-drop}
use lib.Dec.{eqb}
use borrow.Author.Tests.{ltb-true}
use Rattle.laws.specs.Tests.{within}
use Rattle.laws.specs.Lists.{all_of}
use Rattle.laws.proofs.Tests.{both, and_left, and_right}
use Rattle.laws.proofs.Lists.{decide, all_append, all_map}
use Rattle.laws.proofs.Ascending.{all_ascending}
use Rattle.laws.proofs.InOrder.{tests_all}
use Rattle.field.specs.Field.{field, little_endian}
use Rattle.field.proofs.Laws.{field_after, field_back}
use Rattle.model.specs.Numbers.{err}
use Rattle.model.specs.Device.{QueueType, input, output, is_input, created, queued, dequeued, Slot, free, resource, Stream, Device, queue_of, Buffer, queued_in, buffers, buffer_of, record_of}
use Rattle.model.specs.Frames.{QueueCommand, create_resource, queue_resource, destroy_all, clear, get_parameters, set_parameters, LiveCommand, word}
use Rattle.model.specs.Answers.{ErrorCode, invalid_operation, out_of_memory, invalid_stream, invalid_resource, invalid_parameter, unsupported_control, Response, success, buffer_done, drain_done, parameters, failure, Answer, word_bytes, response_bytes, response_of, bytes_of, read_from, answers_in}
use Rattle.model.specs.Replies.{Reply, Request, own, fail}
use Rattle.model.specs.Commands.{Surroundings, on_create, stopped_answers, drain_ended, drain_answers, on_destroy, on_drain, on_create_resource, on_queue, on_destroy_all, on_clear, parameter_words, on_get, on_set, on_queue_of, on_live, on_command}
use Rattle.model.specs.Reports.{has_eos}
use Rattle.model.specs.Steps.{Act, command, finish, drained, Step, serve, DeviceReply, around, step_on, is_error}
use Rattle.model.specs.WellFormed.{u32, good_slot, good_drain, well_formed, good_act}
use Rattle.model.specs.Promises.{as_written, ReadBack}
use Rattle.model.proofs.Origins.{live_cases, command_cases, finish_cases, drained_cases, step_cases}
use Rattle.model.proofs.Fits.{is_failure}
use Rattle.model.proofs.WellFormed.{GoodStream, GoodSelf, good_queue_of, well_record}

-- The type and the size of a response

type_says : (n : ℕ) (r : Response) → within (word (response_bytes n r) 0) 0x0300 0x0305 ≡ is_failure r
unfolding response_bytes field little_endian within
type_says n success = refl
type_says n (buffer_done q ts flags) = refl
type_says n drain_done = refl
type_says n (parameters ws) = refl
type_says n (failure invalid_operation) = refl
type_says n (failure out_of_memory) = refl
type_says n (failure invalid_stream) = refl
type_says n (failure invalid_resource) = refl
type_says n (failure invalid_parameter) = refl
type_says n (failure unsupported_control) = refl

pub error_is : (a : Answer) → is_error (as_written a) ≡ is_failure a.response
error_is a = type_says a.stream a.response

abbrev pub size_of : Response → ℕ
size_of success = 8
size_of (buffer_done q ts flags) = 24
size_of drain_done = 8
size_of (parameters ws) = 8 + 4 * length ws
size_of (failure e) = 8

pub length_words : (ws : List ℕ) → length (word_bytes ws) ≡ 4 * length ws
unfolding little_endian
length_words [] = refl
length_words (w ∷ ws) = omega (arith, length_words ws)

pub length_response : (n : ℕ) (r : Response) → length (response_bytes n r) ≡ size_of r
unfolding response_bytes little_endian
length_response n success = refl
length_response n (buffer_done q ts flags) = refl
length_response n drain_done = refl
length_response n (parameters ws) = omega (arith, length_words ws)
length_response n (failure e) = refl

-- Reading back

abbrev pub good_answer : Answer → Bool
good_answer a = u32 a.ticket && u32 (length (response_of a))

good_append : (l m : List Answer) → all_of good_answer l ≡ true → all_of good_answer m ≡ true → all_of good_answer (l ++ m) ≡ true
good_append l m h k = all_append good_answer l m ∙ both h k

read_more : (k : ℕ) (s : List ℕ) → 0 < length s
    → read_from (suc k) s ≡ record { ticket = word s 0; response = take (word s 4) (drop 8 s) } ∷ read_from k (drop (8 + word s 4) s)
unfolding read_from
read_more k [] h = absurd (omega arith)
read_more k (b ∷ s) h = refl

read_one : (k t : ℕ) (r rest : List ℕ) → u32 t ≡ true → u32 (length r) ≡ true
    → read_from (suc k) (little_endian 4 t ++ (little_endian 4 (length r) ++ (r ++ rest))) ≡ record { ticket = t; response = r } ∷ read_from k rest
unfolding little_endian u32
read_one k t r rest ht hr =
    let s = little_endian 4 t ++ (little_endian 4 (length r) ++ (r ++ rest)) in
    let ticket : word s 0 ≡ t = field_back 4 t (little_endian 4 (length r) ++ (r ++ rest)) (ltb-true t (2 ^ 32) ht) in
    let size : word s 4 ≡ length r =
    field_after 4 (little_endian 4 t) (little_endian 4 (length r) ++ (r ++ rest)) 0 ∙ field_back 4 (length r) (r ++ rest) (ltb-true (length r) (2 ^ 32) hr) in
    read_more k s (omega arith)
    ∙ rw (ticket, size, ← drop-drop (length r) 8 s) (rw (take-append_seam r rest, drop-append_seam r rest))

read_all : (l : List Answer) (k : ℕ) → length l ≤ k → all_of good_answer l ≡ true → read_from k (bytes_of l) ≡ map as_written l
unfolding read_from
read_all [] zero h g = refl
read_all [] (suc k) h g = refl
read_all (a ∷ l) zero h g = absurd (omega arith)
read_all (a ∷ l) (suc k) h g =
    let here = and_left (good_answer a) _ g in
    read_one k a.ticket (response_of a) (bytes_of l) (and_left (u32 a.ticket) _ here) (and_right (u32 a.ticket) _ here)
    ∙ ap (λ x. as_written a ∷ x) (read_all l k (omega arith) (and_right (good_answer a) _ g))

length_bytes_of : (l : List Answer) → length l ≤ length (bytes_of l)
unfolding little_endian
length_bytes_of [] = omega arith
length_bytes_of (a ∷ l) = omega (arith, length-append (response_of a) (bytes_of l), length_bytes_of l)

pub read_back_list : (l : List Answer) → all_of good_answer l ≡ true → answers_in (bytes_of l) ≡ map as_written l
read_back_list l g = read_all l (length (bytes_of l)) (length_bytes_of l) g

-- The answers of a step

abbrev GoodAnswers : Reply → Type 0
GoodAnswers v = all_of good_answer v.answers ≡ true

answer_good : (t n : ℕ) (r : Response) → u32 t ≡ true → u32 (size_of r) ≡ true → good_answer (record { ticket = t; stream = n; response = r }) ≡ true
answer_good t n r h k = both h (ap u32 (length_response n r) ∙ k)

own_good : (c : Request) (r : Response) → u32 c.ticket ≡ true → u32 (size_of r) ≡ true → all_of good_answer (own c r ∷ []) ≡ true
own_good c r h k = both (answer_good c.ticket c.stream r h k) refl

abbrev good_buffer : Buffer → Bool
good_buffer i = u32 i.ticket

queued_good : (s : List Slot) → all_of good_slot s ≡ true → all_of good_buffer (queued_in s) ≡ true
queued_good [] h = refl
queued_good (free ∷ s) h = queued_good s h
queued_good (resource m created ∷ s) h = queued_good s (and_right (good_slot (resource m created)) _ h)
queued_good (resource m (queued t ts) ∷ s) h =
    both (and_left (u32 t) _ (and_right (u32 m) _ (and_left (good_slot (resource m (queued t ts))) _ h))) (queued_good s (and_right (good_slot (resource m (queued t ts))) _ h))
queued_good (resource m dequeued ∷ s) h = queued_good s (and_right (good_slot (resource m dequeued)) _ h)

found_good : (r : ℕ) (i : Buffer) (l : List Buffer) → all_of good_buffer l ≡ true → buffer_of r l ≡ Some i → good_buffer i ≡ true
found_good r i [] h e = cc
found_good r i (x ∷ l) h e =
    decide (eqb x.resource r)
    (λ z. let is : Some x ≡ Some i = simp z at e in let same : x ≡ i = cc in subst (λ y. good_buffer y ≡ true) same (and_left (good_buffer x) _ h))
    (λ z. found_good r i l (and_right (good_buffer x) _ h) (simp z at e))

queue_small : (q : QueueType) (b : Stream) → GoodStream b → all_of good_buffer (queued_in (queue_of q b).slots) ≡ true
queue_small q b g = queued_good (queue_of q b).slots (good_queue_of q b g).slots.each

stopped_readable : (n : ℕ) (q : QueueType) (b : Stream) → GoodStream b → all_of good_answer (stopped_answers n q (buffers q b)) ≡ true
unfolding u32
stopped_readable n q b g =
    all_map good_buffer good_answer _ (λ i h. answer_good i.ticket n (buffer_done q i.timestamp err) h refl) (buffers q b)
    (all_ascending (λ (i : Buffer). i.resource) good_buffer (queued_in (queue_of q b).slots) (queue_small q b g))

drain_good : (n : ℕ) (d : Option ℕ) → good_drain d ≡ true → all_of good_answer (drain_answers n d) ≡ true
unfolding u32
drain_good n None h = refl
drain_good n (Some t) h = both (answer_good t n drain_done h refl) refl

ended_good : (ends : Bool) (b : Stream) → GoodStream b → good_drain (drain_ended ends b) ≡ true
ended_good true b g = g.draining
ended_good false b g = refl

pub length_parameters : (q : QueueType) (b : Stream) → length (parameter_words q b) ≡ 28
unfolding parameter_words
length_parameters input b = refl
length_parameters output b = refl

module _ (c : Request) (t : u32 c.ticket ≡ true) where
  success_readable : all_of good_answer (own c success ∷ []) ≡ true
  unfolding u32
  success_readable = own_good c success t refl

  fail_readable : (e : ErrorCode) → GoodAnswers (fail c e)
  unfolding u32
  fail_readable e = own_good c (failure e) t refl

  queue_readable : (k : QueueCommand) (b : Stream) (q : QueueType) → GoodStream b → GoodAnswers (on_queue_of k c b q)
  unfolding on_create_resource on_queue on_destroy_all on_clear on_get on_set u32
  queue_readable create_resource b q g = tests_all GoodAnswers (fail c) _ fail_readable success_readable
  queue_readable queue_resource b q g = tests_all GoodAnswers (fail c) _ fail_readable refl
  queue_readable destroy_all b q g = tests_all GoodAnswers (fail c) _ fail_readable success_readable
  queue_readable clear b q g =
      let n = c.stream in
      let d = drain_answers n (drain_ended (is_input q) b) in
      good_append (stopped_answers n q (buffers q b)) (d ++ own c success ∷ []) (stopped_readable n q b g)
      (good_append d (own c success ∷ []) (drain_good n (drain_ended (is_input q) b) (ended_good (is_input q) b g)) success_readable)
  queue_readable get_parameters b q g = own_good c (parameters (parameter_words q b)) t (ap (λ k. u32 (8 + 4 * k)) (length_parameters q b))
  queue_readable set_parameters b q g = tests_all GoodAnswers (fail c) _ fail_readable success_readable

  destroy_readable : (b : Stream) → GoodStream b → GoodAnswers (on_destroy c b)
  unfolding on_destroy
  destroy_readable b g =
      let n = c.stream in
      let i = stopped_answers n input (buffers input b) in
      let o = stopped_answers n output (buffers output b) in
      let d = drain_answers n b.draining in
      good_append i (o ++ (d ++ own c success ∷ [])) (stopped_readable n input b g)
      (good_append o (d ++ own c success ∷ []) (stopped_readable n output b g)
      (good_append d (own c success ∷ []) (drain_good n b.draining g.draining) success_readable))

  live_readable : (k : LiveCommand) (b : Stream) → GoodStream b → GoodAnswers (on_live k c b)
  unfolding on_drain
  live_readable k b g = live_cases GoodAnswers c b fail_readable (destroy_readable b g) (tests_all GoodAnswers (fail c) _ fail_readable refl) (λ j q. queue_readable j b q g) k

  command_readable : (around : Surroundings) → GoodSelf c.self → GoodAnswers (on_command around c)
  unfolding on_create
  command_readable around g =
      command_cases GoodAnswers around c fail_readable
      (λ e. tests_all GoodAnswers (fail c) _ fail_readable success_readable)
      (λ k b e. live_readable k b (subst GoodSelf e g))

pub serve_answers : (around : Surroundings) (n : ℕ) (self : Option Stream) (a : Act) → GoodSelf self → good_act a ≡ true
    → all_of good_answer (serve around n self a).answers ≡ true
unfolding serve u32
serve_answers around n self (command t f) g m = command_readable (record { stream = n; ticket = t; frame = f; self = self }) (and_left (u32 t) _ m) around g
serve_answers around n self (finish k qt r flags ts) g m =
    finish_cases GoodAnswers n qt r flags ts self refl refl
    (λ b q i h. let s : GoodStream b = subst GoodSelf h.self_is g in
    both (answer_good i.ticket n _ (found_good r i (queued_in (queue_of q b).slots) (queue_small q b s) h.waits_is) refl)
    (drain_good n (drain_ended (has_eos flags) b) (ended_good (has_eos flags) b s)))
serve_answers around n self (drained k) g m =
    drained_cases GoodAnswers n self refl
    (λ b t h. let s : GoodStream b = subst GoodSelf h.self_is g in
    both (answer_good t n drain_done (subst (λ d. good_drain d ≡ true) h.drain_is s.draining) refl) refl)

pub step_answers : (d : Device) (s : Step) → well_formed d ≡ true → good_act s.act ≡ true → all_of good_answer (step_on d s).answers ≡ true
step_answers d s h m =
    step_cases (λ (o : DeviceReply). all_of good_answer o.answers ≡ true) d s (λ k _. refl)
    (λ n e. serve_answers (around d n) n (record_of n d.places) s.act (well_record n d h) m)

pub read_back : ReadBack
read_back d s h m = read_back_list (step_on d s).answers (step_answers d s h m)
