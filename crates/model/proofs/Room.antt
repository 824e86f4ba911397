-- A step writes no more than the room that it must be lent.
use mathlib.Core.Path.{◌≡◌, refl, subst}
use Rattle.std.specs.Prelude.{Option, None, Some}
use mathlib.Core.List.{List, [], ◌∷◌, ◌++◌}
use Prim.Native.Nat.{ℕ, ◌+◌, ◌*◌, ◌≤◌}
use native.Mathlib.Omega.{arith}
use lib.ListN.{length, length-append}
use Rattle.field.specs.Field.{little_endian}
use Rattle.model.specs.Numbers.{answer_room, err}
use Rattle.model.specs.Device.{QueueType, input, output, is_input, created, queued, dequeued, Slot, free, resource, Stream, queue_of, Buffer, queued_in, buffers, record_of}
use Rattle.model.specs.Frames.{QueueCommand, create_resource, queue_resource, destroy_all, clear, get_parameters, set_parameters, LiveCommand}
use Rattle.model.specs.Answers.{ErrorCode, Response, success, buffer_done, drain_done, parameters, failure, Answer, response_bytes, bytes_of}
use Rattle.model.specs.Replies.{Reply, Request, own, fail}
use Rattle.model.specs.Commands.{Surroundings, on_create, stopped_answers, drain_ended, drain_answers, on_destroy, on_drain, on_create_resource, on_queue, on_destroy_all, on_clear, parameter_words, on_get, on_set, on_queue_of, on_live, on_command}
use Rattle.model.specs.Reports.{timestamp_of, has_eos}
use Rattle.model.specs.Steps.{Act, command, finish, drained, serve, DeviceReply, around}
use Rattle.model.specs.Promises.{FitsRoom}
use Rattle.laws.proofs.Ascending.{length_ascending}
use Rattle.laws.proofs.InOrder.{tests_all}
use Rattle.model.proofs.Origins.{live_cases, command_cases, finish_cases, drained_cases, step_cases}
use Rattle.model.proofs.WellFormed.{GoodStream, GoodSelf, good_queue_of, well_record}
use Rattle.model.proofs.ReadBack.{size_of, length_response, length_parameters}

abbrev size : List Answer → ℕ
size l = length (bytes_of l)

size_cons : (t n : ℕ) (r : Response) (l : List Answer) → size (record { ticket = t; stream = n; response = r } ∷ l) ≡ 8 + size_of r + size l
unfolding little_endian
size_cons t n r l = omega (arith, length-append (response_bytes n r) (bytes_of l), length_response n r)

size_append : (l m : List Answer) → size (l ++ m) ≡ size l + size m
size_append [] m = omega arith
size_append (a ∷ l) m =
    omega (arith, size_cons a.ticket a.stream a.response (l ++ m), size_cons a.ticket a.stream a.response l, size_append l m)

size_stopped : (n : ℕ) (q : QueueType) (l : List Buffer) → size (stopped_answers n q l) ≡ 32 * length l
size_stopped n q [] = refl
size_stopped n q (i ∷ l) = omega (arith, size_cons i.ticket n (buffer_done q i.timestamp err) (stopped_answers n q l), size_stopped n q l)

size_drain : (n : ℕ) (d : Option ℕ) → size (drain_answers n d) ≤ 16
size_drain n None = omega arith
size_drain n (Some t) = omega (arith, size_cons t n drain_done [])

pub length_queued : (s : List Slot) → length (queued_in s) ≤ length s
length_queued [] = omega arith
length_queued (free ∷ s) = omega (arith, length_queued s)
length_queued (resource m created ∷ s) = omega (arith, length_queued s)
length_queued (resource m (queued t ts) ∷ s) = omega (arith, length_queued s)
length_queued (resource m dequeued ∷ s) = omega (arith, length_queued s)

stopped_fit : (n : ℕ) (q : QueueType) (b : Stream) → GoodStream b → size (stopped_answers n q (buffers q b)) ≤ 512
stopped_fit n q b g =
    let s = (queue_of q b).slots in
    omega (arith, size_stopped n q (buffers q b), length_ascending (λ (i : Buffer). i.resource) (queued_in s), length_queued s, (good_queue_of q b g).slots.size)

abbrev InRoom : Reply → Type 0
InRoom v = size v.answers ≤ answer_room

size_own : (c : Request) (r : Response) → size (own c r ∷ []) ≡ 8 + size_of r
size_own c r = omega (arith, size_cons c.ticket c.stream r [])

success_small : (c : Request) → size (own c success ∷ []) ≤ answer_room
success_small c = omega (arith, size_own c success)

fail_small : (c : Request) (e : ErrorCode) → InRoom (fail c e)
fail_small c e = omega (arith, size_own c (failure e))

queue_small : (k : QueueCommand) (c : Request) (b : Stream) (q : QueueType) → GoodStream b → InRoom (on_queue_of k c b q)
unfolding on_create_resource on_queue on_destroy_all on_clear on_get on_set
queue_small create_resource c b q g = tests_all InRoom (fail c) _ (fail_small c) (success_small c)
queue_small queue_resource c b q g = tests_all InRoom (fail c) _ (fail_small c) (omega arith)
queue_small destroy_all c b q g = tests_all InRoom (fail c) _ (fail_small c) (success_small c)
queue_small clear c b q g =
    let n = c.stream in
    let d = drain_answers n (drain_ended (is_input q) b) in
    omega (
      arith,
      size_append (stopped_answers n q (buffers q b)) (d ++ own c success ∷ []),
      size_append d (own c success ∷ []),
      stopped_fit n q b g,
      size_drain n (drain_ended (is_input q) b),
      size_own c success,
    )
queue_small get_parameters c b q g = omega (arith, size_own c (parameters (parameter_words q b)), length_parameters q b)
queue_small set_parameters c b q g = tests_all InRoom (fail c) _ (fail_small c) (success_small c)

destroy_small : (c : Request) (b : Stream) → GoodStream b → InRoom (on_destroy c b)
unfolding on_destroy
destroy_small c b g =
    let n = c.stream in
    let i = stopped_answers n input (buffers input b) in
    let o = stopped_answers n output (buffers output b) in
    let d = drain_answers n b.draining in
    omega (
      arith,
      size_append i (o ++ (d ++ own c success ∷ [])),
      size_append o (d ++ own c success ∷ []),
      size_append d (own c success ∷ []),
      stopped_fit n input b g,
      stopped_fit n output b g,
      size_drain n b.draining,
      size_own c success,
    )

live_fits : (k : LiveCommand) (c : Request) (b : Stream) → GoodStream b → InRoom (on_live k c b)
unfolding on_drain
live_fits k c b g = live_cases InRoom c b (fail_small c) (destroy_small c b g) (tests_all InRoom (fail c) _ (fail_small c) (omega arith)) (λ j q. queue_small j c b q g) k

command_small : (around : Surroundings) (c : Request) → GoodSelf c.self → InRoom (on_command around c)
unfolding on_create
command_small around c g =
    command_cases InRoom around c (fail_small c)
    (λ e. tests_all InRoom (fail c) _ (fail_small c) (success_small c))
    (λ k b e. live_fits k c b (subst GoodSelf e g))

serve_small : (around : Surroundings) (n : ℕ) (self : Option Stream) (a : Act) → GoodSelf self → InRoom (serve around n self a)
unfolding serve
serve_small around n self (command t f) g = command_small around (record { stream = n; ticket = t; frame = f; self = self }) g
serve_small around n self (finish k qt r flags ts) g =
    finish_cases InRoom n qt r flags ts self (omega arith) (omega arith) (λ b q i h.
    let d = drain_ended (has_eos flags) b in
    omega (arith, size_cons i.ticket n (buffer_done q (timestamp_of q i ts) flags) (drain_answers n d), size_drain n d))
serve_small around n self (drained k) g = drained_cases InRoom n self (omega arith) (λ b t h. omega (arith, size_cons t n drain_done []))

pub fits_room : FitsRoom
fits_room d s h =
    step_cases (λ (o : DeviceReply). size o.answers ≤ answer_room) d s (λ k _. omega arith)
    (λ n e. serve_small (around d n) n (record_of n d.places) s.act (well_record n d h))
