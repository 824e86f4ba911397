-- Whatever a step asks, each queue of its stream keeps its sixteen slots.
use Prim.Native.Nat.{ℕ}
use mathlib.Core.Path.{◌≡◌, refl, sym, ◌∙◌, subst}
use mathlib.Core.Bool.{Bool, true, false}
use Rattle.std.specs.Prelude.{Option, None, Some}
use mathlib.Core.List.{List}
use lib.ListN.{length}
use Rattle.laws.proofs.InOrder.{tests_all}
use Rattle.model.specs.Numbers.{queue_slots}
use Rattle.model.specs.Device.{QueueType, input, output, dequeued, Slot, Queue, Stream, new_stream, queue_of, with_queue, with_slots, with_drain, is_input}
use Rattle.model.specs.Frames.{QueueCommand, create_resource, queue_resource, destroy_all, clear, get_parameters, set_parameters, coded_format}
use Rattle.model.specs.Replies.{Reply, Request, fail}
use Rattle.model.specs.Commands.{Surroundings, without_ended, on_queue_of, on_create_resource, on_queue, on_destroy_all, on_clear, on_get, on_set, on_destroy, on_drain}
use Rattle.model.specs.Reports.{has_eos}
use Rattle.model.specs.Steps.{Act, command, finish, drained, serve}
use Rattle.model.proofs.Slots.{length_set_state, length_stop, length_free, length_add}
use Rattle.model.proofs.Origins.{command_cases, live_cases, finish_cases, drained_cases, create_cases}

-- both queues of a record, if there is one, have sixteen slots
abbrev pub Sixteen : Option Stream → Type 0
Sixteen None = Unit {0}
Sixteen (Some b) = (q : QueueType) → length (queue_of q b).slots ≡ queue_slots

abbrev SixteenLeft : Reply → Type 0
SixteenLeft v = Sixteen v.next

-- another queue, of as many slots
other_queue : (t : QueueType) (x : Queue) (b : Stream) → Sixteen (Some b) → length x.slots ≡ queue_slots → Sixteen (Some (with_queue t x b))
other_queue input x b h e input = e
other_queue input x b h e output = h output
other_queue output x b h e input = h input
other_queue output x b h e output = e

-- another drain
other_drain : (d : Option ℕ) (b : Stream) → Sixteen (Some b) → Sixteen (Some (with_drain d b))
other_drain d b h input = h input
other_drain d b h output = h output

-- other slots, whether the drain ends or not
other_slots : (ends : Bool) (t : QueueType) (s : List Slot) (b : Stream) → Sixteen (Some b) → length s ≡ length (queue_of t b).slots → Sixteen (Some (with_queue t (with_slots s (queue_of t b)) (without_ended ends b)))
other_slots true t s b h e = other_queue t _ (with_drain None b) (other_drain None b h) (e ∙ h t)
other_slots false t s b h e = other_queue t _ b h (e ∙ h t)

-- a new stream
pub new_sixteen : (format : ℕ) → Sixteen (Some (new_stream format))
new_sixteen format input = refl
new_sixteen format output = refl

module _ (c : Request) (b : Stream) (self : c.self ≡ Some b) (h : Sixteen (Some b)) where
  still : Sixteen c.self
  still = subst Sixteen (sym self) h

  queue_sixteen : (k : QueueCommand) (q : QueueType) → SixteenLeft (on_queue_of k c b q)
  unfolding on_create_resource on_queue on_destroy_all on_clear on_get on_set
  queue_sixteen create_resource q = tests_all SixteenLeft (fail c) _ (λ e. still) (other_slots false q _ b h (length_add _ (queue_of q b).slots))
  queue_sixteen queue_resource q = tests_all SixteenLeft (fail c) _ (λ e. still) (other_slots false q _ b h (length_set_state _ _ (queue_of q b).slots))
  queue_sixteen destroy_all q = tests_all SixteenLeft (fail c) _ (λ e. still) (other_slots false q _ b h (length_free (queue_of q b).slots))
  queue_sixteen clear q = other_slots (is_input q) q _ b h (length_stop (queue_of q b).slots)
  queue_sixteen get_parameters q = still
  queue_sixteen set_parameters q = tests_all SixteenLeft (fail c) _ (λ e. still) (other_queue q _ b h (h q))

pub keeps_sixteen : (around : Surroundings) (n : ℕ) (self : Option Stream) (a : Act) → Sixteen self → Sixteen (serve around n self a).next
unfolding serve on_destroy on_drain
keeps_sixteen around n self (command t f) h =
    let c : Request = record { stream = n; ticket = t; frame = f; self = self } in
    command_cases SixteenLeft around c (λ e. h)
    (λ _. create_cases SixteenLeft around c h (λ _. h) (new_sixteen (coded_format f)))
    (λ k b e.
    let g : Sixteen (Some b) = subst Sixteen e h in
    live_cases SixteenLeft c b (λ x. h) tt (tests_all SixteenLeft (fail c) _ (λ x. h) (other_drain _ b g)) (queue_sixteen c b e g) k)
keeps_sixteen around n self (finish m qt r flags ts) h =
    finish_cases SixteenLeft n qt r flags ts self h h
    (λ b q i x. other_slots (has_eos flags) q _ b (subst Sixteen x.self_is h) (length_set_state r dequeued (queue_of q b).slots))
keeps_sixteen around n self (drained m) h = drained_cases SixteenLeft n self h (λ b t x. other_drain None b (subst Sixteen x.self_is h))
