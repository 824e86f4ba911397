-- What the tests of each command give, by what the code found.
use mathlib.Core.Path.{◌≡◌, refl, sym, ap, ◌∙◌}
use mathlib.Core.Bool.{true, false, not}
use Rattle.std.specs.Prelude.{None, Some, is_some}
use mathlib.Core.List.{List, [], ◌∷◌}
use Prim.Native.Nat.{ℕ}
use lib.ListN.{set}
use Rattle.laws.specs.Lists.{is_empty, is_none}
use Rattle.laws.specs.InOrder.{accept, ◌⇒◌then◌, by_tests}
use Rattle.laws.proofs.Lists.{some_none}
use Rattle.laws.proofs.InOrder.{tests_accept, tests_hit, tests_miss}
use Rattle.model.specs.Device.{QueueType, created, queued, Slot, resource, Stream, queue_of, with_queue, with_drain, with_slots, queued_in, buffer_of, present, no_slot, add_resource, set_state, free_all}
use Rattle.model.specs.Frames.{resource_id, timestamp_sent, frame_width, frame_height, frame_rate}
use Rattle.model.specs.Answers.{invalid_operation, out_of_memory, invalid_resource, success, parameters}
use Rattle.model.specs.Replies.{reply, Request, own, fail}
use Rattle.model.specs.Commands.{on_drain, on_create_resource, input_draining, on_queue, on_destroy_all, format_of, parameter_words, on_get, with_parameters, on_set}
use Rattle.model.proofs.Slots.{Distinct}
use Rattle.queue.specs.Search.{slot_at, is_queued, number_in, find_resource, find_free}
use Rattle.queue.proofs.Bridge.{find_present, find_absent, find_number, find_set, find_queued, free_room, free_add, free_none}
use Rattle.frame.specs.Frame.{good_resource, good_sizes, good_set}
use Rattle.frame.proofs.Checks.{resource_good_lem, queue_good, set_good_lem}
use Rattle.stream.specs.Queueing.{Placed}

module _ (c : Request) (b : Stream) where
  -- 0x0103
  pub drain_again : is_some b.draining ≡ true → on_drain c b ≡ fail c invalid_operation
  unfolding on_drain by_tests
  drain_again e = rw (sym (some_none b.draining) ∙ e)

  pub drain_new : is_some b.draining ≡ false → on_drain c b ≡ reply [] (Some (with_drain (Some c.ticket) b))
  unfolding on_drain by_tests
  drain_new e = rw (sym (some_none b.draining) ∙ e)

  module _ (q : QueueType) where
    -- 0x0104, behind a good frame with the resource r
    module _ (g : good_resource c.frame ≡ true) (r : ℕ) (is : r ≡ resource_id c.frame) where
      pub creating_again : true ≡ present r (queue_of q b).slots → on_create_resource c b q ≡ fail c invalid_resource
      creating_again e =
          let s = (queue_of q b).slots in
          resource_good_lem c b q g ∙ tests_hit (fail c) (present (resource_id c.frame) s) invalid_resource _ (sym (e ∙ ap (λ (n : ℕ). present n s) is))

      -- with a number that is not there
      module _ (e : false ≡ present r (queue_of q b).slots) where
        behind : on_create_resource c b q ≡ by_tests (fail c) (no_slot (queue_of q b).slots ⇒ out_of_memory then accept (reply (own c success ∷ []) (Some (with_queue q (with_slots (add_resource (resource_id c.frame) (queue_of q b).slots) (queue_of q b)) b))))
        behind =
            let s = (queue_of q b).slots in
            resource_good_lem c b q g ∙ tests_miss (fail c) (present (resource_id c.frame) s) invalid_resource _ (sym (e ∙ ap (λ (n : ℕ). present n s) is))

        pub creating_full : None ≡ find_free (queue_of q b).slots → on_create_resource c b q ≡ fail c out_of_memory
        creating_full f = behind ∙ tests_hit (fail c) (no_slot (queue_of q b).slots) out_of_memory _ (free_none (queue_of q b).slots (sym f))

        pub creating_new : (k : ℕ) → Some k ≡ find_free (queue_of q b).slots
            → on_create_resource c b q ≡ reply (own c success ∷ []) (Some (with_queue q (with_slots (set (queue_of q b).slots k (resource r created)) (queue_of q b)) b))
        creating_new k f =
            let s = (queue_of q b).slots in
            behind
            ∙ tests_miss (fail c) (no_slot s) out_of_memory _ (free_room k s (sym f))
            ∙ tests_accept (fail c) _
            ∙ ap (λ (l : List Slot). reply (own c success ∷ []) (Some (with_queue q (with_slots l (queue_of q b)) b)))
            (ap (λ (n : ℕ). add_resource n s) (sym is) ∙ free_add r k s (sym f))

    -- 0x0105, behind a good frame
    module _ (g : good_sizes c.frame ≡ true) where
      pub queueing_draining : true ≡ input_draining q b → on_queue c b q ≡ fail c invalid_operation
      queueing_draining e = queue_good c b q g ∙ tests_hit (fail c) (input_draining q b) invalid_operation _ (sym e)

      pub queueing_absent : false ≡ input_draining q b → None ≡ find_resource (resource_id c.frame) (queue_of q b).slots → on_queue c b q ≡ fail c invalid_resource
      queueing_absent e f =
          let s = (queue_of q b).slots in
          queue_good c b q g
          ∙ tests_miss (fail c) (input_draining q b) invalid_operation _ (sym e)
          ∙ tests_hit (fail c) (not (present (resource_id c.frame) s)) invalid_resource _ (ap not (find_absent (resource_id c.frame) s (sym f)))

    -- 0x0106
    pub freeing_busy : true ≡ not (is_empty (queued_in (queue_of q b).slots)) → on_destroy_all c b q ≡ fail c invalid_operation
    unfolding on_destroy_all by_tests
    freeing_busy e = rw (sym e)

    pub freeing_idle : false ≡ not (is_empty (queued_in (queue_of q b).slots))
        → on_destroy_all c b q ≡ reply (own c success ∷ []) (Some (with_queue q (with_slots (free_all (queue_of q b).slots) (queue_of q b)) b))
    unfolding on_destroy_all by_tests
    freeing_idle e = rw (sym e)

    -- 0x0108
    pub getting : on_get c b q ≡ reply (own c (parameters (parameter_words q b)) ∷ []) c.self
    unfolding on_get
    getting = refl

    -- 0x0109, behind a good frame
    module _ (g : good_set (format_of q b) c.frame ≡ true) where
      pub setting_busy : true ≡ not (is_empty (queued_in (queue_of q b).slots)) → on_set c b q ≡ fail c invalid_operation
      setting_busy e = set_good_lem c b q g ∙ tests_hit (fail c) (not (is_empty (queued_in (queue_of q b).slots))) invalid_operation _ (sym e)

      pub setting_idle : false ≡ not (is_empty (queued_in (queue_of q b).slots))
          → on_set c b q ≡ reply (own c success ∷ []) (Some (with_queue q (with_parameters (frame_width c.frame) (frame_height c.frame) (frame_rate c.frame) (queue_of q b)) b))
      setting_idle e = set_good_lem c b q g ∙ tests_miss (fail c) (not (is_empty (queued_in (queue_of q b).slots))) invalid_operation _ (sym e) ∙ tests_accept (fail c) _

  -- 0x0105 on the slot k
  module _ (q : QueueType) (k : ℕ) (p : Placed c.frame b q k) (d : Distinct (queue_of q b).slots) where
    last : on_queue c b q ≡ by_tests (fail c) (not (is_none (buffer_of (resource_id c.frame) (queued_in (queue_of q b).slots))) ⇒ invalid_operation then
        accept (reply [] (Some (with_queue q (with_slots (set_state (resource_id c.frame) (queued c.ticket (timestamp_sent c.frame)) (queue_of q b).slots) (queue_of q b)) b))))
    last =
        let s = (queue_of q b).slots in
        let r = resource_id c.frame in
        queue_good c b q p.sizes
        ∙ tests_miss (fail c) (input_draining q b) invalid_operation _ p.takes
        ∙ tests_miss (fail c) (not (present r s)) invalid_resource _ (ap not (find_present r k s p.found))

    pub queueing_again : true ≡ is_queued (slot_at k (queue_of q b).slots) → on_queue c b q ≡ fail c invalid_operation
    queueing_again e =
        let s = (queue_of q b).slots in
        let r = resource_id c.frame in
        last ∙ tests_hit (fail c) (not (is_none (buffer_of r (queued_in s)))) invalid_operation _ (ap not (find_queued r k s p.found d ∙ ap not (sym e)))

    pub queueing_new : false ≡ is_queued (slot_at k (queue_of q b).slots) → (ts : ℕ) → ts ≡ timestamp_sent c.frame
        → on_queue c b q ≡ reply [] (Some (with_queue q (with_slots (set (queue_of q b).slots k (resource (number_in (slot_at k (queue_of q b).slots)) (queued c.ticket ts))) (queue_of q b)) b))
    queueing_new e ts is =
        let s = (queue_of q b).slots in
        let r = resource_id c.frame in
        last
        ∙ tests_miss (fail c) (not (is_none (buffer_of r (queued_in s)))) invalid_operation _ (ap not (find_queued r k s p.found d ∙ ap not (sym e)))
        ∙ tests_accept (fail c) _
        ∙ ap (λ (l : List Slot). reply [] (Some (with_queue q (with_slots l (queue_of q b)) b)))
        (find_set r k s p.found d (queued c.ticket (timestamp_sent c.frame))
        ∙ ap (λ (n : ℕ). set s k (resource n (queued c.ticket (timestamp_sent c.frame)))) (sym (find_number r k s p.found))
        ∙ ap (λ (x : ℕ). set s k (resource (number_in (slot_at k s)) (queued c.ticket x))) (sym is))
