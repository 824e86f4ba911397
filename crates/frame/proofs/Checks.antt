-- How each check stands in the model's list of tests: those that it makes are one test, behind which the rest is left.
use mathlib.Core.Path.{◌≡◌, refl, ap, ◌∙◌, subst}
use mathlib.Core.Bool.{true, false, not}
use Rattle.std.specs.Prelude.{Option, None, Some}
use Prim.Native.Nat.{ℕ, ◌+◌, ◌*◌, ◌≤◌}
use native.Mathlib.Omega.{arith}
use lib.Dec.{ltb, eqb}
use lib.ListN.{length}
use borrow.Author.Tests.{eqb-true, ltb-false, not-false}
use Rattle.laws.specs.Tests.{within}
use Rattle.laws.specs.InOrder.{◌⇒◌then◌, by_tests}
use Rattle.laws.proofs.Lists.{decide, each_map}
use Rattle.laws.proofs.InOrder.{tests_both, tests_twice, when_bad, when_good}
use Rattle.model.specs.Numbers.{first_coded, last_coded}
use Rattle.model.specs.Device.{QueueType, Stream}
use Rattle.model.specs.Frames.{Command, LengthRule, exactly, at_least, CommandRule, commands, rule_of, wrong_length, command_type, in_mem_type, out_mem_type, coded_format, planes_layout, num_planes, entries, entry_bytes, num_data_sizes, format_sent, frame_width}
use Rattle.model.specs.Answers.{ErrorCode, invalid_parameter}
use Rattle.model.specs.Replies.{Reply, Request, fail}
use Rattle.model.specs.Commands.{Surroundings, on_create, bad_entry, on_create_resource, on_queue, format_of, good_extent, on_set, on_stream, on_rule, on_command}
use Rattle.model.proofs.Rules.{by_type}
use Rattle.frame.specs.Frame.{good_creation, entry_sum, good_entries, good_resource, good_sizes, good_set}
use Rattle.frame.specs.Meant.{Verdict, wrong, right, verdict, verdict_for, least_length}
use Rattle.frame.specs.Rest.{rest_of_create, rest_of_resource, rest_of_queue, rest_of_set}

-- Type and length

-- what a command gives, by its frame's verdict
abbrev on_verdict : Surroundings → Request → Verdict → Reply
on_verdict around c (wrong e) = fail c e
on_verdict around c (right k) = on_stream around c k c.self

module _ (around : Surroundings) (c : Request) where
  by_rule : (o : Option CommandRule) → on_rule around c o ≡ on_verdict around c (verdict o (length c.frame))
  by_rule None = refl
  by_rule (Some l) = decide (wrong_length l.length_rule (length c.frame)) (λ t. simp t) (λ t. simp t)

  by_verdict : (v : Verdict) → verdict_for c.frame ≡ v → on_command around c ≡ on_verdict around c v
  unfolding on_command
  by_verdict v e = by_rule (rule_of (command_type c.frame)) ∙ ap (on_verdict around c) e

  pub wrong_frame : (e : ErrorCode) → verdict_for c.frame ≡ wrong e → on_command around c ≡ fail c e
  wrong_frame e h = by_verdict (wrong e) h

  pub right_frame : (k : Command) → verdict_for c.frame ≡ right k → on_command around c ≡ on_stream around c k c.self
  right_frame k h = by_verdict (right k) h

-- a frame has the bytes that its command needs

abbrev least_of : LengthRule → ℕ
least_of (exactly n) = n
least_of (at_least n) = n

ruled_length : (rule : LengthRule) (n : ℕ) → wrong_length rule n ≡ false → least_of rule ≤ n
ruled_length (exactly k) n h = omega (arith, eqb-true n k (not-false _ h))
ruled_length (at_least k) n h = ltb-false n k h

rule_length : (n : ℕ) (l : CommandRule) → least_of l.length_rule ≡ least_length l.command → (k : Command) → verdict (Some l) n ≡ right k → least_length k ≤ n
rule_length n l is k e =
    decide (wrong_length l.length_rule n)
    (λ t. absurd (let z : ◌≡◌ {A = ℕ} 0 1 = let w : wrong invalid_parameter ≡ right k = simp t at e in cc in omega arith))
    (λ t. let w : right l.command ≡ right k = simp t at e in
    let same : l.command ≡ k = cc in
    subst (λ (x : Command). least_length x ≤ n) same (rw (← is) (ruled_length l.length_rule n t)))

pub right_length : (ty n : ℕ) (k : Command) → verdict (rule_of ty) n ≡ right k → least_length k ≤ n
right_length ty n =
    by_type (λ ty o. (k : Command) → verdict o n ≡ right k → least_length k ≤ n)
    (each_map (λ l. least_of l.length_rule ≡ least_length l.command) (λ l. (k : Command) → verdict (Some l) n ≡ right k → least_length k ≤ n) (rule_length n) commands
    (refl, (refl, (refl, (refl, (refl, (refl, (refl, (refl, (refl, (refl, (refl, (refl, tt)))))))))))))
    (λ ty k e. absurd (let z : ◌≡◌ {A = ℕ} 0 1 = cc in omega arith)) ty

-- 0x0101
module _ (around : Surroundings) (c : Request) where
  pub creation_tests : on_create around c ≡ by_tests (fail c) (not (good_creation c.frame) ⇒ invalid_parameter then rest_of_create around c)
  unfolding on_create good_creation
  creation_tests =
      let f = c.frame in
      let e = invalid_parameter in
      let rest = rest_of_create around c in
      tests_both (fail c) e (eqb (in_mem_type f) 0) _ _ rest
      (tests_both (fail c) e (eqb (out_mem_type f) 0) _ _ rest
      (tests_both (fail c) e (within (coded_format f) first_coded last_coded) _ _ rest refl))

  pub creation_bad : good_creation c.frame ≡ false → on_create around c ≡ fail c invalid_parameter
  creation_bad h = when_bad (fail c) invalid_parameter (good_creation c.frame) (rest_of_create around c) creation_tests h

  pub creation_good_lem : good_creation c.frame ≡ true → on_create around c ≡ by_tests (fail c) (rest_of_create around c)
  creation_good_lem h = when_good (fail c) invalid_parameter (good_creation c.frame) (rest_of_create around c) creation_tests h

-- 0x0104 to 0x0109, to the queue q of a stream b
module _ (c : Request) (b : Stream) (q : QueueType) where
  pub resource_tests : on_create_resource c b q ≡ by_tests (fail c) (not (good_resource c.frame) ⇒ invalid_parameter then rest_of_resource c b q)
  unfolding on_create_resource good_resource good_entries
  resource_tests =
      let f = c.frame in
      let e = invalid_parameter in
      let rest = rest_of_resource c b q in
      tests_both (fail c) e (within (planes_layout f) 1 2) _ _ rest
      (tests_both (fail c) e (within (num_planes f) 1 8) _ _ rest
      (tests_both (fail c) e (within (entry_sum f) 1 256) _ _ rest
      (tests_both (fail c) e (eqb (length f) (88 + entry_bytes * entry_sum f)) _ _ rest
      (tests_twice (fail c) e (bad_entry (entry_sum f) (entries f)) rest))))

  pub resource_bad : good_resource c.frame ≡ false → on_create_resource c b q ≡ fail c invalid_parameter
  resource_bad g = when_bad (fail c) invalid_parameter (good_resource c.frame) (rest_of_resource c b q) resource_tests g

  pub resource_good_lem : good_resource c.frame ≡ true → on_create_resource c b q ≡ by_tests (fail c) (rest_of_resource c b q)
  resource_good_lem g = when_good (fail c) invalid_parameter (good_resource c.frame) (rest_of_resource c b q) resource_tests g

  pub queue_tests : on_queue c b q ≡ by_tests (fail c) (not (good_sizes c.frame) ⇒ invalid_parameter then rest_of_queue c b q)
  unfolding on_queue good_sizes
  queue_tests = tests_twice (fail c) invalid_parameter (ltb 8 (num_data_sizes c.frame)) (rest_of_queue c b q)

  pub queue_bad : good_sizes c.frame ≡ false → on_queue c b q ≡ fail c invalid_parameter
  queue_bad g = when_bad (fail c) invalid_parameter (good_sizes c.frame) (rest_of_queue c b q) queue_tests g

  pub queue_good : good_sizes c.frame ≡ true → on_queue c b q ≡ by_tests (fail c) (rest_of_queue c b q)
  queue_good g = when_good (fail c) invalid_parameter (good_sizes c.frame) (rest_of_queue c b q) queue_tests g

  pub set_tests : on_set c b q ≡ by_tests (fail c) (not (good_set (format_of q b) c.frame) ⇒ invalid_parameter then rest_of_set c b q)
  unfolding on_set good_set
  set_tests =
      let f = c.frame in
      let e = invalid_parameter in
      let rest = rest_of_set c b q in
      tests_both (fail c) e (eqb (format_sent f) (format_of q b)) _ _ rest
      (tests_both (fail c) e (good_extent (frame_width f)) _ _ rest refl)

  pub set_bad : good_set (format_of q b) c.frame ≡ false → on_set c b q ≡ fail c invalid_parameter
  set_bad g = when_bad (fail c) invalid_parameter (good_set (format_of q b) c.frame) (rest_of_set c b q) set_tests g

  pub set_good_lem : good_set (format_of q b) c.frame ≡ true → on_set c b q ≡ by_tests (fail c) (rest_of_set c b q)
  set_good_lem g = when_good (fail c) invalid_parameter (good_set (format_of q b) c.frame) (rest_of_set c b q) set_tests g
