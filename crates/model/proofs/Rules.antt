-- The table of commands, rule by rule.
use mathlib.Core.Path.{◌≡◌, refl, subst}
use mathlib.Core.Bool.{Bool, true, false}
use Rattle.std.specs.Prelude.{Option, None, Some}
use mathlib.Core.List.{List, [], ◌∷◌}
use Prim.Native.Nat.{ℕ}
use lib.Dec.{eqb}
use borrow.Author.Tests.{eqb-true}
use Rattle.laws.specs.Lists.{Each}
use Rattle.laws.proofs.Lists.{decide, each_map}
use Rattle.model.specs.Device.{QueueType, input, output}
use Rattle.model.specs.Frames.{Command, create, live, CommandRule, commands, rule_in, rule_of, queue_number, queue_named}

-- what holds of every rule with its type, and of every type without a rule, holds of every type
by_rule : (P : ℕ → Option CommandRule → Type 0) (ls : List CommandRule) → Each (λ l. P l.type (Some l)) ls → ((ty : ℕ) → P ty None) → (ty : ℕ) → P ty (rule_in ty ls)
by_rule P [] h unknown ty = unknown ty
by_rule P (l ∷ ls) h unknown ty =
    decide (eqb l.type ty)
    (λ e. simp e (subst (λ (x : ℕ). P x (Some l)) (eqb-true l.type ty e) h.0))
    (λ e. simp e (by_rule P ls h.1 unknown ty))

pub by_type : (P : ℕ → Option CommandRule → Type 0) → Each (λ l. P l.type (Some l)) commands → ((ty : ℕ) → P ty None) → (ty : ℕ) → P ty (rule_of ty)
unfolding rule_of
by_type P h unknown ty = by_rule P commands h unknown ty

-- a creation
abbrev pub creates : Command → Bool
creates create = true
creates (live k) = false

-- only the type 0x0101 is one
only_creation : Each (λ l. creates l.command ≡ eqb l.type 0x0101) commands
only_creation = (refl, (refl, (refl, (refl, (refl, (refl, (refl, (refl, (refl, (refl, (refl, (refl, tt))))))))))))

-- by whether it is one: what holds of every rule, and where there is none, holds of every type
pub by_creation : (P : Bool → Option CommandRule → Type 0) → ((l : CommandRule) → P (creates l.command) (Some l)) → ((b : Bool) → P b None)
    → (ty : ℕ) → P (eqb ty 0x0101) (rule_of ty)
by_creation P h unknown =
    by_type (λ ty l. P (eqb ty 0x0101) l)
    (each_map (λ l. creates l.command ≡ eqb l.type 0x0101) (λ l. P (eqb l.type 0x0101) (Some l)) (λ l e. subst (λ (b : Bool). P b (Some l)) e (h l)) commands only_creation)
    (λ ty. unknown (eqb ty 0x0101))

-- a queue is named by its number, and a number that names a queue is that queue's
pub number_names : (q : QueueType) → queue_named (queue_number q) ≡ Some q
unfolding queue_named
number_names input = refl
number_names output = refl

pub named_number : (n : ℕ) (q : QueueType) → queue_named n ≡ Some q → n ≡ queue_number q
unfolding queue_named
named_number n q e =
    decide (eqb n 0x100)
    (λ h. let z : Some input ≡ Some q = simp h at e in let w : input ≡ q = cc in subst (λ (x : QueueType). n ≡ queue_number x) w (eqb-true n 0x100 h))
    (λ h. decide (eqb n 0x101)
    (λ k. let z : Some output ≡ Some q = simp (h, k) at e in let w : output ≡ q = cc in subst (λ (x : QueueType). n ≡ queue_number x) w (eqb-true n 0x101 k))
    (λ k. let z : None ≡ Some q = simp (h, k) at e in cc))
