-- The machine, transition by transition.
use mathlib.Core.Path.{◌≡◌, refl, subst}
use mathlib.Core.Bool.{true, ◌&&◌}
use Rattle.std.specs.Prelude.{Some}
use mathlib.Core.List.{List, [], ◌∷◌}
use Prim.Native.Nat.{ℕ}
use native.Mathlib.Omega.{arith}
use lib.Dec.{eqb}
use borrow.Author.Tests.{eqb-true}
use Rattle.laws.specs.Lists.{Each}
use Rattle.laws.proofs.Tests.{and_left, and_right}
use Rattle.laws.proofs.Lists.{decide, each_all}
use Rattle.pcm.specs.Lifecycle.{Transition, lifecycle, next_in, next_state, is_transition}
use Rattle.pcm.specs.Control.{is_state}

-- what holds of every transition holds wherever the machine leads on
module _ (P : ℕ → ℕ → ℕ → Type 0) where
  abbrev pub OfTransition : Transition → Type 0
  OfTransition t = P t.out t.request t.into

  by_transitions : (ts : List Transition) → Each OfTransition ts → (s k n : ℕ) → next_in s k ts ≡ Some n → P s k n
  by_transitions [] h s k n e = absurd (let z : ◌≡◌ {A = ℕ} 0 1 = cc in omega arith)
  by_transitions (t ∷ ts) h s k n e =
      let here = eqb t.out s && eqb t.request k in
      decide here
      (λ b. let w : Some t.into ≡ Some n = simp b at e in
      let into : t.into ≡ n = cc in
      let out : t.out ≡ s = eqb-true t.out s (and_left (eqb t.out s) (eqb t.request k) b) in
      let by : t.request ≡ k = eqb-true t.request k (and_right (eqb t.out s) (eqb t.request k) b) in
      subst (λ (x : ℕ). P x k n) out (subst (λ (x : ℕ). P t.out x n) by (subst (λ (x : ℕ). P t.out t.request x) into h.0)))
      (λ b. by_transitions ts h.1 s k n (simp b at e))

  pub by_transition : Each OfTransition lifecycle → (s k n : ℕ) → next_state s k ≡ Some n → P s k n
  unfolding next_state
  by_transition h s k n e = by_transitions lifecycle h s k n e

-- the machine leads to a state, by one of its transitions
pub next_is_state : (s k n : ℕ) → next_state s k ≡ Some n → is_state n ≡ true
next_is_state = by_transition (λ s k n. is_state n ≡ true) (each_all (λ t. is_state t.into) lifecycle refl)

pub next_is_transition : (s k n : ℕ) → next_state s k ≡ Some n → is_transition s k n ≡ true
unfolding is_transition
next_is_transition = by_transition (λ s k n. is_transition s k n ≡ true) (each_all (λ t. is_transition t.out t.request t.into) lifecycle refl)
