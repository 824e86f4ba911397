-- Laws of tests in order.
use mathlib.Core.Path.{◌≡◌, refl, ◌∙◌}
use Rattle.std.specs.Prelude.{None, Some}
use mathlib.Core.Bool.{Bool, true, false, not, ◌&&◌}
use Prim.Native.Nat.{ℕ}
use native.Mathlib.Omega.{arith}
use Rattle.laws.specs.InOrder.{TestList, accept, ◌⇒◌then◌, by_tests, first_hit}
use Rattle.laws.proofs.Lists.{cond_elim}

module _ {E A : Type 0} where
  -- a property where no test hits
  abbrev pub Passed : (A → Type 0) → TestList E A → Type 0
  Passed P (accept v) = P v
  Passed P (hit ⇒ e then ts) = hit ≡ false → Passed P ts

  -- a property of what the tests give: of each error, and where none hits
  pub tests_cases : (P : A → Type 0) (fail : E → A) (ts : TestList E A) → ((e : E) → P (fail e)) → Passed P ts → P (by_tests fail ts)
  unfolding by_tests
  tests_cases P fail (accept v) fails h = h
  tests_cases P fail (hit ⇒ e then ts) fails h = cond_elim P hit (λ _. fails e) (λ z. tests_cases P fail ts fails (h z))

  -- what is given where no test hits
  abbrev pub last_of : TestList E A → A
  last_of (accept v) = v
  last_of (hit ⇒ e then ts) = last_of ts

  -- a property of that holds whatever the tests say
  passed_all : (P : A → Type 0) (ts : TestList E A) → P (last_of ts) → Passed P ts
  passed_all P (accept v) h = h
  passed_all P (hit ⇒ e then ts) h = λ _. passed_all P ts h

  -- a property of each error and of that: it does not matter which tests there are
  pub tests_all : (P : A → Type 0) (fail : E → A) (ts : TestList E A) → ((e : E) → P (fail e)) → P (last_of ts) → P (by_tests fail ts)
  tests_all P fail ts fails h = tests_cases P fail ts fails (passed_all P ts h)

module _ {E A : Type 0} (fail : E → A) where
  -- no test, a test that hits, and one that does not
  pub tests_accept : (v : A) → by_tests fail (accept v) ≡ v
  unfolding by_tests
  tests_accept v = refl

  pub tests_hit : (t : Bool) (e : E) (ts : TestList E A) → t ≡ true → by_tests fail (t ⇒ e then ts) ≡ fail e
  unfolding by_tests
  tests_hit t e ts h = rw h

  pub tests_miss : (t : Bool) (e : E) (ts : TestList E A) → t ≡ false → by_tests fail (t ⇒ e then ts) ≡ by_tests fail ts
  unfolding by_tests
  tests_miss t e ts h = rw h

  -- two negated tests for one error, and a test behind two negations
  pub tests_both : (e : E) (a b : Bool) (us ts : TestList E A) → by_tests fail us ≡ by_tests fail (not b ⇒ e then ts)
      → by_tests fail (not a ⇒ e then us) ≡ by_tests fail (not (a && b) ⇒ e then ts)
  unfolding by_tests
  tests_both e true b us ts h = h
  tests_both e false b us ts h = refl

  pub tests_twice : (e : E) (t : Bool) (ts : TestList E A) → by_tests fail (t ⇒ e then ts) ≡ by_tests fail (not (not t) ⇒ e then ts)
  unfolding by_tests
  tests_twice e true ts = refl
  tests_twice e false ts = refl

  -- a list of tests that starts with the test of a check
  pub when_bad : {v : A} (e : E) (good : Bool) (ts : TestList E A) → v ≡ by_tests fail (not good ⇒ e then ts) → good ≡ false → v ≡ fail e
  when_bad e good ts p h = p ∙ tests_hit (not good) e ts (rw h)

  pub when_good : {v : A} (e : E) (good : Bool) (ts : TestList E A) → v ≡ by_tests fail (not good ⇒ e then ts) → good ≡ true → v ≡ by_tests fail ts
  when_good e good ts p h = p ∙ tests_miss (not good) e ts (rw h)

-- tests before others
module _ {E A B : Type 0} where
  abbrev pub ahead : TestList E B → TestList E A → TestList E A
  ahead (accept v) us = us
  ahead (hit ⇒ e then ts) us = hit ⇒ e then ahead ts us

module _ {E A B : Type 0} (fail : E → A) where
  pub ahead_hits : (e : E) (ts : TestList E B) (us : TestList E A) → first_hit ts ≡ Some e → by_tests fail (ahead ts us) ≡ fail e
  unfolding by_tests first_hit
  ahead_hits e (accept v) us h = absurd (let z : ◌≡◌ {A = ℕ} 0 1 = cc in omega arith)
  ahead_hits e (true ⇒ x then ts) us h = let w : x ≡ e = cc in rw w
  ahead_hits e (false ⇒ x then ts) us h = ahead_hits e ts us h

  pub ahead_misses : (ts : TestList E B) (us : TestList E A) → first_hit ts ≡ None → by_tests fail (ahead ts us) ≡ by_tests fail us
  unfolding by_tests first_hit
  ahead_misses (accept v) us h = refl
  ahead_misses (true ⇒ x then ts) us h = absurd (let z : ◌≡◌ {A = ℕ} 0 1 = cc in omega arith)
  ahead_misses (false ⇒ x then ts) us h = ahead_misses ts us h
