-- Tests in order, of which the first that hits answers.
use Rattle.std.specs.Prelude.{Bool, cond}
use Rattle.std.specs.Prelude.{Option, None, Some}

infixr 5 ◌⇒◌then◌
-- tests, each with its error, and what is given where none of them hits
pub data TestList (E A : Type 0) : Type 0 where
  accept : A → TestList E A
  ◌⇒◌then◌ : Bool → E → TestList E A → TestList E A

module _ {E A : Type 0} where
  -- what the tests give, where an error is answered by `fail`
  unfoldable pub by_tests : (E → A) → TestList E A → A
  by_tests fail (accept v) = v
  by_tests fail (hit ⇒ e then ts) = cond hit (fail e) (by_tests fail ts)

  -- the error of the first test that hits, if one does
  unfoldable pub first_hit : TestList E A → Option E
  first_hit (accept v) = None
  first_hit (hit ⇒ e then ts) = cond hit (Some e) (first_hit ts)
