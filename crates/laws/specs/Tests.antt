-- Tests on a number, and on every number below a bound.
use Rattle.std.specs.Prelude.{ℕ, zero, suc, Bool, true, cond, ◌&&◌, leb}
use Rattle.std.specs.Prelude.{Option, None, Some}
use Rattle.std.specs.Option.{option_or}

-- x lies from lo to hi, both included
unfoldable pub within : ℕ → ℕ → ℕ → Bool
within x lo hi = leb lo x && leb x hi

-- p holds at each number below n
unfoldable pub all_below : ℕ → (ℕ → Bool) → Bool
all_below zero p = true
all_below (suc n) p = all_below n p && p n

-- the lowest number below n at which p holds, where there is one
unfoldable pub lowest_below : ℕ → (ℕ → Bool) → Option ℕ
lowest_below zero p = None
lowest_below (suc n) p = option_or (lowest_below n p) (cond (p n) (Some n) None)
