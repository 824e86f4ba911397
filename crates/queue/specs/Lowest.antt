-- The lowest number of the Queued buffers from a number on.
use Rattle.std.specs.Prelude.{ℕ, List, [], ◌∷◌}
use Rattle.std.specs.Prelude.{Option, None, Some}
use Rattle.laws.specs.Lists.{keep}
use Rattle.laws.specs.Ascending.{not_below}
use Rattle.model.specs.Device.{Slot, Buffer, queued_in, by_resource}

-- the number of the first of some buffers
abbrev pub number_of_first : List Buffer → Option ℕ
number_of_first [] = None
number_of_first (i ∷ l) = Some i.resource

-- the lowest number of the Queued buffers from `least` on
unfoldable pub lowest_queued : ℕ → List Slot → Option ℕ
lowest_queued least s = number_of_first (keep (not_below (λ (i : Buffer). i.resource) least) (by_resource (queued_in s)))
