-- What the code's walk has still to test.
use Rattle.std.specs.Prelude.{Bool, false, List, ℕ}
use Rattle.std.specs.Prelude.{Option, None, Some}
use Rattle.tag.specs.declared.DueTails.{DueTails}
use Rattle.tag.specs.Utf8.{utf8_after}

-- these tails, and then whole characters; nothing passes where an octet may not stand
abbrev pub goes_on : Option DueTails → List ℕ → Bool
goes_on None s = false
goes_on (Some t) s = utf8_after t.missing t.lo t.hi s
