-- `sound::check_format` meets its contract: what each test that fails came to.
use mathlib.Core.Path.{◌≡◌, ap, ◌∙◌}
use mathlib.Core.Bool.{false}
use Prim.Native.Nat.{ℕ}
use lib.Dec.{leb}
use Rattle.std.specs.Prelude.{Some}
use Rattle.std.specs.declared.ops.RangeInclusive.{RangeInclusive}
use Rattle.std.specs.Range.{range_inclusive_start, range_inclusive_end, range_inclusive_exhausted, range_inclusive_contains}
use Rattle.std.proofs.Common.{is_le, nat_cmp, rules, tests}
use Rattle.laws.specs.Tests.{within}
use Rattle.laws.specs.InOrder.{first_hit}
use Rattle.laws.proofs.Tests.{was_true, was_false}
use Rattle.pcm.specs.Numbers.{last_format, last_rate}
use Rattle.pcm.specs.Control.{channels_in, supported}
use Rattle.sound.proofs.message.check_format.Goals as goal
use Rattle.sound.proofs.message.check_format.Goals.{After-contains}

le_test : (a b : ℕ) → is_le (nat_cmp a b) ≡ leb a b
le_test a b = search (rules, tests)

-- a range that is not spent contains what lies within its ends
in_range : (r : RangeInclusive ℕ) (x lo hi : ℕ) → range_inclusive_start r ≡ lo → range_inclusive_end r ≡ hi → range_inclusive_exhausted r ≡ false
    → range_inclusive_contains (λ a b. Some (nat_cmp a b)) r x ≡ within x lo hi
unfolding within
in_range r x lo hi s e unspent = rw (s, e, unspent, le_test, le_test)

-- the channels are the configured ones. Each answer hands in what the test and the read gave, so that a wrong one is met where it is named.
channels_tested : (c : After-contains) {x : ℕ} → c.contains.result ≡ range_inclusive_contains (λ a b. Some (nat_cmp a b)) c.new-taken.result x
    → x ≡ channels_in c.args.message.now → c.contains.result ≡ within (channels_in c.args.message.now) c.args.config.channels_min c.args.config.channels_max
channels_tested c contained read =
    let e = c.new-taken.ensures in
    contained
    ∙ in_range _ _ _ _ (e.start ∙ c.from.ensures) (e.end ∙ c.from-2.ensures) e.exhausted
    ∙ ap (λ x. within x c.args.config.channels_min c.args.config.channels_max) read

pub returns-then-not-contains : goal.returns-then-not-contains
unfolding first_hit
returns-then-not-contains c =
    let tested = channels_tested (goal.at.returns-then-not-contains c).After-contains c.contains.ensures.value c.read-channels.ensures in
    rw (was_false tested c.if-not-contains.true)

pub returns-then-not-is_supported : goal.returns-then-not-is_supported
unfolding first_hit
returns-then-not-is_supported c =
    let tested = channels_tested (goal.at.returns-then-not-is_supported c).After-contains c.contains.ensures.value c.read-channels.ensures in
    let no_format : supported last_format _ _ ≡ false = was_false c.is_supported.ensures c.if-not-is_supported.true in
    rw (
      was_true tested c.if-not-contains.false,
      ← c.read-format.ensures,
      no_format,
    )

pub returns-then-not-is_supported-2 : goal.returns-then-not-is_supported-2
unfolding first_hit
returns-then-not-is_supported-2 c =
    let tested = channels_tested (goal.at.returns-then-not-is_supported-2 c).After-contains c.contains.ensures.value c.read-channels.ensures in
    let no_rate : supported last_rate _ _ ≡ false = was_false c.is_supported-2.ensures c.if-not-is_supported-2.true in
    rw (
      was_true tested c.if-not-contains.false,
      ← c.read-format.ensures,
      was_true c.is_supported.ensures c.if-not-is_supported.false,
      ← c.read-rate.ensures,
      no_rate,
    )
