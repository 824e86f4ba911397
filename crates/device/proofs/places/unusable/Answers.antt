-- `device::places::unusable` meets its contract: by the last number, and by the words of the spent numbers.
use mathlib.Core.Path.{ap, ◌∙◌}
use native.Mathlib.Omega.{arith}
use borrow.Author.Tests.{lt-ltb}
use Rattle.model.specs.Numbers.{stream_numbers}
use Rattle.model.specs.Device.{is_spent}
use Rattle.device.proofs.Served.{numbers_read}
use Rattle.device.proofs.places.unusable.Goals as goal

pub returns : goal.returns
returns c =
    record { below = λ _. omega arith; told = λ d h. rw (lt-ltb c.args.number stream_numbers (omega arith)) (c.is_spent.ensures ∙ ap (is_spent c.args.number) (numbers_read h)) }
