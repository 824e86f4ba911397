-- `line::hex::byte_at` meets its contract: two digits, each below 16, by `digit_at` and `byte_is`.
use mathlib.Core.Path.{sym}
use Prim.Native.Nat.{◌+◌, ◌*◌}
use native.Mathlib.Numerals.{add-one}
use native.Mathlib.Omega.{arith}
use Rattle.line.proofs.Digits.{digit_at, byte_is}
use Rattle.line.proofs.hex.byte_at.Goals as goal

pub overflow_mul-result : goal.overflow_mul-result
overflow_mul-result c = omega (arith, digit_at c.args.line.now (2 * c.args.i) c.requires.0 (omega arith))

pub overflow_add-result : goal.overflow_add-result
overflow_add-result c = omega (arith, digit_at c.args.line.now (2 * c.args.i) c.requires.0 (omega arith), digit_at c.args.line.now (2 * c.args.i + 1) c.requires.0 (omega arith))

pub returns : goal.returns
returns c = rw (c.digit.ensures, c.digit-2.ensures, add-one (2 * c.args.i)) (sym (byte_is c.args.line.now c.args.i (omega arith)))
