-- `line::decoding::command_in` meets its contract: the ticket is a field of the first bytes, and the others are the command, by `command_read`.
use mathlib.Core.Path.{refl, sym, ap, ◌∙◌}
use native.Mathlib.Omega.{arith}
use lib.ListN.{length-drop}
use lib.Seq.{length-take-le, sets}
use Rattle.laws.proofs.Stores.{rest_part}
use Rattle.line.specs.Hex.{is_hex}
use Rattle.line.specs.Line.{Line, command_bytes}
use Rattle.line.proofs.Digits.{hex_drop, hex_take}
use Rattle.line.proofs.Frames.{command_long, command_read}
use Rattle.line.proofs.decoding.command_in.Goals as goal

pub returns-then-line-gt-LONGEST : goal.returns-then-line-gt-LONGEST
returns-then-line-gt-LONGEST c = let e = sym (command_long c.args.line.now c.requires.0 c.if-line-gt-LONGEST.true) in
    record { fits = omega arith; means = e; stored = ap (λ (l : Line). sets c.args.frame.now 0 (command_bytes l)) e }

pub unhex-requires : goal.unhex-requires
unhex-requires c = (hex_take 5 c.args.line.now c.requires.0, omega (arith, length-take-le 10 c.args.line.now c.requires.1))

pub unhex-requires-2 : goal.unhex-requires-2
unhex-requires-2 c =
    (ap is_hex (rest_part 10 c.args.line.now) ∙ hex_drop 5 c.args.line.now c.requires.0, rw (rest_part 10 c.args.line.now) (omega (arith, length-drop 10 c.args.line.now)))

pub returns : goal.returns
returns c =
    let read = command_read c.args.line.now c.args.frame.now c.requires.1 (omega arith) c.requires.2 _ _ _ _ refl
    c.unhex.ensures c.read.ensures c.unhex-2.ensures in
    record { fits = omega arith; means = read.0; stored = read.1 }
