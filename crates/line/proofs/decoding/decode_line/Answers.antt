-- `line::decoding::decode_line` meets its contract: each way through it is a law of `line_of`.
use mathlib.Core.Path.{◌≡◌, refl, sym, ap, ◌∙◌}
use native.Mathlib.Omega.{arith}
use lib.Seq.{sets}
use Rattle.line.specs.Hex.{hex_bytes}
use Rattle.line.specs.Line.{no_frame, command_in, finish_in, drained_in, line_of}
use Rattle.line.proofs.Frames.{kind_command, kind_finish, kind_drained, kind_other, finish_bytes, drained_bytes, line_bad, line_hex, line_as, line_short}
use Rattle.line.proofs.decoding.decode_line.Goals as goal
use Rattle.line.proofs.decoding.decode_line.Goals.{then-not-is_hex-via-then-not-is_hex, then-not-is_hex-via-else-not-is_hex+then-line-lt-SHORTEST}

pub returns-then-not-is_hex : goal.returns-then-not-is_hex
returns-then-not-is_hex c =
    let none : line_of c.args.line.now ≡ no_frame = elim c.then-not-is_hex.branch [
      | then-not-is_hex-via-then-not-is_hex w ↦ line_bad c.args.line.now (sym c.is_hex.ensures ∙ w.if-not-is_hex.true)
      | then-not-is_hex-via-else-not-is_hex+then-line-lt-SHORTEST w ↦ line_short c.args.line.now (sym c.is_hex.ensures ∙ w.if-not-is_hex.false) w.if-line-lt-SHORTEST.true
    ] in
    let rest = line_as c.args.line.now c.args.frame.now _ no_frame no_frame none refl refl in record { fits = omega arith; means = rest.0; stored = rest.1 }

pub returns-in-0 : goal.returns-in-0
returns-in-0 c =
    let rest = line_as c.args.line.now c.args.frame.now _ _ (command_in (hex_bytes c.args.line.now))
    (line_hex c.args.line.now (sym c.is_hex.ensures ∙ c.if-not-is_hex.false) ∙ kind_command (hex_bytes c.args.line.now)
    (sym c.byte_at.ensures ∙ c.in-0.is)) c.command_in.ensures.means c.command_in.ensures.stored in record { fits = c.command_in.ensures.fits; means = rest.0; stored = rest.1 }

pub returns-in-1 : goal.returns-in-1
returns-in-1 c =
    let rest = line_as c.args.line.now c.args.frame.now _ _ (finish_in (hex_bytes c.args.line.now))
    (line_hex c.args.line.now (sym c.is_hex.ensures ∙ c.if-not-is_hex.false) ∙ kind_finish (hex_bytes c.args.line.now)
    (sym c.byte_at.ensures ∙ c.in-1.is)) (c.finish_in.ensures.means _) (ap (sets c.args.frame.now 0) (sym (finish_bytes (hex_bytes c.args.line.now)))) in record { fits = c.finish_in.ensures.fits; means = rest.0; stored = rest.1 }

pub returns-in-2 : goal.returns-in-2
returns-in-2 c =
    let rest = line_as c.args.line.now c.args.frame.now _ _ (drained_in (hex_bytes c.args.line.now))
    (line_hex c.args.line.now (sym c.is_hex.ensures ∙ c.if-not-is_hex.false) ∙ kind_drained (hex_bytes c.args.line.now)
    (sym c.byte_at.ensures ∙ c.in-2.is)) (c.drained_in.ensures.means _) (ap (sets c.args.frame.now 0) (sym (drained_bytes (hex_bytes c.args.line.now)))) in record { fits = c.drained_in.ensures.fits; means = rest.0; stored = rest.1 }

pub returns-in_default : goal.returns-in_default
returns-in_default c =
    let rest = line_as c.args.line.now c.args.frame.now _ no_frame no_frame
    (line_hex c.args.line.now (sym c.is_hex.ensures ∙ c.if-not-is_hex.false) ∙ kind_other (hex_bytes c.args.line.now) (λ e. omega (arith, c.in_default, e)) (λ e. omega (arith, c.in_default, e)) (λ e. omega (arith, c.in_default, e))) refl refl in record { fits = omega arith; means = rest.0; stored = rest.1 }
