-- `checker::kinds::kind_of` meets its contract: each way through it is a law of `kind_of`.
use mathlib.Core.Path.{sym, ap, ◌∙◌}
use Rattle.std.specs.Prelude.{Some, None}
use native.Mathlib.Omega.{arith}
use Rattle.line.specs.Hex.{lower_digit, hex_pair}
use Rattle.log_verdict.specs.Kinds.{begins_with}
use Rattle.log_verdict.proofs.LineKinds.{long_kind, begun_first, begun_second, begun_answer}
use Rattle.checker.specs.Meant.{kind_meant}
use Rattle.checker.proofs.Alike.{kind_frame}
use Rattle.checker.proofs.kinds.kind_of.Goals as goal
use Rattle.checker.proofs.kinds.kind_of.Goals.{then-begins_with-via-then-begins_with, then-begins_with-via-else-begins_with+then-begins_with-2}

pub returns-then-line-ge-LINE_ROOM : goal.returns-then-line-ge-LINE_ROOM
returns-then-line-ge-LINE_ROOM c = sym (long_kind c.args.line.now (omega arith))

pub returns-then-begins_with : goal.returns-then-begins_with
unfolding begins_with hex_pair lower_digit
returns-then-begins_with c =
    elim c.then-begins_with.branch [
      | then-begins_with-via-then-begins_with w ↦ sym (begun_answer c.args.line.now (omega arith) (begun_first c.args.line.now (sym c.begins_with.ensures ∙ w.if-begins_with.true)))
      | then-begins_with-via-else-begins_with+then-begins_with-2 w ↦
          sym (begun_answer c.args.line.now (omega arith) (begun_second c.args.line.now (sym w.begins_with-else-begins_with.ensures ∙ w.if-begins_with-2.true)))
    ]

pub returns-in_err-decode_line : goal.returns-in_err-decode_line
unfolding begins_with hex_pair lower_digit
returns-in_err-decode_line c =
    ap kind_meant c.from_residual.ensures
    ∙ kind_frame None c.args.line.now c.decode_line.new.frame (omega arith) (sym c.begins_with.ensures ∙ c.if-begins_with.false) (sym c.begins_with-else-begins_with.ensures ∙ c.if-begins_with-2.false)
    c.in_err-decode_line.ensures.means

pub returns : goal.returns
unfolding begins_with hex_pair lower_digit
returns c =
    kind_frame (Some c.in_ok-decode_line.field-0) c.args.line.now c.decode_line.new.frame (omega arith) (sym c.begins_with.ensures ∙ c.if-begins_with.false) (sym c.begins_with-else-begins_with.ensures ∙ c.if-begins_with-2.false)
    c.in_ok-decode_line.ensures.means
