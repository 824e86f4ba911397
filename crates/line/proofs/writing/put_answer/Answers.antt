-- `line::writing::put_answer` meets its contract: the runs of stores are joined by `wrote_answer`.
use mathlib.Core.Path.{◌≡◌, ap, ◌∙◌}
use Prim.Native.Nat.{◌+◌, ◌*◌, ◌-◌}
use native.Mathlib.Omega.{arith}
use lib.ListN.{length, take, drop, length-drop}
use lib.Seq.{length-take-le}
use Rattle.laws.proofs.Stores.{rest_part}
use Rattle.line.proofs.Digits.{length_text}
use Rattle.line.proofs.Written.{wrote_answer}
use Rattle.line.proofs.writing.put_answer.Goals as goal

pub put_hex-end-requires : goal.put_hex-end-requires
put_hex-end-requires c =
    let ticket : c.put_hex-middle.result ≡ c.args.at + 2 + 8 = c.put_hex-middle.ensures.next
    ∙ (omega (arith, length_text (take 4 c.args.answer.now), length-take-le 4 c.args.answer.now (omega arith))) in
    let rest_length : length (take (length c.args.answer.now - 8) (drop 8 c.args.answer.now)) ≡ length c.args.answer.now - 8 = ap length (rest_part 8 c.args.answer.now) ∙ length-drop 8 c.args.answer.now in
    omega (arith, ticket, rest_length)

pub bounds-out-end : goal.bounds-out-end
bounds-out-end c =
    let ticket : c.put_hex-middle.result ≡ c.args.at + 2 + 8 = c.put_hex-middle.ensures.next
    ∙ (omega (arith, length_text (take 4 c.args.answer.now), length-take-le 4 c.args.answer.now (omega arith))) in
    let rest_length : length (take (length c.args.answer.now - 8) (drop 8 c.args.answer.now)) ≡ length c.args.answer.now - 8 = ap length (rest_part 8 c.args.answer.now) ∙ length-drop 8 c.args.answer.now in
    let end : c.put_hex-end.result ≡ c.args.at + 10 + 2 * (length c.args.answer.now - 8) = c.put_hex-end.ensures.next
    ∙ (omega (arith, ticket, length_text (take (length c.args.answer.now - 8) (drop 8 c.args.answer.now)), rest_length)) in
    omega (arith, end)

pub overflow_add-result : goal.overflow_add-result
overflow_add-result c =
    let ticket : c.put_hex-middle.result ≡ c.args.at + 2 + 8 = c.put_hex-middle.ensures.next
    ∙ (omega (arith, length_text (take 4 c.args.answer.now), length-take-le 4 c.args.answer.now (omega arith))) in
    let rest_length : length (take (length c.args.answer.now - 8) (drop 8 c.args.answer.now)) ≡ length c.args.answer.now - 8 = ap length (rest_part 8 c.args.answer.now) ∙ length-drop 8 c.args.answer.now in
    let end : c.put_hex-end.result ≡ c.args.at + 10 + 2 * (length c.args.answer.now - 8) = c.put_hex-end.ensures.next
    ∙ (omega (arith, ticket, length_text (take (length c.args.answer.now - 8) (drop 8 c.args.answer.now)), rest_length)) in
    omega (arith, end)

pub returns : goal.returns
returns c =
    λ w is.
    wrote_answer c.args.answer.now c.args.at _ _ w is c.put_byte.ensures c.put_hex-middle.ensures c.put_hex-end.ensures
