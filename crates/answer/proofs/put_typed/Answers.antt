-- `answer::put_typed` meets its contract: the code is the type's number.
use mathlib.Core.Path.{◌≡◌, subst}
use Prim.Native.Nat.{ℕ}
use Rattle.laws.specs.Stores.{Wrote}
use Rattle.protocol.specs.Codes.{answer_number}
use Rattle.answer.specs.Answer.{plain_bytes}
use Rattle.answer.proofs.put_typed.Goals as goal

pub returns : goal.returns
returns c =
    let code : c.into.result ≡ answer_number c.args.kind = c.into.ensures in
    subst (λ (n : ℕ). Wrote c.args.out.now c.put_plain.new.out c.args.at c.put_plain.result (plain_bytes c.args.ticket n c.args.stream)) code c.put_plain.ensures
