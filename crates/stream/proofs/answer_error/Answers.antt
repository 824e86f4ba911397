-- `stream::answer_error` meets its contract: an error is answered under the ticket, and leaves the block.
use mathlib.Core.Path.{◌∙◌, subst}
use mathlib.Core.List.{List}
use Prim.Native.Nat.{ℕ}
use Rattle.std.specs.Prelude.{Result}
use Rattle.laws.specs.Stores.{Wrote}
use Rattle.model.specs.Answers.{code}
use Rattle.protocol.specs.declared.codes.ErrorCode.{ErrorCode}
use Rattle.protocol.specs.Codes.{error_meant}
use Rattle.answer.specs.Answer.{plain_bytes}
use Rattle.stream.specs.Replied.{told, Failed, Tried}
use Rattle.stream.proofs.Steps.{error_answered}
use Rattle.stream.proofs.answer_error.Goals as goal

pub returns-in-Ok : goal.returns-in-Ok
returns-in-Ok c f before after start b v h t =
    subst (λ (r : Result ℕ ErrorCode). Tried (told c.args.asked f b) v before after start c.args.room.now r) c.in-Ok.is t

pub returns-in-Err : goal.returns-in-Err
returns-in-Err c f before after start b v h t =
    let e = error_meant c.in-Err.error in
    let x : Failed (told c.args.asked f b) v before after start c.args.room.now c.in-Err.error =
    subst (λ (r : Result ℕ ErrorCode). Tried (told c.args.asked f b) v before after start c.args.room.now r) c.in-Err.is t in
    error_answered c.args.asked.ticket e (record { good = h.good; held = x.block_stays ∙ h.held }) x.error
    (subst (λ (r : List ℕ). Wrote r c.put_typed.new.out 0 c.put_typed.result (plain_bytes c.args.asked.ticket (code e) c.args.asked.stream)) x.room_stays c.put_typed.ensures)
