-- `device::commands::carry_out` meets its contract: by what the type and the length of the frame say.
use mathlib.Core.Path.{◌≡◌, sym, ap, ◌∙◌}
use mathlib.Core.List.{List}
use Prim.Native.Nat.{ℕ}
use lib.ListN.{length}
use borrow.Author.Rules.{rules}
use Rattle.std.proofs.lemmas.Result.{err_from_is_err_and}
use Rattle.model.specs.Steps.{around}
use Rattle.model.specs.Frames.{rule_of, command_type}
use Rattle.frame.specs.declared.commands.Command.{Command}
use Rattle.frame.specs.Meant.{Verdict, verdict, verdict_of, verdict_for, meant, right}
use Rattle.frame.proofs.Checks.{right_length}
use Rattle.device.proofs.Known.{unfit}
use Rattle.device.proofs.Served.{not_served}
use Rattle.device.proofs.commands.carry_out.Goals as goal

-- what was found of a frame's type, which was read as k, and its length
told_by : (f : List ℕ) {k : ℕ} {v : Verdict} → k ≡ command_type f → v ≡ verdict (rule_of k) (length f) → verdict_for f ≡ v
told_by f is e = ap (λ (n : ℕ). verdict (rule_of n) (length f)) (sym is) ∙ sym e

pub returns-in_err-named : goal.returns-in_err-named
returns-in_err-named c d h =
    let p = err_from_is_err_and c.from_residual.result c.from_residual.ensures.1 in
    rw (p.1, p.2)
    (not_served (unfit c.args.frame.now (around d c.args.asked.stream) _ c.args.asked.ticket _ _ (told_by c.args.frame.now c.kind-kind.ensures c.check.ensures ∙ ap verdict_of c.in_err-named.was)))

pub create-requires : goal.create-requires
create-requires c =
    let is = told_by c.args.frame.now c.kind-kind.ensures c.check.ensures ∙ ap verdict_of c.in_ok-named.was ∙ ap (λ (x : Command). right (meant x)) c.in-Create.is in
    (search rules, is, right_length _ _ _ is, search rules)

pub to_live-requires : goal.to_live-requires
to_live-requires c =
    let is = told_by c.args.frame.now c.kind-kind.ensures c.check.ensures ∙ ap verdict_of c.in_ok-named.was ∙ ap (λ (x : Command). right (meant x)) c.in-Live.is in
    (search rules, search rules, is, search rules)
