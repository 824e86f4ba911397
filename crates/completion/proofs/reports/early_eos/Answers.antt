-- `completion::early_eos` meets its contract: by the flags and the inputs.
use mathlib.Core.Path.{sym, ◌∙◌}
use Rattle.completion.proofs.Ends.{never_early, early_by_inputs}
use Rattle.completion.proofs.reports.early_eos.Goals as goal

pub returns-else-has_eos : goal.returns-else-has_eos
returns-else-has_eos c n b h =
    c.if-has_eos.false ∙ never_early c.args.flags b (sym c.has_eos.ensures ∙ c.if-has_eos.false)

pub returns-then-has_eos : goal.returns-then-has_eos
returns-then-has_eos c n b h =
    c.input_queued.ensures n b h ∙ early_by_inputs c.args.flags b (sym c.has_eos.ensures ∙ c.if-has_eos.true)
