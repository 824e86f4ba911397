-- `answer::put_plain` meets its contract: the four words are the bytes of the definition.
use mathlib.Core.List.{[], ◌∷◌}
use Rattle.answer.specs.Answer.{plain_bytes}
use Rattle.answer.proofs.Laws.{wrote_words}
use Rattle.answer.proofs.put_plain.Goals as goal

pub returns : goal.returns
unfolding plain_bytes
returns c =
    wrote_words c.args.out.now (c.args.ticket ∷ 8 ∷ c.args.code ∷ c.args.stream ∷ []) c.put_words.ensures.next c.put_words.ensures.whole
