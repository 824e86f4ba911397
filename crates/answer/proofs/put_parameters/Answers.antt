-- `answer::put_parameters` meets its contract: six runs of words are the answer's bytes, by `parameters_answer`.
use mathlib.Core.List.{[], ◌∷◌, ◌++◌}
use lib.ListN.{replicate}
use Rattle.model.specs.Device.{queue_of}
use Rattle.protocol.specs.QueueTypes.{queue_type_of}
use Rattle.answer.proofs.Laws.{wrote_words, more_words, parameters_answer}
use Rattle.answer.proofs.put_parameters.Goals as goal

pub returns-clause-whole : goal.returns-clause-whole
returns-clause-whole c b s =
    let t = queue_type_of c.args.q in
    let kept = c.args.kept in
    let head = c.args.ticket ∷ 120 ∷ c.into.result ∷ c.args.stream ∷ [] in
    let sizes = c.into-2.result ∷ kept.format ∷ kept.width ∷ kept.height ∷ [] in
    let buffers = 1 ∷ 16 ∷ 0 ∷ 0 ∷ [] in
    let crop = kept.width ∷ kept.height ∷ kept.rate ∷ [] in
    let planes = c.planes_of-planes.result in
    rw (← (parameters_answer c.args.ticket c.args.stream t b c.into-2.ensures s), ← (c.planes_of-planes.ensures (queue_of t b) s.is_width s.is_height), ← c.into.ensures)
    (more_words (head ++ sizes ++ buffers ++ crop ++ planes) (replicate 12 0)
    (more_words (head ++ sizes ++ buffers ++ crop) planes
    (more_words (head ++ sizes ++ buffers) crop
    (more_words (head ++ sizes) buffers
    (more_words head sizes
    (wrote_words c.args.out.now head c.put_words-next.ensures.next c.put_words-next.ensures.whole)
    c.put_words-next-2.ensures.next c.put_words-next-2.ensures.whole)
    c.put_words-next-3.ensures.next c.put_words-next-3.ensures.whole)
    c.put_words-next-4.ensures.next c.put_words-next-4.ensures.whole)
    c.put_words-next-5.ensures.next c.put_words-next-5.ensures.whole)
    c.put_words.ensures.next c.put_words.ensures.whole)
