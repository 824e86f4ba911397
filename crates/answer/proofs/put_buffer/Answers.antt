-- `answer::put_buffer` meets its contract: four words, the timestamp and two words more, by `buffer_answer`.
use mathlib.Core.Path.{◌≡◌}
use mathlib.Core.List.{[], ◌∷◌}
use Rattle.laws.proofs.Stores.{wrote_append, wrote_sets}
use Rattle.field.specs.Field.{little_endian}
use Rattle.field.proofs.Laws.{length_little_endian}
use Rattle.model.specs.Answers.{word_bytes}
use Rattle.answer.proofs.Laws.{wrote_words, buffer_answer}
use Rattle.answer.proofs.put_buffer.Goals as goal

pub returns : goal.returns
returns c q =
    let head = c.args.ticket ∷ 24 ∷ c.into.result ∷ c.args.stream ∷ [] in
    let timestamp = little_endian 8 c.args.timestamp in
    let rest = c.args.flags ∷ 0 ∷ [] in
    let type : c.into.result ≡ 0x0202 = c.into.ensures in
    rw (← (buffer_answer c.args.ticket c.args.stream c.args.timestamp c.args.flags q), ← type)
    (wrote_append (word_bytes head) _ (wrote_words c.args.out.now head c.put_words-payload.ensures.next c.put_words-payload.ensures.whole)
    (wrote_append timestamp (word_bytes rest) (wrote_sets c.put_words-payload.result 8 timestamp (length_little_endian 8 c.args.timestamp) c.put.ensures)
    (wrote_words c.put.new.out rest c.put_words.ensures.next c.put_words.ensures.whole)))
