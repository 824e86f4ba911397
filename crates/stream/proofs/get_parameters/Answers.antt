-- `stream::get_parameters` meets its contract: what is kept of the queue is answered. That the words are a good stream's bounds width and height.
use mathlib.Core.List.{[], ◌∷◌}
use Rattle.std.specs.Prelude.{Some}
use native.Mathlib.Omega.{arith}
use borrow.Author.Rules.{rules}
use Rattle.model.specs.Device.{queue_of}
use Rattle.model.specs.Answers.{parameters}
use Rattle.model.specs.Commands.{parameter_words}
use Rattle.protocol.specs.QueueTypes.{queue_type_of}
use Rattle.answer.specs.Answer.{answer_to}
use Rattle.stream.specs.Replied.{told}
use Rattle.stream.proofs.Steps.{queue_words_lem, width_good, height_good, extent_most, replied_by}
use Rattle.stream.proofs.Tested.{getting}
use Rattle.stream.proofs.get_parameters.Goals as goal

pub put_parameters-requires : goal.put_parameters-requires
put_parameters-requires c =
    let t = queue_type_of c.args.q in
    let Q = queue_of t c.requires.1.stream in
    let here = queue_words_lem c.requires.1.holds t _ c.queue_start-start.ensures.start in (
      search rules,
      omega (arith, c.width.ensures Q here, extent_most Q.width (width_good c.requires.1.holds t)),
      omega (arith, c.height.ensures Q here, extent_most Q.height (height_good c.requires.1.holds t)),
    )

pub returns : goal.returns
returns c f b h =
    let t = queue_type_of c.args.q in
    let Q = queue_of t b in
    let here = queue_words_lem h t _ c.queue_start-start.ensures.start in
    replied_by (answer_to c.args.asked.ticket c.args.asked.stream (parameters (parameter_words t b)) ∷ []) (Some b)
    (getting (told c.args.asked f b) b t)
    h.held
    (c.put_parameters.ensures.whole b (record {
      is_format = c.queue_format.ensures c.args.asked.stream b h.held;
      is_width = c.width.ensures Q here;
      is_height = c.height.ensures Q here;
      is_rate = c.rate.ensures Q here;
    }))
