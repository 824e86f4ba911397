-- `completion::finish_answers` meets its contract: the buffer, and behind it the drain.
use mathlib.Core.Path.{sym, ◌∙◌}
use mathlib.Core.List.{[], ◌∷◌}
use native.Mathlib.Omega.{arith}
use Rattle.model.specs.Device.{input, queue_of}
use Rattle.model.specs.Answers.{buffer_done}
use Rattle.model.specs.Commands.{drain_ended, drain_answers}
use Rattle.model.specs.Reports.{timestamp_of, has_eos}
use Rattle.protocol.specs.QueueTypes.{queue_type_of}
use Rattle.answer.specs.Answer.{answer_to}
use Rattle.stream.proofs.Steps.{queue_words_lem}
use Rattle.completion.proofs.Ends.{buffer_next, wrote_more, wrote_buffer, wrote_ended}
use Rattle.completion.proofs.reports.finish_answers.Goals as goal

pub ended_answer-requires : goal.ended_answer-requires
ended_answer-requires c =
    omega (arith, buffer_next _ _ _ _ input (c.put_buffer-next.ensures input))

pub returns : goal.returns
returns c =
    record {
      bound = omega (arith, buffer_next _ _ _ _ input (c.put_buffer-next.ensures input), c.ended_answer.ensures.bound);
      written = λ n b i h p u.
          let q = queue_type_of c.args.queue in
          let at = queue_words_lem h q _ c.queue_start-at.ensures.start in
          wrote_more (answer_to i.ticket c.args.report.stream (buffer_done q (timestamp_of q i c.args.report.timestamp) c.args.report.flags) ∷ []) (drain_answers c.args.report.stream (drain_ended (has_eos c.args.report.flags) b))
          (wrote_buffer c.args.report.stream c.args.report.flags q (c.slot_ticket-ticket.ensures (queue_of q b) at ∙ sym p)
          (c.timestamp_in-told.ensures (queue_of q b) i at u) (c.put_buffer-next.ensures q))
          (wrote_ended c.args.report.stream _ (has_eos c.args.report.flags) b c.has_eos-ends.ensures (c.ended_answer.ensures.written n b h));
    }
