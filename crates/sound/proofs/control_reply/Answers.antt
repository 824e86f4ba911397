-- `sound::control_reply` meets its contract: the error of a set format's fields is the answer.
use mathlib.Core.Path.{◌≡◌}
use borrow.Author.Rules.{rules}
use Rattle.std.specs.Prelude.{Some}
use Rattle.pcm.specs.Lifecycle.{next_state}
use Rattle.sound.specs.Meaning.{pcm_config_of, state_number, request_code}
use Rattle.sound.proofs.Laws.{format_fails}
use Rattle.sound.proofs.control_reply.Goals as goal

pub returns-in_err-check_format : goal.returns-in_err-check_format
returns-in_err-check_format c =
    let s = state_number c.args.stream in
    let leads : Some (state_number c.in_ok-next.next) ≡ next_state s (request_code c.in_ok-request.request) = search rules in
    let fails = format_fails (pcm_config_of c.args.config) s c.args.message.now c.in_ok-request.ensures.fails c.in_ok-request.ensures.code leads in
    search (rules, fails)
