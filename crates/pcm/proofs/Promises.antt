-- What is promised of every list of messages to a PCM stream.
use mathlib.Core.Path.{◌≡◌, refl}
use Rattle.field.specs.Field.{field, little_endian}
use Rattle.laws.specs.Tests.{within}
use Rattle.laws.specs.InOrder.{by_tests}
use Rattle.laws.specs.Parts.{zeros}
use Rattle.pcm.specs.Numbers.{pcm_fresh, pcm_stopped}
use Rattle.pcm.specs.Lifecycle.{next_state}
use Rattle.pcm.specs.Control.{has_bit, supported, on_control, control_answer, control_refusal, pcm_control}
use Rattle.pcm.specs.Lists.{pcm_events, pcm_final, succeeds, taken_codes}
use Rattle.pcm.specs.Cases.{life_codes, life}
use Rattle.pcm.specs.Promises.{PcmPromises}
use Rattle.pcm.proofs.Walks.{walks}
use Rattle.pcm.proofs.Ready.{ready}

lives : taken_codes (pcm_events pcm_fresh life) ≡ life_codes
unfolding field little_endian within by_tests zeros next_state has_bit supported on_control control_answer control_refusal pcm_control succeeds
lives = refl

ends : pcm_final pcm_fresh life ≡ pcm_stopped
unfolding field little_endian within by_tests zeros next_state has_bit supported on_control control_answer control_refusal pcm_control
ends = refl

pub pcm_promises : PcmPromises
pcm_promises = record { walks = walks; ready = ready; lives = lives; ends = ends }
