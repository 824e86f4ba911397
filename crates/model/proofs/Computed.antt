-- The ten cases and the lines on what no run shows, computed.
use mathlib.Core.Path.{refl}
use Rattle.laws.specs.Tests.{within}
use Rattle.laws.specs.Lists.{same}
use Rattle.laws.specs.Ascending.{insert_by, below, not_below}
use Rattle.laws.specs.InOrder.{by_tests}
use Rattle.field.specs.Field.{field, little_endian}
use Rattle.tag.specs.Utf8.{class_of, utf8_after, utf8}
use Rattle.tag.specs.Tag.{nul_at, good_tag}
use Rattle.model.specs.Device.{fresh, put_record, is_spent, spend}
use Rattle.model.specs.Frames.{rule_of, queue_named}
use Rattle.model.specs.Answers.{response_bytes, read_from}
use Rattle.model.specs.Commands.{on_create, on_destroy, on_drain, on_create_resource, on_queue, on_destroy_all, on_clear, parameter_words, on_get, on_set, on_command}
use Rattle.model.specs.Reports.{on_finish, on_drained}
use Rattle.model.specs.Steps.{stream_of, serve, host_refusal, step_on, accepted, owner_of, belongs, out_of_memory_at}
use Rattle.model.specs.Ledger.{awaited_by, completes, in_order, own_tickets}
use Rattle.model.specs.WellFormed.{u32, u64, well_formed}
use Rattle.model.specs.Cases.{TenCases, MoreCases}

pub ten_cases_lem : TenCases
unfolding within same insert_by below not_below field little_endian class_of utf8_after utf8 nul_at good_tag fresh put_record is_spent spend rule_of queue_named response_bytes by_tests on_create on_destroy on_drain on_create_resource on_queue on_destroy_all on_clear parameter_words on_get on_set on_command on_finish on_drained stream_of serve host_refusal step_on
ten_cases_lem = refl

pub more_cases : MoreCases
unfolding within same insert_by below not_below field little_endian class_of utf8_after utf8 nul_at good_tag fresh put_record is_spent spend rule_of queue_named response_bytes read_from by_tests on_create on_destroy on_drain on_create_resource on_queue on_destroy_all on_clear parameter_words on_get on_set on_command on_finish on_drained stream_of serve host_refusal step_on accepted owner_of belongs out_of_memory_at awaited_by completes in_order own_tickets u32 u64 well_formed
more_cases = record {
  spent_numbers = refl;
  last_pictures = refl;
  order_kept = refl;
  order_promised = refl;
  two_buffers = refl;
  owners = refl;
  accepts = refl;
  last_error = refl;
  out_of_memory_lem = refl;
  left_pending = refl;
  record_pending = refl;
  completed_in_order = refl;
  completed_by_finish = refl;
  record_rules = refl;
  any_finish = refl;
}
