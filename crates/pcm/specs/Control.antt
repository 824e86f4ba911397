-- A control message of the guest to the output stream: document 02, request 10, with the structs of document 001.
use Rattle.std.specs.Prelude.{Bool, cond, not, ◌&&◌, List, [], ◌++◌, ℕ, ◌/◌, ◌%◌, ◌^◌, length, drop, eqb, leb, ltb}
use Rattle.std.specs.Prelude.{unwrap_or}
use Rattle.laws.specs.Tests.{within}
use Rattle.laws.specs.InOrder.{accept, ◌⇒◌then◌, by_tests}
use Rattle.laws.specs.Lists.{is_none}
use Rattle.laws.specs.Parts.{zeros}
use Rattle.field.specs.Field.{field, little_endian}
use Rattle.pcm.specs.Numbers.{chmap_info_code, set_format_code, unpause_code, status_ok, PcmError, bad_msg, not_supp, error_status, input_type, last_format, last_rate, pcm_header, set_format_bytes, status_bytes, chmap_bytes, control_room, pcm_stopped}
use Rattle.pcm.specs.Lifecycle.{next_state}

-- Fields

-- struct virtio_snd_pcm_hdr
abbrev pub code_in : List ℕ → ℕ
code_in m = field 4 m 0

abbrev pub stream_in : List ℕ → ℕ
stream_in m = field 4 m 4

-- struct virtio_snd_pcm_set_format; its padding is not read
abbrev pub channels_in : List ℕ → ℕ
channels_in m = field 2 m 8

abbrev pub format_in : List ℕ → ℕ
format_in m = field 2 m 10

abbrev pub rate_in : List ℕ → ℕ
rate_in m = field 2 m 12

-- the configured numbers: struct virtio_pcm_stream_config of the output
pub record PcmConfig : Type 0 where
  pub channels_min : ℕ
  pub channels_max : ℕ
  pub formats : ℕ
  pub rates : ℕ

-- The tests

-- a bit map has the bit n, whose weight is 2^n
unfoldable pub has_bit : ℕ → ℕ → Bool
has_bit bits n = eqb (bits / 2 ^ n % 2) 1

-- a format or a rate that is defined, up to the last, and configured
unfoldable pub supported : ℕ → ℕ → ℕ → Bool
supported last bits n = leb n last && has_bit bits n

-- how long a request must be
abbrev pub request_bytes : ℕ → ℕ
request_bytes k = cond (eqb k set_format_code) set_format_bytes pcm_header

-- what a message comes to: it is taken, which leads to a state, or it fails
pub data PcmReply : Type 0 where
  goes_to : (next : ℕ) → PcmReply
  rejects : PcmError → PcmReply

-- its status
abbrev pub status_of : PcmReply → ℕ
status_of (goes_to n) = status_ok
status_of (rejects e) = error_status e

-- the state that it leaves: one that fails changes nothing
abbrev pub state_after : ℕ → PcmReply → ℕ
state_after s (goes_to n) = n
state_after s (rejects e) = s

-- a message in state s: request 10's tests, in its order; where none hits, the machine leads on
unfoldable pub on_control : PcmConfig → ℕ → List ℕ → PcmReply
on_control config s m =
    let k = code_in m in
    let setting = eqb k set_format_code in
    by_tests rejects
    (ltb (length m) pcm_header ⇒ bad_msg then
    ltb unpause_code k ⇒ bad_msg then
    eqb k chmap_info_code ⇒ not_supp then
    not (eqb (length m) (request_bytes k)) ⇒ bad_msg then
    ltb input_type (stream_in m) ⇒ bad_msg then
    eqb (stream_in m) input_type ⇒ not_supp then
    is_none (next_state s k) ⇒ bad_msg then
    setting && not (within (channels_in m) config.channels_min config.channels_max) ⇒ bad_msg then
    setting && not (supported last_format config.formats (format_in m)) ⇒ not_supp then
    setting && not (supported last_rate config.rates (rate_in m)) ⇒ not_supp then
    accept (goes_to (unwrap_or (next_state s k) s)))

-- The answer

-- a whole header that asks for the channel map
abbrev pub asks_map : List ℕ → Bool
asks_map m = leb pcm_header (length m) && eqb (code_in m) chmap_info_code

-- the status; behind it, where the channel map was asked for, no positions
unfoldable pub control_answer : List ℕ → ℕ → List ℕ
control_answer m status = little_endian status_bytes status ++ cond (asks_map m) (zeros chmap_bytes) []

-- The whole effect

-- one of the six states
abbrev pub is_state : ℕ → Bool
is_state s = leb s pcm_stopped

-- refusals 3 and 2, in this order, of the room's bytes and the state; 0 if none hits
unfoldable pub control_refusal : ℕ → ℕ → ℕ
control_refusal room s = cond (ltb room control_room) 3 (cond (is_state s) 0 2)

-- the result (refusal number or 0, state, bytes written), and what stands in the lent room afterwards
pub record PcmEffect : Type 0 where
  pub refusal : ℕ
  pub state : ℕ
  pub written : ℕ
  pub room : List ℕ

-- a refusal writes nothing and gives the state back as it came; else the answer's bytes stand over the first of the room
unfoldable pub pcm_control : PcmConfig → ℕ → List ℕ → List ℕ → PcmEffect
pcm_control config s m room =
    let k = control_refusal (length room) s in
    let v = on_control config s m in
    let bytes = control_answer m (status_of v) in
    cond (eqb k 0)
    (record { refusal = 0; state = state_after s v; written = length bytes; room = bytes ++ drop (length bytes) room })
    (record { refusal = k; state = s; written = 0; room = room })
