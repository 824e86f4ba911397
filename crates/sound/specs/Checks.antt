-- The tests of a message's bytes that are made together, in the model's order. A bridge between the code and the model: it need not be read to
-- believe the contract of the exported function. Only which test hits first is asked of them, so that what they accept says nothing.
use Rattle.std.specs.Prelude.{Bool, true, not, List, ℕ, length, eqb, ltb}
use Rattle.laws.specs.Tests.{within}
use Rattle.laws.specs.InOrder.{TestList, accept, ◌⇒◌then◌}
use Rattle.pcm.specs.Numbers.{chmap_info_code, unpause_code, PcmError, bad_msg, not_supp, input_type, last_format, last_rate, pcm_header}
use Rattle.pcm.specs.Control.{code_in, stream_in, channels_in, format_in, rate_in, PcmConfig, supported, request_bytes}

-- of the stream type
abbrev pub stream_tests : ℕ → TestList PcmError Bool
stream_tests n =
    ltb input_type n ⇒ bad_msg then
    eqb n input_type ⇒ not_supp then
    accept true

-- of the header
abbrev pub header_tests : List ℕ → TestList PcmError Bool
header_tests m =
    ltb (length m) pcm_header ⇒ bad_msg then
    ltb unpause_code (code_in m) ⇒ bad_msg then
    eqb (code_in m) chmap_info_code ⇒ not_supp then
    not (eqb (length m) (request_bytes (code_in m))) ⇒ bad_msg then
    stream_tests (stream_in m)

-- of the fields of a set format
abbrev pub format_tests : PcmConfig → List ℕ → TestList PcmError Bool
format_tests config m =
    not (within (channels_in m) config.channels_min config.channels_max) ⇒ bad_msg then
    not (supported last_format config.formats (format_in m)) ⇒ not_supp then
    not (supported last_rate config.rates (rate_in m)) ⇒ not_supp then
    accept true
