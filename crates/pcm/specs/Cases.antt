-- The command lifecycle of document 001, step by step in its own order, as messages of a guest.
use Rattle.std.specs.Prelude.{ℕ, cond, List, [], ◌∷◌, ◌++◌, map, eqb}
use Rattle.laws.specs.Parts.{zeros}
use Rattle.field.specs.Field.{little_endian}
use Rattle.pcm.specs.Numbers.{set_format_code, prepare_code, start_code, stop_code, pause_code, unpause_code, control_room}
use Rattle.pcm.specs.Control.{PcmConfig}
use Rattle.pcm.specs.Lists.{PcmMessage}

-- one or two channels, VIRTIO_SND_PCM_FMT_S16, and VIRTIO_SND_PCM_RATE_44100 or VIRTIO_SND_PCM_RATE_48000
abbrev pub stereo : PcmConfig
stereo = record { channels_min = 1; channels_max = 2; formats = 0x0004; rates = 0x00c0 }

-- a request to the output; a set format asks for two channels, S16 and 48,000 frames a second
abbrev pub request_for : ℕ → PcmMessage
request_for k = record {
  config = stereo;
  bytes = little_endian 4 k ++ (little_endian 4 0 ++ cond (eqb k set_format_code) (little_endian 2 2 ++ (little_endian 2 2 ++ (little_endian 2 7 ++ little_endian 2 0))) []);
  room = zeros control_room;
}

-- set format, prepare, start, pause, unpause, stop
abbrev pub life_codes : List ℕ
life_codes = set_format_code ∷ prepare_code ∷ start_code ∷ pause_code ∷ unpause_code ∷ stop_code ∷ []

abbrev pub life : List PcmMessage
life = map request_for life_codes
