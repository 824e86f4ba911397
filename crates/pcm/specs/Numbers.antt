-- The numbers of document 001 and those that document 02, request 10, adds for the sound device, each once.
use Rattle.std.specs.Prelude.{ℕ, ◌+◌}

-- Request codes: VIRTIO_SND_R_PCM_*

abbrev pub chmap_info_code : ℕ
chmap_info_code = 0

abbrev pub set_format_code : ℕ
set_format_code = 1

abbrev pub prepare_code : ℕ
prepare_code = 2

abbrev pub start_code : ℕ
start_code = 3

abbrev pub stop_code : ℕ
stop_code = 4

abbrev pub pause_code : ℕ
pause_code = 5

abbrev pub unpause_code : ℕ
unpause_code = 6

-- Statuses: VIRTIO_SND_S_OK, and the two errors VIRTIO_SND_S_BAD_MSG and VIRTIO_SND_S_NOT_SUPP

abbrev pub status_ok : ℕ
status_ok = 0x8000

pub data PcmError : Type 0 where
  bad_msg not_supp : PcmError

abbrev pub error_status : PcmError → ℕ
error_status bad_msg = 0x8001
error_status not_supp = 0x8002

-- Stream types: VIRTIO_SND_PCM_T_INPUT, the last; the other one is output, 0

abbrev pub input_type : ℕ
input_type = 1

-- The last of the sample formats, VIRTIO_SND_PCM_FMT_FLOAT64, and of the frame rates, VIRTIO_SND_PCM_RATE_384000; the first of both are 0

abbrev pub last_format : ℕ
last_format = 7

abbrev pub last_rate : ℕ
last_rate = 13

-- Lengths: a request's header, struct virtio_snd_pcm_hdr; struct virtio_snd_pcm_set_format; a status; what follows it in struct
-- virtio_snd_pcm_chmap_info, a count and 256 positions; and the answer room that is enough for both

abbrev pub pcm_header : ℕ
pcm_header = 8

abbrev pub set_format_bytes : ℕ
set_format_bytes = 16

abbrev pub status_bytes : ℕ
status_bytes = 4

abbrev pub chmap_bytes : ℕ
chmap_bytes = 260

abbrev pub control_room : ℕ
control_room = status_bytes + chmap_bytes

-- States of a PCM stream: document 02, request 10, in its order

abbrev pub pcm_fresh : ℕ
pcm_fresh = 0

abbrev pub pcm_set : ℕ
pcm_set = 1

abbrev pub pcm_prepared : ℕ
pcm_prepared = 2

abbrev pub pcm_running : ℕ
pcm_running = 3

abbrev pub pcm_paused : ℕ
pcm_paused = 4

abbrev pub pcm_stopped : ℕ
pcm_stopped = 5
