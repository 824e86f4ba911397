-- What a message comes to, by what the code's checks of it gave.
use mathlib.Core.Path.{◌≡◌, refl, sym, ap, ◌∙◌}
use mathlib.Core.Bool.{true, false, not, ◌&&◌}
use Rattle.std.specs.Prelude.{None, Some, unwrap_or, Result, Ok, Err}
use Rattle.std.specs.Result.{result_unwrap_or}
use mathlib.Core.List.{List, ◌++◌, append-nil}
use Prim.Native.Nat.{ℕ, ◌≤◌}
use native.Mathlib.Nat.{zero-add}
use native.Mathlib.Omega.{arith}
use lib.Dec.{eqb}
use lib.ListN.{length, drop, length-append, length-drop}
use lib.Seq.{sets, sets-eq, length-sets, length-take-le}
use borrow.Author.Tests.{le-leb, le-ltb, eq-eqb, ne_eqb}
use Rattle.laws.specs.Tests.{within}
use Rattle.laws.specs.InOrder.{TestList, accept, ◌⇒◌then◌, by_tests, first_hit}
use Rattle.laws.specs.Lists.{is_none}
use Rattle.laws.specs.Parts.{part, with_part, zeros}
use Rattle.laws.specs.Stores.{Wrote}
use Rattle.field.specs.Field.{little_endian}
use Rattle.laws.proofs.Parts.{zero_length}
use Rattle.laws.proofs.Stores.{sets_next, sets_with_part, wrote_sets}
use Rattle.field.proofs.Laws.{length_little_endian}
use Rattle.laws.proofs.InOrder.{tests_accept, tests_hit, ahead, ahead_hits, ahead_misses}
use Rattle.pcm.specs.Numbers.{set_format_code, PcmError, bad_msg, not_supp, last_format, last_rate, status_bytes, chmap_bytes, control_room, pcm_stopped}
use Rattle.pcm.specs.Lifecycle.{next_state}
use Rattle.pcm.specs.Control.{code_in, channels_in, format_in, rate_in, PcmConfig, supported, PcmReply, goes_to, rejects, status_of, state_after, on_control, asks_map, control_answer, control_refusal, PcmEffect, pcm_control}
use Rattle.sound.specs.declared.lifecycle.PcmState.{PcmState}
use Rattle.sound.specs.declared.message.StatusError.{StatusError}
use Rattle.sound.specs.Meaning.{state_number, pcm_reply_of}
use Rattle.sound.specs.Checks.{header_tests, format_tests}

module _ (config : PcmConfig) (s : ℕ) (m : List ℕ) where
  -- the tests behind the header's
  abbrev behind_header : TestList PcmError PcmReply
  behind_header =
      let k = code_in m in
      let setting = eqb k set_format_code in
      is_none (next_state s k) ⇒ bad_msg then
      setting && not (within (channels_in m) config.channels_min config.channels_max) ⇒ bad_msg then
      setting && not (supported last_format config.formats (format_in m)) ⇒ not_supp then
      setting && not (supported last_rate config.rates (rate_in m)) ⇒ not_supp then
      accept (goes_to (unwrap_or (next_state s k) s))

  header_first : on_control config s m ≡ by_tests rejects (ahead (header_tests m) behind_header)
  unfolding on_control
  header_first = refl

  -- the header fails
  pub header_fails : (e : PcmError) → Some e ≡ first_hit (header_tests m) → rejects e ≡ on_control config s m
  header_fails e h = sym (header_first ∙ ahead_hits rejects e (header_tests m) behind_header (sym h))

  -- behind a good header
  module _ {k : ℕ} (good : None ≡ first_hit (header_tests m)) (code : k ≡ code_in m) where
    header_good : on_control config s m ≡ by_tests rejects behind_header
    header_good = header_first ∙ ahead_misses rejects (header_tests m) behind_header (sym good)

    -- the request is out of order
    pub out_of_turn : None ≡ next_state s k → rejects bad_msg ≡ on_control config s m
    out_of_turn z = sym (header_good ∙ tests_hit rejects _ bad_msg _ (rw (← code, ← z)))

    -- or leads to n
    module _ {n : ℕ} (leads : Some n ≡ next_state s k) where
      -- by a request without fields of its own
      pub plain_turn : (k ≡ set_format_code → ⊥) → goes_to n ≡ on_control config s m
      unfolding by_tests
      plain_turn o = sym (header_good ∙ rw (← code, ← leads, ne_eqb k set_format_code o))

      -- by a set format, whose fields fail or are good
      module _ (o : k ≡ set_format_code) where
        format_first : on_control config s m ≡ by_tests rejects (ahead (format_tests config m) (accept (goes_to n)))
        unfolding by_tests
        format_first = header_good ∙ rw (← code, ← leads, eq-eqb k set_format_code o)

        pub format_fails : (e : PcmError) → Some e ≡ first_hit (format_tests config m) → rejects e ≡ on_control config s m
        format_fails e h = sym (format_first ∙ ahead_hits rejects e (format_tests config m) (accept (goes_to n)) (sym h))

        pub format_turn : None ≡ first_hit (format_tests config m) → goes_to n ≡ on_control config s m
        format_turn h = sym (format_first ∙ ahead_misses rejects (format_tests config m) (accept (goes_to n)) (sym h) ∙ tests_accept rejects (goes_to n))

-- The answer: the status alone, and behind it the zeros where the channel map was asked for

module _ {d d₁ : List ℕ} (m : List ℕ) (status : ℕ) where
  pub wrote_status : asks_map m ≡ false → d₁ ≡ sets d 0 (little_endian status_bytes status) → Wrote d d₁ 0 status_bytes (control_answer m status)
  unfolding control_answer
  wrote_status h e = rw h (rw (append-nil (little_endian status_bytes status)) (wrote_sets 0 status_bytes (little_endian status_bytes status) (length_little_endian status_bytes status) e))

  pub wrote_map : {p : List ℕ} → asks_map m ≡ true → control_room ≤ length d → d₁ ≡ sets d 0 (little_endian status_bytes status) → p ≡ zeros (length (part status_bytes chmap_bytes d₁))
      → Wrote d (with_part status_bytes chmap_bytes d₁ p) 0 control_room (control_answer m status)
  unfolding control_answer
  wrote_map {p} h room e z =
      let long : control_room ≤ length d₁ = rw (e, length-sets) room in
      let z₁ : p ≡ zeros chmap_bytes = z ∙ ap zeros (length-take-le chmap_bytes (drop status_bytes d₁) (rw length-drop (omega (arith, long)))) in
      rw h
      (record {
        next = rw (length-append, length_little_endian status_bytes status, zero_length chmap_bytes);
        whole =
            rw z₁
            (ap (λ (n : ℕ). with_part status_bytes n d₁ (zeros chmap_bytes)) (sym (zero_length chmap_bytes))
            ∙ sym (sets_with_part d₁ (zeros chmap_bytes) status_bytes (rw (zero_length chmap_bytes) long))
            ∙ rw e (sets_next d 0 status_bytes (little_endian status_bytes status) (zeros chmap_bytes) (length_little_endian status_bytes status)));
      })

-- The whole effect

-- carried out: the reply's status is written, and its state is left
state_left : (s : PcmState) (r : Result PcmState StatusError) → state_number (result_unwrap_or r s) ≡ state_after (state_number s) (pcm_reply_of r)
state_left s (Ok n) = refl
state_left s (Err e) = refl

module _ (config : PcmConfig) (s : PcmState) (r : Result PcmState StatusError) (m : List ℕ) {room room' : List ℕ} {number next written status : ℕ} where
  pub carried_out_lem : control_room ≤ length room → (state_number s ≡ number) × (number ≤ pcm_stopped) → pcm_reply_of r ≡ on_control config (state_number s) m → status ≡ status_of (pcm_reply_of r)
      → Wrote room room' 0 written (control_answer m status) → written ≤ control_room → next ≡ state_number (result_unwrap_or r s)
      → ◌≡◌ {A = PcmEffect} (record { refusal = 0; state = next; written = written; room = room' }) (pcm_control config number m room)
  unfolding pcm_control control_refusal
  carried_out_lem enough known reply told wrote few left =
      let bytes = control_answer m status in
      let written_is : written ≡ length bytes = wrote.next ∙ zero-add (length bytes) in
      let stored : room' ≡ bytes ++ drop (length bytes) room = wrote.whole ∙ sets-eq bytes room 0 (rw zero-add (omega (arith, enough, few, written_is))) ∙ rw zero-add refl in
      (λ i. record { refusal = 0; state = (left ∙ state_left s r) i; written = written_is i; room = stored i })
      ∙ rw (told, reply, known.0, le-ltb (length room) control_room enough, le-leb number pcm_stopped known.1) refl
