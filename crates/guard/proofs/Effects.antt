-- The effect of a step, by the host's first tests and by what was served on the used words.
use mathlib.Core.Path.{◌≡◌, refl, sym, ap, ◌∙◌, subst}
use Rattle.std.specs.Prelude.{Option, None, Some}
use mathlib.Core.List.{List, ◌++◌}
use Prim.Native.Nat.{ℕ, ◌≤◌}
use native.Mathlib.Nat.{zero-add}
use native.Mathlib.Omega.{arith}
use lib.ListN.{length, take, drop, take-append-drop}
use lib.Seq.{sets-eq}
use borrow.Author.Tests.{ne_eqb}
use Rattle.model.specs.Numbers.{table_words}
use Rattle.model.specs.Device.{Device}
use Rattle.model.specs.Answers.{bytes_of}
use Rattle.model.specs.Steps.{Act, stream_of, host_refusal, perform_of}
use Rattle.model.specs.Tables.{Effect, valid, carried_out, effect}
use Rattle.model.proofs.Tables.{Lent, not_refused, valid_device, valid_used}
use Rattle.model.proofs.Unchanged.{writes_at_most_lem}
use Rattle.table.specs.Blocks.{decode, layout}
use Rattle.protocol.specs.declared.outcome.Refusal.{Refusal}
use Rattle.protocol.specs.declared.outcome.Refusal.TheVariants.{ShortTable, InvalidTable, ShortRoom, ShortCommand, UnexpectedReport, BadFlags, NoFrame}
use Rattle.protocol.specs.Refusals.{refusal_number}
use Rattle.device.specs.Served.{Encodes, reply_of, Served}

-- a refusal has a number of its own, other than 0
pub has_number : (e : Refusal) → refusal_number e ≡ 0 → ⊥
has_number ShortTable h = omega arith
has_number InvalidTable h = omega arith
has_number ShortRoom h = omega arith
has_number ShortCommand h = omega arith
has_number UnexpectedReport h = omega arith
has_number BadFlags h = omega arith
has_number NoFrame h = omega arith

-- refused by the host's first tests
pub turned_away : (t room : List ℕ) (a : Act) (k : ℕ) {refusal written : ℕ} → k ≡ host_refusal (length t) (length room) (valid layout t) → (k ≡ 0 → ⊥) → (refusal ≡ k) × (written ≡ 0)
    → ◌≡◌ {A = Effect} (record { refusal = refusal; written = written; table = t; room = room }) (effect layout t a room)
unfolding effect
turned_away t room a k e n told = rw (told.0, told.1, ← e, ne_eqb k 0 n) refl

-- not refused by them
module _ (t room : List ℕ) (a : Act) {k : ℕ} (e : k ≡ host_refusal (length t) (length room) (valid layout t)) (z : k ≡ 0) where
  abbrev pub device_in : Device
  device_in = decode (take table_words t)

  used_lent : Lent (length t) (length room) (valid layout t)
  used_lent = not_refused (length t) (length room) (valid layout t) (rw (← e, z) refl)

  pub table_words_lem : table_words ≤ length t
  table_words_lem = used_lent.enough

  pub room_bytes : 1056 ≤ length room
  room_bytes = used_lent.spacious

  pub stands : Encodes (take table_words t) device_in
  stands = record { good = valid_device layout t used_lent.good; held = valid_used layout t used_lent.good }

  -- what it comes to, by the stream that is named
  runs : (o : Option ℕ) → stream_of a ≡ o → effect layout t a room ≡ carried_out layout (perform_of device_in a o) t room
  unfolding effect
  runs o named = rw (← e, z, named) refl

  -- none
  pub unnamed : {refusal written : ℕ} → stream_of a ≡ None → (refusal ≡ 4) × (written ≡ 0)
      → ◌≡◌ {A = Effect} (record { refusal = refusal; written = written; table = t; room = room }) (effect layout t a room)
  unnamed named told =
      (λ i. record {
        refusal = told.0 i;
        written = told.1 i;
        table = (sym (take-append-drop table_words t) ∙ ap (λ (w : List ℕ). w ++ drop table_words t) stands.held) i;
        room = room;
      })
      ∙ sym (runs None named)

  -- the stream n, and its step was served
  module _ (n : ℕ) (named : stream_of a ≡ Some n) {left room' : List ℕ} {refusal written : ℕ}
      (served : (d : Device) → Encodes (take table_words t) d → Served d n a left room room' refusal written) where
    bytes : List ℕ
    bytes = bytes_of (reply_of device_in n a).answers

    done : Served device_in n a left room room' refusal written
    done = served device_in stands

    size : length bytes ≤ 1056
    unfolding bytes
    size = subst (λ (x : Effect). x.written ≤ 1056) (runs (Some n) named) (writes_at_most_lem layout t a room)

    count : written ≡ length bytes
    unfolding bytes
    count = done.bytes.next ∙ zero-add (length (bytes_of (reply_of device_in n a).answers))

    pub few : written ≤ 1056
    few = omega (arith, count, size)

    stored : room' ≡ bytes ++ drop (length bytes) room
    unfolding bytes
    stored =
        let b = bytes_of (reply_of device_in n a).answers in
        done.bytes.whole ∙ sets-eq b room 0 (rw zero-add (omega (arith, size, room_bytes))) ∙ rw zero-add refl

    pub carried : ◌≡◌ {A = Effect} (record { refusal = refusal; written = written; table = left ++ drop table_words t; room = room' }) (effect layout t a room)
    unfolding bytes
    carried =
        (λ i. record { refusal = done.refusal_is i; written = count i; table = done.words i ++ drop table_words t; room = stored i })
        ∙ sym (runs (Some n) named)
