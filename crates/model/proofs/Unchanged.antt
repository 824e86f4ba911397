-- What a step leaves alone: all where it is refused or answered by an error; the words and bytes behind, and validity, always.
use Prim.Native.Nat.{ℕ, ◌≤◌}
use native.Mathlib.Omega.{arith}
use mathlib.Core.Path.{◌≡◌, refl, sym, ap, ◌∙◌, subst}
use mathlib.Core.Bool.{Bool, true, false, not, ◌&&◌}
use Rattle.std.specs.Prelude.{Option, None, Some}
use mathlib.Core.List.{List, [], ◌∷◌, ◌++◌, map}
use lib.ListN.{length, take, drop, length-append, length-drop}
use lib.Seq.{take_at, drop_at}
use lib.Dec.{eqb}
use Rattle.laws.specs.Lists.{any_of}
use Rattle.laws.proofs.Tests.{never}
use Rattle.laws.proofs.Lists.{decide}
use Rattle.field.specs.Field.{field, little_endian}
use Rattle.model.specs.Numbers.{table_words}
use Rattle.model.specs.Device.{Stream, Device, record_of, put_back}
use Rattle.model.specs.Answers.{ErrorCode, failure, response_bytes, bytes_of, answers_in}
use Rattle.model.specs.Replies.{Reply, refuse}
use Rattle.model.specs.Steps.{Act, command, finish, drained, Step, stream_of, serve, DeviceReply, refused, around, perform_of, perform, host_refusal, step_on, accepted, event_of}
use Rattle.model.specs.WellFormed.{well_formed, good_act}
use Rattle.model.specs.Tables.{Layout, Lawful, Effect, untouched, valid, carried_out, effect, table_event}
use Rattle.model.specs.Promises.{as_written, RefusalChangesNothing, OneError, ErrorChangesNothing, RestStays, KeepsRest, StaysValid, WritesAtMost}
use Rattle.model.specs.Ledger.{step_ticket}
use Rattle.model.proofs.Places.{put_self}
use Rattle.model.proofs.Spent.{spent_self}
use Rattle.model.proofs.Origins.{finish_cases, drained_cases}
use Rattle.model.proofs.WellFormed.{well_places, not_again_lem, stays_well_formed}
use Rattle.model.proofs.ReadBack.{read_back}
use Rattle.model.proofs.Room.{fits_room}
use Rattle.model.proofs.Fits.{fails, accepted_reply, Rejected, by_host, by_error, finish_accepted, FitsAct, serve_fits}
use Rattle.model.proofs.Seen.{step_runs}
use Rattle.model.proofs.Condition3.{sane_record, step_stream_is, accepted_is}
use Rattle.model.proofs.Tables.{Lent, not_refused, valid_refusal, words_valid, valid_device, valid_whole}

abbrev pub accepted_device_reply : DeviceReply → Bool
accepted_device_reply o = eqb o.refusal 0 && not (any_of fails o.answers)

-- not accepted: a refusal number, or one error answer to a command; the device stays
data NotAccepted (d : Device) (a : Act) : DeviceReply → Type 0 where
  numbered : (k : ℕ) → eqb k 0 ≡ false → NotAccepted d a (refused k d)
  by_answer : (t : ℕ) (f : List ℕ) (e : ErrorCode) → a ≡ command t f
      → NotAccepted d a (record { refusal = 0; answers = record { ticket = t; stream = field 4 f 4; response = failure e } ∷ []; device = d })

abbrev device_reply : Device → ℕ → Reply → DeviceReply
device_reply d n v = record { refusal = v.refusal; answers = v.answers; device = put_back n v.next d }

-- a report that is not accepted has a number
abbrev Numbered : Reply → Type 0
Numbered v = accepted_reply v ≡ false → eqb v.refusal 0 ≡ false

module _ (d : Device) (h : well_formed d ≡ true) (n : ℕ) where
  abbrev self : Option Stream
  self = record_of n d.places

  -- a record that is put back as it was leaves the device
  pub put_back_same : put_back n self d ≡ d
  put_back_same = λ i. record { places = put_self n d.places (well_places d h).apart i; spent = spent_self n self d.spent i }

  by_number_lem : (a : Act) (k : ℕ) → eqb k 0 ≡ false → NotAccepted d a (device_reply d n (refuse k self))
  by_number_lem a k z = subst (λ (x : Device). NotAccepted d a (record { refusal = k; answers = []; device = x })) (sym put_back_same) (numbered k z)

  -- by a number, or a command by an error
  asked : (t : ℕ) (f : List ℕ) (v : Reply) → n ≡ field 4 f 4 → Rejected n t self v → NotAccepted d (command t f) (device_reply d n v)
  asked t f _ s (by_host k z) = by_number_lem (command t f) k z
  asked t f _ s (by_error e) =
      subst (λ (x : Device). NotAccepted d (command t f) (record { refusal = 0; answers = record { ticket = t; stream = n; response = failure e } ∷ []; device = x })) (sym put_back_same)
      (subst (λ (m : ℕ). NotAccepted d (command t f) (record { refusal = 0; answers = record { ticket = t; stream = m; response = failure e } ∷ []; device = d })) (sym s)
      (by_answer t f e refl))

  report : (a : Act) (v : Reply) → Rejected n (step_ticket a) self v → eqb v.refusal 0 ≡ false → NotAccepted d a (device_reply d n v)
  report a _ (by_host k z) e = by_number_lem a k z
  report a _ (by_error x) e = never e

  numbered_report : (a : Act) (v : Reply) → Rejected n (step_ticket a) self v → Numbered v → accepted_reply v ≡ false → NotAccepted d a (device_reply d n v)
  numbered_report a v r h acc = report a v r (h acc)

  with_owner : (a : Act) → stream_of a ≡ Some n → accepted_reply (serve (around d n) n self a) ≡ false → NotAccepted d a (device_reply d n (serve (around d n) n self a))
  unfolding serve
  with_owner a s acc = of a s acc ((fit a).rejected (sym (fit a).is ∙ acc))
    where
      fit : (a : Act) → FitsAct n a self (serve (around d n) n self a)
      fit a = serve_fits (around d n) n self a (not_again_lem n d h) (sane_record n d h)

      of : (a : Act) → stream_of a ≡ Some n → accepted_reply (serve (around d n) n self a) ≡ false → Rejected n (step_ticket a) self (serve (around d n) n self a)
          → NotAccepted d a (device_reply d n (serve (around d n) n self a))
      of (command t f) s acc r = asked t f (serve (around d n) n self (command t f)) (step_stream_is (command t f) n s) r
      of (finish m qt x flags ts) s acc r =
          numbered_report (finish m qt x flags ts) (serve (around d n) n self (finish m qt x flags ts)) r
          (finish_cases Numbered n qt x flags ts self (λ _. refl) (λ _. refl) (λ b q i h z. never (sym (finish_accepted n flags ts b q i None) ∙ z))) acc
      of (drained m) s acc r =
          numbered_report (drained m) (serve (around d n) n self (drained m)) r (drained_cases Numbered n self (λ _. refl) (λ b t h z. never z)) acc

not_accepted_lem : (d : Device) (a : Act) → well_formed d ≡ true → accepted_device_reply (perform d a) ≡ false → NotAccepted d a (perform d a)
not_accepted_lem d a h = of (stream_of a) refl
  where
    of : (o : Option ℕ) → stream_of a ≡ o → accepted_device_reply (perform_of d a o) ≡ false → NotAccepted d a (perform_of d a o)
    of None e z = numbered 4 refl
    of (Some n) e z = with_owner d h n a e z

-- Over tables

module _ (L : Layout) (t : List ℕ) (a : Act) (room : List ℕ) where
  abbrev k : ℕ
  k = host_refusal (length t) (length room) (valid L t)

  abbrev device : Device
  device = L.decode (take table_words t)

  abbrev performed : DeviceReply
  performed = perform device a

  abbrev it : Effect
  it = effect L t a room

  abbrev as_step : Step
  as_step = record { act = a; room = room }

  it_refused : eqb k 0 ≡ false → it ≡ untouched k t room
  unfolding effect
  it_refused e = simp e

  module _ (e : eqb k 0 ≡ true) where
    carried : it ≡ carried_out L performed t room
    unfolding effect
    carried = simp e

    abbrev lent : Lent (length t) (length room) (valid L t)
    lent = not_refused (length t) (length room) (valid L t) e

    well : well_formed device ≡ true
    well = valid_device L t lent.good

    -- the device's words, and those behind them, are the table
    stays : L.encode device ++ drop table_words t ≡ t
    stays = valid_whole L t lent.good

    stepped : step_on device as_step ≡ performed
    stepped =
        step_runs device as_step
        (ap (λ (j : ℕ). eqb j 0) (sym (valid_refusal (length t) (length room) (valid L t) lent.enough lent.good)) ∙ e)

    bytes : List ℕ
    bytes = bytes_of performed.answers

    fits : length (bytes_of performed.answers) ≤ length room
    fits = omega (arith, ap (λ (o : DeviceReply). length (bytes_of o.answers)) stepped, fits_room device as_step well, lent.spacious)

    still_well : good_act a ≡ true → well_formed performed.device ≡ true
    still_well m = ap (λ (o : DeviceReply). well_formed o.device) (sym stepped) ∙ stays_well_formed device as_step well m

    -- a refusal of the step itself
    numbers : (o : DeviceReply) → NotAccepted device a o → eqb o.refusal 0 ≡ false → carried_out L o t room ≡ untouched o.refusal t room
    numbers _ (numbered j z) h = ap (λ (x : List ℕ). record { refusal = j; written = 0; table = x; room = room }) stays
    numbers _ (by_answer u f x is) h = never h

    -- an error answer
    errors : (o : DeviceReply) → NotAccepted device a o → o.refusal ≡ 0 → OneError t a (carried_out L o t room)
    unfolding response_bytes little_endian
    errors _ (numbered j z) h = never (sym (ap (λ (x : ℕ). eqb x 0) h) ∙ z)
    errors _ (by_answer u f x is) h = record { ticket = u; frame = f; error = x; asked = is; sixteen = refl; answer = refl; stays = stays }

    event_is : table_event L as_step it ≡ event_of as_step performed
    event_is =
        ap (table_event L as_step) carried
        ∙ (λ i. record {
          step = as_step;
          refusal = performed.refusal;
          written = length (bytes_of performed.answers);
          bytes = take_at (bytes_of performed.answers) (drop (length (bytes_of performed.answers)) room) (length (bytes_of performed.answers)) refl i;
        })

    rest : Lawful L → good_act a ≡ true → RestStays t room it
    rest law m =
        let b = bytes_of performed.answers in
        let w = L.encode performed.device in
        let size : length w ≡ table_words = law.size performed.device (still_well m) in
        let long = lent.enough in
        let room_fits = fits in
        subst (RestStays t room) (sym carried)
        (record {
          words = drop_at w (drop table_words t) table_words size;
          word_count = omega (arith, length-append w (drop table_words t), size, length-drop table_words t);
          bytes = drop_at b (drop (length b) room) (length b) refl;
          byte_count = omega (arith, length-append b (drop (length b) room), length-drop (length b) room);
        })

    still_valid : Lawful L → good_act a ≡ true → valid L it.table ≡ true
    still_valid law m = ap (λ (x : Effect). valid L x.table) carried ∙ words_valid L law (drop table_words t) performed.device (still_well m)

pub refusal_changes_nothing_lem : (L : Layout) → RefusalChangesNothing L
refusal_changes_nothing_lem L t a room r =
    decide (eqb (k L t a room) 0)
    (λ e.
    let none_zero : eqb (performed L t a room).refusal 0 ≡ false = ap (λ (x : Effect). eqb x.refusal 0) (sym (carried L t a room e)) ∙ r in
    carried L t a room e
    ∙ numbers L t a room e (performed L t a room)
    (not_accepted_lem (device L t a room) a (well L t a room e) (simp none_zero)) none_zero
    ∙ ap (λ (x : Effect). untouched x.refusal t room) (sym (carried L t a room e)))
    (λ e. it_refused L t a room e ∙ ap (λ (x : Effect). untouched x.refusal t room) (sym (it_refused L t a room e)))

pub error_changes_nothing_lem : (L : Layout) → ErrorChangesNothing L
error_changes_nothing_lem L t s m z acc =
    let a = s.act in
    let room = s.room in
    decide (eqb (k L t a room) 0)
    (λ e.
    let d = device L t a room in
    let o = performed L t a room in
    let refusal : o.refusal ≡ 0 = ap (λ (x : Effect). x.refusal) (sym (carried L t a room e)) ∙ z in
    let read = subst (λ (x : DeviceReply). answers_in (bytes_of x.answers) ≡ map as_written x.answers) (stepped L t a room e) (read_back d (as_step L t a room) (well L t a room e) m) in
    let no : accepted_device_reply o ≡ false = sym (accepted_is s o read) ∙ ap accepted (sym (event_is L t a room e)) ∙ acc in
    subst (OneError t a) (sym (carried L t a room e)) (errors L t a room e o (not_accepted_lem d a (well L t a room e) no) refusal))
    (λ e. never (sym (ap (λ (x : ℕ). eqb x 0) z) ∙ ap (λ (x : Effect). eqb x.refusal 0) (it_refused L t a room e) ∙ e))

pub keeps_rest_lem : (L : Layout) → Lawful L → KeepsRest L
keeps_rest_lem L law t a room m =
    decide (eqb (k L t a room) 0)
    (λ e. rest L t a room e law m)
    (λ e. subst (RestStays t room) (sym (it_refused L t a room e)) (record { words = refl; word_count = refl; bytes = refl; byte_count = refl }))

pub stays_valid_lem : (L : Layout) → Lawful L → StaysValid L
stays_valid_lem L law t a room m v =
    decide (eqb (k L t a room) 0) (λ e. still_valid L t a room e law m) (λ e. ap (λ (x : Effect). valid L x.table) (it_refused L t a room e) ∙ v)

pub writes_at_most_lem : (L : Layout) → WritesAtMost L
writes_at_most_lem L t a room =
    decide (eqb (k L t a room) 0)
    (λ e.
    omega (
      arith,
      ap (λ (x : Effect). x.written) (carried L t a room e),
      ap (λ (o : DeviceReply). length (bytes_of o.answers)) (stepped L t a room e),
      fits_room (device L t a room) (as_step L t a room) (well L t a room e),
    ))
    (λ e. omega (arith, ap (λ (x : Effect). x.written) (it_refused L t a room e)))
