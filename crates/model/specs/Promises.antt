-- What else holds of every step and of every list of steps. Those over devices are proved in proofs/ as they stand. Those over tables are
-- proved there of every layout, or of every lawful one (`Lawful`), and then of the one layout that is used: `TablePromises` in table/specs/Promises.
use Rattle.std.specs.Prelude.{ℕ, ◌≤◌, ◌<◌, ◌≡◌, Bool, true, false, cond, not, ◌&&◌, ◌||◌, length, take, drop, eqb, ltb, leb}
use Rattle.std.specs.Prelude.{Option, None, Some}
use mathlib.Core.List.{List, [], ◌∷◌, ◌++◌, map, reverse, Perm}
use Rattle.laws.specs.Lists.{any_of, all_of, Each, how_many, is_none, same}
use Rattle.field.specs.Field.{field, little_endian}
use Rattle.model.specs.Numbers.{table_words, answer_room}
use Rattle.model.specs.Device.{Slot, Stream, Place, vacant, occupied, Device, fresh, slot_number}
use Rattle.model.specs.Frames.{word, stream_id}
use Rattle.model.specs.Answers.{ErrorCode, code, Answer, response_of, word_bytes, bytes_of, Written, answers_in}
use Rattle.model.specs.Steps.{Act, command, finish, drained, Step, step_on, Event, event_of, answers_of, accepted, belongs, is_creation, out_of_memory_at}
use Rattle.model.specs.Ledger.{Awaited, to_drain, Pending, Ledger, step_stream, is_buffer_of, is_drain, resource_in, awaits, completed, noted_of, ledger_of}
use Rattle.model.specs.WellFormed.{well_formed, good_act, good_steps}
use Rattle.model.specs.Tables.{Layout, Effect, untouched, valid, effect, freshen, table_event, table_events, table_final}
use Rattle.model.specs.Condition3.{steps_of, on_table}

-- Over devices

-- a step leaves a well-formed device well formed
abbrev pub StaysWellFormed : Type 0
StaysWellFormed = (d : Device) (s : Step) → well_formed d ≡ true → good_act s.act ≡ true → well_formed (step_on d s).device ≡ true

-- a step writes no more than the room that it must be lent
abbrev pub FitsRoom : Type 0
FitsRoom = (d : Device) (s : Step) → well_formed d ≡ true → length (bytes_of (step_on d s).answers) ≤ answer_room

-- an answer as it should stand in the room
abbrev pub as_written : Answer → Written
as_written a = record { ticket = a.ticket; response = response_of a }

-- the bytes of a step's answers can be read back into answers
abbrev pub ReadBack : Type 0
ReadBack = (d : Device) (s : Step) → well_formed d ≡ true → good_act s.act ≡ true → answers_in (bytes_of (step_on d s).answers) ≡ map as_written (step_on d s).answers

-- a place that holds a stream
abbrev pub is_live : Place → Bool
is_live vacant = false
is_live (occupied n b) = true

-- 'out of memory' to a creation only where all eight places hold a stream
abbrev pub FullAtEight : Type 0
FullAtEight = (d : Device) (s : Step) → well_formed d ≡ true → out_of_memory_at (event_of s (step_on d s)) ≡ true → how_many is_live d.places ≡ 8

-- Over tables, of any words and any room

-- a short table is not made fresh
abbrev pub FreshShort : Layout → Type 0
FreshShort L = (t : List ℕ) → length t < table_words → freshen L t ≡ record { refusal = 1; table = t }

-- any other is: it is then valid and stands for no stream and no spent number, and the words behind stay
pub record FreshStart (L : Layout) (t : List ℕ) : Type 0 where
  pub result : (freshen L t).refusal ≡ 0
  pub good : valid L (freshen L t).table ≡ true
  pub empty : L.decode (take table_words (freshen L t).table) ≡ fresh
  pub rest : drop table_words (freshen L t).table ≡ drop table_words t
  pub word_count : length (freshen L t).table ≡ length t

-- of every table that is long enough
abbrev pub FreshLong : Layout → Type 0
FreshLong L = (t : List ℕ) → table_words ≤ length t → FreshStart L t

-- a refusal writes nothing and changes nothing
abbrev pub RefusalChangesNothing : Layout → Type 0
RefusalChangesNothing L =
    (t : List ℕ) (a : Act) (room : List ℕ) → eqb (effect L t a room).refusal 0 ≡ false → effect L t a room ≡ untouched (effect L t a room).refusal t room

-- a step with result 0 that is not accepted is a command; it writes exactly one error answer, under its own ticket and with the stream number sent
pub record OneError (t : List ℕ) (a : Act) (e : Effect) : Type 0 where
  pub ticket : ℕ
  pub frame : List ℕ
  pub error : ErrorCode
  pub asked : a ≡ command ticket frame
  pub sixteen : e.written ≡ 16
  pub answer : take e.written e.room ≡ word_bytes (ticket ∷ 8 ∷ code error ∷ stream_id frame ∷ [])
  pub stays : e.table ≡ t

-- an error answer changes nothing else
abbrev pub ErrorChangesNothing : Layout → Type 0
ErrorChangesNothing L =
    (t : List ℕ) (s : Step) → good_act s.act ≡ true → (effect L t s.act s.room).refusal ≡ 0
    → accepted (table_event L s (effect L t s.act s.room)) ≡ false → OneError t s.act (effect L t s.act s.room)

-- words behind the used ones and bytes behind those written stay, and so do the lengths
pub record RestStays (t room : List ℕ) (e : Effect) : Type 0 where
  pub words : drop table_words e.table ≡ drop table_words t
  pub word_count : length e.table ≡ length t
  pub bytes : drop e.written e.room ≡ drop e.written room
  pub byte_count : length e.room ≡ length room

-- of every step
abbrev pub KeepsRest : Layout → Type 0
KeepsRest L = (t : List ℕ) (a : Act) (room : List ℕ) → good_act a ≡ true → RestStays t room (effect L t a room)

-- a valid table stays valid
abbrev pub StaysValid : Layout → Type 0
StaysValid L = (t : List ℕ) (a : Act) (room : List ℕ) → good_act a ≡ true → valid L t ≡ true → valid L (effect L t a room).table ≡ true

-- the refusal numbers of each kind of step
abbrev pub listed : Act → ℕ → Bool
listed (command t f) k = leb k 4
listed (finish n qt r flags ts) k = leb k 3 || eqb k 5 || eqb k 6
listed (drained n) k = leb k 3 || eqb k 5

-- no step has another
abbrev pub OnlyListed : Layout → Type 0
OnlyListed L = (t : List ℕ) (a : Act) (room : List ℕ) → listed a (effect L t a room).refusal ≡ true

-- refused with neither 1 nor 2
abbrev pub table_good : Event → Bool
table_good e = not (eqb e.refusal 1) && not (eqb e.refusal 2)

-- no step of a list from a fresh table is refused for its table
abbrev pub NoTableRefusal : Layout → Type 0
NoTableRefusal L = (t : List ℕ) (ss : List Step) → table_words ≤ length t → good_steps ss ≡ true → all_of table_good (table_events L (freshen L t).table ss) ≡ true

-- a step writes at most 1,056 bytes
abbrev pub WritesAtMost : Layout → Type 0
WritesAtMost L = (t : List ℕ) (a : Act) (room : List ℕ) → (effect L t a room).written ≤ 1056

-- A stream number is spent for good, so that what comes late for a destroyed stream reaches nobody. The numbers below are those of 01 and 02, written
-- out, so that a mistake in the device's definitions shows; only the words of the table and the bytes of room go by their name.

-- what a step of a destroyed stream's number is answered, where the room is enough: a creation of 88 bytes 0x0302, a report refusal 5, or 6 for flags above 3
abbrev pub ReachesNobody : Act → Event → Type 0
ReachesNobody (command t f) e =
    field 4 f 0 ≡ 0x0101 → length f ≡ 88 → (e.refusal ≡ 0) × (e.written ≡ 16) × (e.bytes ≡ word_bytes (t ∷ 8 ∷ 0x0302 ∷ field 4 f 4 ∷ []))
ReachesNobody (finish n qt r flags ts) e = e.refusal ≡ cond (ltb 3 flags) 6 5
ReachesNobody (drained n) e = e.refusal ≡ 5

-- an event of the number n is not accepted, and reaches nobody
abbrev pub Late : ℕ → Event → Type 0
Late n e = belongs n e ≡ true → (accepted e ≡ false) × (answer_room ≤ length e.step.room → ReachesNobody e.step.act e)

-- from any valid table: after an accepted destruction of a stream, every later step of its number is late
abbrev pub SpentForGood : Layout → Type 0
SpentForGood L =
    (t : List ℕ) (ss : List Step) (before later : List Event) (e : Event) (ticket : ℕ) (f : List ℕ) → valid L t ≡ true → good_steps ss ≡ true
    → table_events L t ss ≡ before ++ e ∷ later → e.step.act ≡ command ticket f → field 4 f 0 ≡ 0x0102 → accepted e ≡ true → Each (Late (field 4 f 4)) later

-- an accepted creation of the number n
abbrev pub created_at : ℕ → Event → Bool
created_at n e = belongs n e && (is_creation e.step.act && accepted e)

-- an event with an answer 0x0302
abbrev pub says_invalid_stream : Event → Bool
says_invalid_stream e = any_of (λ (w : Written). eqb (word w.response 0) 0x0302) (answers_of e)

-- from a fresh table: a creation of 88 bytes, with room enough, is answered 0x0302 exactly where its number is above 1,023 or a creation of it was accepted before
abbrev pub SpentExactly : Layout → Type 0
SpentExactly L =
    (t : List ℕ) (ss : List Step) (before later : List Event) (e : Event) (ticket : ℕ) (f : List ℕ) → table_words ≤ length t → good_steps ss ≡ true
    → table_events L (freshen L t).table ss ≡ before ++ e ∷ later → e.step.act ≡ command ticket f → field 4 f 0 ≡ 0x0101 → length f ≡ 88
    → answer_room ≤ length e.step.room → says_invalid_stream e ≡ (ltb 1023 (field 4 f 4) || any_of (created_at (field 4 f 4)) before)

-- The last picture and its drain are answered in one step. The numbers are written out here too.

-- a slot of the outputs holds a resource, in whatever state
abbrev pub has_outputs : Stream → Bool
has_outputs b = any_of (λ (s : Slot). not (is_none (slot_number s))) b.outputs.slots

-- some answer to the stream n that passes the test is pending
abbrev pub is_pending : ℕ → (Awaited → Bool) → Ledger → Bool
is_pending n q l = any_of (λ (p : Pending). eqb p.stream n && awaits q p) l

-- the event e, after the events `before`, completes the answer to the output r of the stream n and then the answer to a drain, and nothing else; no input is pending then.
-- It writes these two: the picture's with the flags and the timestamp, and directly behind it the drain's
pub record LastPicture (n r flags ts : ℕ) (before : List Event) (e : Event) : Type 0 where
  pub inputs_answered : is_pending n (is_buffer_of 0x100) (ledger_of before) ≡ false
  pub picture : Pending
  pub its_drain : Pending
  pub completes_both : completed (noted_of (length before) e) (ledger_of before) ≡ picture ∷ its_drain ∷ []
  pub of_output : (is_buffer_of 0x101 picture.awaited && eqb (resource_in picture.awaited) r) ≡ true
  pub of_drain : its_drain.awaited ≡ to_drain
  pub writes_both : e.bytes ≡ word_bytes (picture.ticket ∷ 24 ∷ 0x0202 ∷ n ∷ []) ++ (little_endian 8 ts ++ word_bytes (flags ∷ 0 ∷ its_drain.ticket ∷ 8 ∷ 0x0200 ∷ n ∷ []))

-- what can answer a drain; `self` is the record of the event's stream before it. A report does so only where no input is pending.
pub data EndsDrain (before : List Event) (e : Event) (self : Option Stream) : Act → Type 0 where
  by_clear : (t : ℕ) (f : List ℕ) → field 4 f 0 ≡ 0x0107 → field 4 f 8 ≡ 0x100 → EndsDrain before e self (command t f)
  by_destruction : (t : ℕ) (f : List ℕ) → field 4 f 0 ≡ 0x0102 → EndsDrain before e self (command t f)
  by_report : (n : ℕ) (b : Stream) → self ≡ Some b → has_outputs b ≡ false → is_pending n (is_buffer_of 0x100) (ledger_of before) ≡ false → EndsDrain before e self (drained n)
  behind_picture : (n r flags ts : ℕ) → 2 ≤ flags → LastPicture n r flags ts before e → EndsDrain before e self (finish n 0x101 r flags ts)

-- from a fresh table: an event that answers a drain is a clear of the inputs, a destruction, a drained report on a stream without output resources, or the very
-- step that answers an output with EOS
abbrev pub DrainsEnd : Layout → Type 0
DrainsEnd L =
    (t : List ℕ) (ss : List Step) (before later : List Event) (e : Event) → table_words ≤ length t → good_steps ss ≡ true
    → table_events L (freshen L t).table ss ≡ before ++ e ∷ later → any_of (awaits is_drain) (completed (noted_of (length before) e) (ledger_of before)) ≡ true
    → EndsDrain before e ((on_table L t (steps_of before)).records (step_stream e.step.act)) e.step.act

-- the stream lives on, and by its record no drain is pending
pub record NotDraining (self : Option Stream) : Type 0 where
  pub left_record : Stream
  pub record_is : self ≡ Some left_record
  pub no_drain : left_record.draining ≡ None

-- from a fresh table: an accepted finish with EOS answers its picture and its drain, and after it no drain of its stream is pending, by the ledger and by the record
abbrev pub NoDrainAfterEos : Layout → Type 0
NoDrainAfterEos L =
    (t : List ℕ) (ss : List Step) (before later : List Event) (e : Event) (n qt r flags ts : ℕ) → table_words ≤ length t → good_steps ss ≡ true
    → table_events L (freshen L t).table ss ≡ before ++ e ∷ later → e.step.act ≡ finish n qt r flags ts → 2 ≤ flags → accepted e ≡ true
    → LastPicture n r flags ts before e
    × (is_pending n is_drain (ledger_of (before ++ e ∷ [])) ≡ false)
    × NotDraining ((on_table L t (steps_of (before ++ e ∷ []))).records n)

-- Order inside one stream: finish reports without EOS that are accepted one after the other may come in any order. The numbers are written out here too.

-- a finish report of the stream n without EOS: its flags are 0, or 1 for ERR; 2 and 3 have EOS, and above 3 none is accepted
abbrev pub without_eos : ℕ → Act → Bool
without_eos n (command t f) = false
without_eos n (finish m qt r flags ts) = eqb m n && ltb flags 2
without_eos n (drained m) = false

-- such a report, accepted
abbrev pub finished_without_eos : ℕ → Event → Bool
finished_without_eos n e = without_eos n e.step.act && accepted e

-- a run of them on a table: arguments within the host's types, each report accepted in its turn
pub record FinishRun (L : Layout) (t : List ℕ) (n : ℕ) (ss : List Step) : Type 0 where
  pub in_types : good_steps ss ≡ true
  pub in_turn : all_of (finished_without_eos n) (table_events L t ss) ≡ true

-- the buffer that a report is of, by its queue type and its resource number: one number on both queues is two buffers
abbrev pub buffer_named : Act → List ℕ
buffer_named (command t f) = []
buffer_named (finish n qt r flags ts) = qt ∷ r ∷ []
buffer_named (drained n) = []

-- a list of two the other way round
abbrev pub swapped : {A : Type 0} → List A → List A
swapped l = reverse l

-- two reports of a run: they are of different buffers, and the other way round they are a run too, which leaves the same table, with the words behind the used ones, and
-- gives the same two results and answers, swapped
pub record EitherFirst (L : Layout) (t : List ℕ) (n : ℕ) (s u : Step) : Type 0 where
  pub differ : same (buffer_named s.act) (buffer_named u.act) ≡ false
  pub also_run : FinishRun L t n (u ∷ s ∷ [])
  pub same_table : table_final L t (u ∷ s ∷ []) ≡ table_final L t (s ∷ u ∷ [])
  pub answers_swapped : table_events L t (u ∷ s ∷ []) ≡ swapped (table_events L t (s ∷ u ∷ []))

-- from any valid table
abbrev pub FinishesSwap : Layout → Type 0
FinishesSwap L = (t : List ℕ) (n : ℕ) (s u : Step) → valid L t ≡ true → FinishRun L t n (s ∷ u ∷ []) → EitherFirst L t n s u

-- a run in another order: it is a run too, which leaves the same table, and its steps with their results and bytes are those of the first, in another order
pub record Rearranged (L : Layout) (t : List ℕ) (n : ℕ) (ss us : List Step) : Type 0 where
  pub also_run : FinishRun L t n us
  pub same_table : table_final L t us ≡ table_final L t ss
  pub same_answers : Perm (table_events L t ss) (table_events L t us)

-- from any valid table, for every rearrangement: `Perm` is the library's, made of swaps of neighbours
abbrev pub AnyOrder : Layout → Type 0
AnyOrder L = (t : List ℕ) (n : ℕ) (ss us : List Step) → valid L t ≡ true → FinishRun L t n ss → Perm ss us → Rearranged L t n ss us
