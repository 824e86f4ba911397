-- What is promised of the table's layout and over its tables. Each statement is proved in proofs/Theorems.
use Rattle.std.specs.Prelude.{◌≡◌, ℕ, ◌+◌, ◌/◌, ◌%◌, ◌^◌, ◌<◌, ◌≤◌, true, ◌↔◌, List, [], ◌∷◌, length, take, ◌==◌, slice_index}
use Rattle.std.specs.Prelude.{Option, None, Some}
use Rattle.laws.specs.Lists.{all_of, to_list}
use Rattle.laws.specs.Parts.{zeros}
use Rattle.model.specs.Numbers.{table_words, stream_numbers}
use Rattle.model.specs.Device.{Device, fresh, record_of, pending_of, pending_among, is_spent}
use Rattle.model.specs.Steps.{Step}
use Rattle.model.specs.Ledger.{ledger_of}
use Rattle.model.specs.WellFormed.{u32, well_formed, good_steps}
use Rattle.model.specs.Tables.{Lawful, valid, freshen, table_events, table_final}
use Rattle.model.specs.Promises.{FreshShort, FreshLong, RefusalChangesNothing, ErrorChangesNothing, KeepsRest, StaysValid, OnlyListed, NoTableRefusal, WritesAtMost, SpentForGood, SpentExactly, DrainsEnd, NoDrainAfterEos, FinishesSwap, AnyOrder}
use Rattle.model.specs.Condition3.{OnTables}
use Rattle.table.specs.Spent.{word_numbers}
use Rattle.table.specs.Figures.{total_at, marked_place, places_visited, words_read, AgreeOn, asked_in_all, asked_of_stream}
use Rattle.table.specs.Blocks.{blocks_size, encode, decode, layout}
use Rattle.table.specs.Search.{find_stream}

-- it meets the laws
abbrev pub MeetsLaws : Type 0
MeetsLaws = Lawful layout

-- the used words of t are those of the well-formed device d
abbrev pub StandsFor : List ℕ → Device → Type 0
StandsFor t d = (well_formed d ≡ true) × (take table_words t ≡ encode d)

-- a table is valid exactly where its used words are those of some well-formed device: no rule is missing and none is added
abbrev pub ValidExactly : Type 0
ValidExactly = (t : List ℕ) → (valid layout t ≡ true) ↔ ((d : Device) × StandsFor t d)

-- the words of a well-formed device are 32-bit words, so that each such device has a valid table
abbrev pub Narrow : Type 0
Narrow = (d : Device) → well_formed d ≡ true → all_of u32 (encode d) ≡ true

-- number n is bit n % 32 of word 4,096 + n / 32: 1 where it is spent
abbrev pub SpentBits : Type 0
SpentBits =
    (d : Device) → well_formed d ≡ true → (n : ℕ) → n < stream_numbers
    → (slice_index (encode d) (blocks_size + n / word_numbers) / 2 ^ (n % word_numbers) % 2 == 1) ≡ is_spent n d.spent

-- the table of no streams and no spent number is all zero
abbrev pub FreshIsZero : Type 0
FreshIsZero = encode fresh ≡ zeros table_words

-- Questions for pending answers. The numbers are those of 02, written out.

-- a table that is too short is refused with 1, with 0 and 0 words
abbrev pub ShortRefused : Type 0
ShortRefused =
    (t : List ℕ) → length t < table_words
    → (asked_in_all t ≡ record { refusal = 1; pending = 0; reads = 0 }) × ((n : ℕ) → asked_of_stream t n ≡ record { refusal = 1; pending = 0; reads = 0 })

-- how many words a question for a stream reads: the mark of each place up to its own, k counted from 0, and its figure; or eight marks
abbrev pub reads_for : Option ℕ → ℕ
reads_for None = 8
reads_for (Some k) = k + 2

-- on any table that is long enough: the place is that of the first mark that is the number's; the words read are as many as the places that are visited, and one
-- more for the figure where it is found; they are no more than nine
pub record ReadsFew (t : List ℕ) : Type 0 where
  pub for_total : (asked_in_all t).reads ≡ 1
  pub for_stream : (n : ℕ) → (asked_of_stream t n).reads ≡ reads_for (marked_place t n)
  pub for_places : (n : ℕ) → (asked_of_stream t n).reads ≡ length (places_visited (marked_place t n)) + length (to_list (marked_place t n))
  pub at_most : (n : ℕ) → (asked_of_stream t n).reads ≤ 9

abbrev pub FewWords : Type 0
FewWords = (t : List ℕ) → table_words ≤ length t → ReadsFew t

-- two tables that agree on the words that a question reads give it one answer: no other word matters
pub record OnlyRead (t u : List ℕ) : Type 0 where
  pub total_only : AgreeOn t u (total_at ∷ []) → asked_in_all t ≡ asked_in_all u
  pub stream_only : (n : ℕ) → AgreeOn t u (words_read (marked_place t n)) → asked_of_stream t n ≡ asked_of_stream u n

abbrev pub NoOtherWord : Type 0
NoOtherWord = (t u : List ℕ) → table_words ≤ length t → table_words ≤ length u → OnlyRead t u

-- on a table that stands for the device d: a question gives what going through every resource and drain gives
pub record Counts (t : List ℕ) (d : Device) : Type 0 where
  pub in_all : asked_in_all t ≡ record { refusal = 0; pending = pending_among d.places; reads = 1 }
  pub of_stream : (n : ℕ) → asked_of_stream t n ≡ record { refusal = 0; pending = pending_of (record_of n d.places); reads = reads_for (find_stream n d.places) }

-- so of every valid table
abbrev pub CountsRight : Type 0
CountsRight = (t : List ℕ) → valid layout t ≡ true → Counts t (decode (take table_words t))

-- and after a list of steps from a fresh table the total is how many answers are pending by the ledger. That a stream's figure is too is in condition 3.
abbrev pub TotalOfLedger : Type 0
TotalOfLedger =
    (t : List ℕ) (ss : List Step) → table_words ≤ length t → good_steps ss ≡ true
    → let start = (freshen layout t).table in
    (asked_in_all (table_final layout start ss)).pending ≡ length (ledger_of (table_events layout start ss))

-- condition 3 over the tables of this device
abbrev pub ConditionThree : Type 0
ConditionThree = OnTables layout

-- the promises of model/specs/Promises over the tables of this device, with no layout left open, and those on questions
pub record TablePromises : Type 0 where
  -- a short table is not made fresh; any other is, and then stands for no stream and no spent number
  pub fresh_short : FreshShort layout
  pub fresh_long : FreshLong layout
  -- a refused step changes nothing; an error answer is one answer of 16 bytes, and the table stays
  pub refusal_changes_nothing : RefusalChangesNothing layout
  pub error_changes_nothing : ErrorChangesNothing layout
  -- the words behind the used ones and the bytes behind those written stay
  pub keeps_rest : KeepsRest layout
  -- a valid table stays valid
  pub stays_valid : StaysValid layout
  -- each kind of step has only its own refusal numbers
  pub only_listed : OnlyListed layout
  -- in a list of steps from a fresh table none is refused with 1 or 2
  pub no_table_refusal : NoTableRefusal layout
  -- a step writes at most 1,056 bytes
  pub writes_at_most : WritesAtMost layout
  -- from a fresh table a creation is answered 0x0302 exactly where its number is above 1,023 or a creation of it was accepted before
  pub spent_exactly : SpentExactly layout
  -- after an accepted destruction of a stream no step of its number is accepted, and a report for it reaches nobody
  pub spent_for_good : SpentForGood layout
  -- from a fresh table a drain is answered by a clear of the inputs, by the destruction, by a drained report on a stream without output resources, or in the very
  -- step that answers an output with EOS, directly behind it
  pub drains_end : DrainsEnd layout
  -- so that after every accepted finish with EOS its stream has no drain pending
  pub no_drain_after_eos : NoDrainAfterEos layout
  -- from a valid table, of two finish reports of one stream without EOS that are accepted one after the other either may come first: the same table is left, and the two
  -- results and answers are swapped; so a run of them may come in any order
  pub finishes_swap : FinishesSwap layout
  pub any_order : AnyOrder layout
  -- a question refuses a short table; it reads at most nine words, and looks at no other
  pub short_refused : ShortRefused
  pub few_words : FewWords
  pub no_other_word : NoOtherWord
  -- of a valid table it gives what the records hold, and after a list of steps what the ledger has
  pub counts_right : CountsRight
  pub total_of_ledger : TotalOfLedger
