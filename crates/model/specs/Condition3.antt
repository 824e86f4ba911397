-- Condition 3: streams are isolated, and every accepted queueing or drain is answered once or pending once.
use Rattle.std.specs.Prelude.{ℕ, ◌+◌, ◌≤◌, ◌≡◌, Bool, true, false, ◌&&◌, List, [], ◌∷◌, ◌++◌, map, length, take, eqb, ltb}
use Rattle.std.specs.Prelude.{Option}
use Rattle.laws.specs.Lists.{keep, any_of, how_many, is_none}
use Rattle.field.specs.Field.{field}
use Rattle.model.specs.Numbers.{table_words}
use Rattle.model.specs.Device.{Stream, fresh, record_of, pending_of}
use Rattle.model.specs.Answers.{rewritten}
use Rattle.model.specs.Steps.{command, Step, Event, events_of, final, answers_of, belongs, accepted, out_of_memory_at}
use Rattle.model.specs.Ledger.{awaited_by, Pending, ledger_of, AsExpected, of_step, answers_to, Outstanding, outstanding_to, outstanding_in}
use Rattle.model.specs.WellFormed.{good_steps}
use Rattle.model.specs.Tables.{Layout, valid, freshen, table_events, table_final}

-- what a list of steps from a fresh start shows: its events, each stream's record at the end, or that there is none, and the figure that a question for the
-- stream then gives
pub record Run : Type 0 where
  pub events : List Event
  pub records : ℕ → Option Stream
  pub figures : ℕ → ℕ

-- a stream's own events
abbrev pub own_events : ℕ → List Event → List Event
own_events n = keep (belongs n)

-- the steps of events, with their answer rooms
abbrev pub steps_of : List Event → List Step
steps_of = map (λ (e : Event). e.step)

-- of a stream, and from before a step number
abbrev pub older : ℕ → ℕ → Pending → Bool
older n k p = eqb p.stream n && ltb p.step_number k

-- bytes that are whole answers, one after the other
abbrev pub InWholeAnswers : List Event → Type 0
InWholeAnswers [] = Unit {0}
InWholeAnswers (e ∷ es) = (rewritten (answers_of e) ≡ e.bytes) × (e.written ≡ length e.bytes) × InWholeAnswers es

-- `run` is what the whole list shows, `alone` what any steps show that are run by themselves
pub record Condition3 (run : Run) (alone : List Step → Run) : Type 0 where
  -- Where none of its creations was answered 'out of memory', a stream's results, byte counts, written bytes, final record and figure are those
  -- of its own steps, with the same rooms, run alone.
  pub isolated : (n : ℕ) → any_of out_of_memory_at (own_events n run.events) ≡ false
      → (own_events n run.events ≡ (alone (steps_of (own_events n run.events))).events)
      × (run.records n ≡ (alone (steps_of (own_events n run.events))).records n)
      × (run.figures n ≡ (alone (steps_of (own_events n run.events))).figures n)
  -- The bytes of each step are exactly the answers that are read in them, and its byte count is how many bytes they are.
  pub whole_answers : InWholeAnswers run.events
  -- Each step writes exactly one answer for each pending one that it completes, in order and under its ticket, and then its own.
  pub answered : AsExpected 0 [] run.events
  -- What stays pending is, apart from step numbers, exactly the Queued buffers and pending drains of the records, duplicates counted.
  pub pending_exactly : (n : ℕ) (p : Outstanding → Bool) → how_many p (outstanding_to n (ledger_of run.events)) ≡ how_many p (outstanding_in (run.records n))
  -- A stream's figure is how many these are.
  pub figure_exactly : (n : ℕ) → run.figures n ≡ length (outstanding_to n (ledger_of run.events))
  -- The answer to an accepted queueing or drain was given once, or is pending once.
  pub once : (before later : List Event) (e : Event) → run.events ≡ before ++ e ∷ later → accepted e ≡ true → is_none (awaited_by e.step.act) ≡ false
      → answers_to (length before) 0 [] run.events + how_many (of_step (length before)) (ledger_of run.events) ≡ 1
  -- After an accepted destruction nothing of its stream from before it is pending. Nothing is added after it either, since its number is spent
  -- (`SpentForGood` in Promises).
  pub destroyed : (before later : List Event) (e : Event) (t : ℕ) (f : List ℕ) → run.events ≡ before ++ e ∷ later → e.step.act ≡ command t f
      → field 4 f 0 ≡ 0x0102 → accepted e ≡ true → keep (older (field 4 f 4) (length before)) (ledger_of run.events) ≡ []

-- Over devices

-- a list on a fresh device
abbrev pub on_device : List Step → Run
on_device ss =
    let left = (final fresh ss).places in
    record { events = events_of fresh ss; records = λ n. record_of n left; figures = λ n. pending_of (record_of n left) }

-- condition 3 for every list in the host's types
abbrev pub OnDevices : Type 0
OnDevices = (ss : List Step) → good_steps ss ≡ true → Condition3 (on_device ss) on_device

-- Over tables: the words t are made fresh, whatever stands in them and behind them, and the alone run begins in other words u

-- a list on the table t, made fresh
abbrev pub on_table : Layout → List ℕ → List Step → Run
on_table L t ss =
    let start = (freshen L t).table in
    let left = table_final L start ss in
    record { events = table_events L start ss; records = λ n. record_of n (L.decode (take table_words left)).places; figures = λ n. L.figure left n }

-- condition 3 for every list, and the table is valid at its end
abbrev pub OnTables : Layout → Type 0
OnTables L =
    (t u : List ℕ) (ss : List Step) → table_words ≤ length t → table_words ≤ length u → good_steps ss ≡ true
    → Condition3 (on_table L t ss) (on_table L u) × (valid L (table_final L (freshen L t).table ss) ≡ true)
