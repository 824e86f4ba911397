-- A step's whole effect on what the host lends, over any layout of devices in words. The one layout that is used is the table's.
use Rattle.std.specs.Prelude.{ℕ, ◌≡◌, Bool, true, cond, ◌&&◌, List, [], ◌∷◌, ◌++◌, length, take, drop, eqb, ltb}
use Rattle.laws.specs.Lists.{same}
use Rattle.model.specs.Numbers.{table_words}
use Rattle.model.specs.Device.{Device, fresh, record_of, pending_of}
use Rattle.model.specs.Answers.{bytes_of}
use Rattle.model.specs.Steps.{Act, Step, DeviceReply, perform, host_refusal, Event}
use Rattle.model.specs.WellFormed.{well_formed}

-- the words of a device, the device that words stand for, and the figure that a question for a stream gives on a table: how many answers are
-- pending to it (document 02)
pub record Layout : Type 0 where
  pub encode : Device → List ℕ
  pub decode : List ℕ → Device
  pub figure : List ℕ → ℕ → ℕ

-- the laws of a layout: a well-formed device fills the used words, and is read back from them; on its words, whatever stands behind them, a question gives
-- what going through every resource and drain gives
pub record Lawful (L : Layout) : Type 0 where
  pub size : (d : Device) → well_formed d ≡ true → length (L.encode d) ≡ table_words
  pub back : (d : Device) → well_formed d ≡ true → L.decode (L.encode d) ≡ d
  pub counts : (d : Device) → well_formed d ≡ true → (rest : List ℕ) (n : ℕ) → L.figure (L.encode d ++ rest) n ≡ pending_of (record_of n d.places)

-- the result (refusal number or 0, bytes written), and what stands in the lent table and in the lent room afterwards
pub record Effect : Type 0 where
  pub refusal : ℕ
  pub written : ℕ
  pub table : List ℕ
  pub room : List ℕ

-- a refusal writes nothing and changes nothing
abbrev pub untouched : ℕ → List ℕ → List ℕ → Effect
untouched k t room = record { refusal = k; written = 0; table = t; room = room }

-- making fresh, which is document 01's term: the result and the table
pub record Freshened : Type 0 where
  pub refusal : ℕ
  pub table : List ℕ

module _ (L : Layout) where
  -- the first words are those of the well-formed device that they stand for
  unfoldable pub valid : List ℕ → Bool
  valid t =
      let d = L.decode (take table_words t) in
      well_formed d && same (take table_words t) (L.encode d)

  -- the new device's words over the used ones, the answers' bytes over the first of the room; all behind them stays
  abbrev pub carried_out : DeviceReply → List ℕ → List ℕ → Effect
  carried_out o t room =
      let bytes = bytes_of o.answers in
      record {
        refusal = o.refusal;
        written = length bytes;
        table = L.encode o.device ++ drop table_words t;
        room = bytes ++ drop (length bytes) room;
      }

  -- refusals 1, 3 and 2, then the step itself, with 4, 5 and 6
  unfoldable pub effect : List ℕ → Act → List ℕ → Effect
  effect t a room =
      let k = host_refusal (length t) (length room) (valid t) in
      cond (eqb k 0) (carried_out (perform (L.decode (take table_words t)) a) t room) (untouched k t room)

  -- refusal 1, or 0 and the words of no stream and no spent number over the used ones
  unfoldable pub freshen : List ℕ → Freshened
  freshen t = cond (ltb (length t) table_words) (record { refusal = 1; table = t }) (record { refusal = 0; table = L.encode fresh ++ drop table_words t })

  -- Lists of steps: each gets the table that the last one left

  -- a step of a list on a table
  abbrev pub effect_of : List ℕ → Step → Effect
  effect_of t s = effect t s.act s.room

  -- its event: what the host gets back
  abbrev pub table_event : Step → Effect → Event
  table_event s e = record { step = s; refusal = e.refusal; written = e.written; bytes = take e.written e.room }

  -- the events of a list
  abbrev pub table_events : List ℕ → List Step → List Event
  table_events t [] = []
  table_events t (s ∷ ss) = table_event s (effect_of t s) ∷ table_events (effect_of t s).table ss

  -- the table at its end
  abbrev pub table_final : List ℕ → List Step → List ℕ
  table_final t [] = t
  table_final t (s ∷ ss) = table_final (effect_of t s).table ss
