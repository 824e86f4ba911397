-- Over any layout: what a step leaves of the table and the room, and condition 3 over tables.
use Prim.Native.Nat.{ℕ, ◌≤◌}
use native.Mathlib.Omega.{arith}
use mathlib.Core.Path.{◌≡◌, refl, sym, ap, ap₂, ◌∙◌, subst}
use mathlib.Core.Bool.{Bool, true}
use mathlib.Core.List.{List, [], ◌∷◌, ◌++◌, head-eq_of_cons-eq, tail-eq_of_cons-eq}
use lib.ListN.{length, take, drop, length-append, length-drop, take-append-drop}
use lib.Seq.{take_at, drop_at}
use lib.Dec.{eqb, ltb}
use borrow.Author.Tests.{lt-ltb, ltb-false, le-ltb}
use Rattle.laws.specs.Lists.{all_of, is_empty, same}
use Rattle.laws.proofs.Tests.{never, both, and_left, and_right}
use Rattle.laws.proofs.Lists.{decide, all_keep}
use Rattle.laws.proofs.Same.{same_refl, same_true}
use Rattle.model.specs.Numbers.{table_words, answer_room}
use Rattle.model.specs.Device.{Device, fresh, record_of, pending_of}
use Rattle.model.specs.Answers.{bytes_of}
use Rattle.model.specs.Steps.{Step, DeviceReply, perform, host_refusal, step_on, Event, event_of, events_of, final}
use Rattle.model.specs.WellFormed.{well_formed, good_act, good_steps}
use Rattle.model.specs.Tables.{Layout, Lawful, Effect, untouched, valid, carried_out, effect, Freshened, freshen, effect_of, table_event, table_events, table_final}
use Rattle.model.specs.Promises.{FreshShort, FreshLong}
use Rattle.model.specs.Condition3.{Run, own_events, steps_of, Condition3, on_device, on_table, OnTables}
use Rattle.model.proofs.WellFormed.{well_fresh, stays_well_formed}
use Rattle.model.proofs.Condition3.{condition3}
use Rattle.model.proofs.Seen.{step_runs, step_refused, room_refusal}

-- The host's first tests

pub record Lent (words room : ℕ) (v : Bool) : Type 0 where
  pub enough : table_words ≤ words
  pub spacious : answer_room ≤ room
  pub good : v ≡ true

pub not_refused : (words room : ℕ) (v : Bool) → eqb (host_refusal words room v) 0 ≡ true → Lent words room v
unfolding host_refusal
not_refused words room v e =
    decide (ltb words table_words) (λ w. never (sym (simp w at e))) (λ w.
    decide (ltb room answer_room) (λ r. never (sym (simp (w, r) at e))) (λ r.
    record { enough = ltb-false words table_words w; spacious = ltb-false room answer_room r; good = decide v (λ g. g) (λ g. never (sym (simp (w, r, g) at e))) }))

-- of a table that is long enough and valid only the room is tested
pub valid_refusal : (words room : ℕ) (v : Bool) → table_words ≤ words → v ≡ true → host_refusal words room v ≡ host_refusal table_words room true
unfolding host_refusal
valid_refusal words room v h e = simp (le-ltb words table_words h, e)

-- The words of a device, with any words behind them

module _ (L : Layout) (law : Lawful L) (rest : List ℕ) where
  abbrev pub words_of : Device → List ℕ
  words_of d = L.encode d ++ rest

  module _ (d : Device) (h : well_formed d ≡ true) where
    used : take table_words (words_of d) ≡ L.encode d
    used = take_at (L.encode d) rest table_words (law.size d h)

    behind : drop table_words (words_of d) ≡ rest
    behind = drop_at (L.encode d) rest table_words (law.size d h)

    device_is : L.decode (take table_words (words_of d)) ≡ d
    device_is = ap L.decode used ∙ law.back d h

    long : table_words ≤ length (words_of d)
    long = omega (arith, length-append (L.encode d) rest, law.size d h)

    pub words_valid : valid L (words_of d) ≡ true
    unfolding valid
    words_valid = both (ap well_formed device_is ∙ h) (ap₂ same used (ap L.encode device_is) ∙ same_refl (L.encode d))

    -- a step on the words does what it does on the device
    same_effect : (s : Step) → (table_event L s (effect_of L (words_of d) s) ≡ event_of s (step_on d s)) × ((effect_of L (words_of d) s).table ≡ words_of (step_on d s).device)
    unfolding effect
    same_effect s =
        let t = words_of d in
        let k : host_refusal (length t) (length s.room) (valid L t) ≡ room_refusal s = valid_refusal (length t) (length s.room) (valid L t) long words_valid in
        decide (eqb (room_refusal s) 0)
        (λ e.
        let o = perform d s.act in
        let is : effect_of L t s ≡ carried_out L o t s.room = simp (k, e) (ap (λ (x : Device). carried_out L (perform x s.act) t s.room) device_is) in (
          ap (table_event L s) is ∙ (λ i. record {
            step = s;
            refusal = o.refusal;
            written = length (bytes_of o.answers);
            bytes = take_at (bytes_of o.answers) (drop (length (bytes_of o.answers)) s.room) (length (bytes_of o.answers)) refl i;
          }) ∙ ap (event_of s) (sym (step_runs d s e)),
          ap (λ (x : Effect). x.table) is ∙ ap (λ (x : List ℕ). L.encode o.device ++ x) behind ∙ ap (λ (x : DeviceReply). words_of x.device) (sym (step_runs d s e)),
        ))
        (λ e.
        let is : effect_of L t s ≡ untouched (room_refusal s) t s.room = simp (k, e) in
        (ap (table_event L s) is ∙ ap (event_of s) (sym (step_refused d s e)), ap (λ (x : Effect). x.table) is ∙ ap (λ (x : DeviceReply). words_of x.device) (sym (step_refused d s e))))

  -- and so over a list

  same_log : (d : Device) (ss : List Step) → well_formed d ≡ true → good_steps ss ≡ true → table_events L (words_of d) ss ≡ events_of d ss
  same_log d [] h m = refl
  same_log d (s ∷ ss) h m =
      let here = same_effect d h s in
      ap₂ (λ (x : Event) (y : List Event). x ∷ y) here.0
      (ap (λ (t : List ℕ). table_events L t ss) here.1
      ∙ same_log (step_on d s).device ss (stays_well_formed d s h (and_left (good_act s.act) (good_steps ss) m)) (and_right (good_act s.act) (good_steps ss) m))

  same_final : (d : Device) (ss : List Step) → well_formed d ≡ true → good_steps ss ≡ true → table_final L (words_of d) ss ≡ words_of (final d ss)
  same_final d [] h m = refl
  same_final d (s ∷ ss) h m =
      ap (λ (t : List ℕ). table_final L t ss) (same_effect d h s).1
      ∙ same_final (step_on d s).device ss (stays_well_formed d s h (and_left (good_act s.act) (good_steps ss) m)) (and_right (good_act s.act) (good_steps ss) m)

pub final_well : (d : Device) (ss : List Step) → well_formed d ≡ true → good_steps ss ≡ true → well_formed (final d ss) ≡ true
final_well d [] h m = h
final_well d (s ∷ ss) h m =
    final_well (step_on d s).device ss (stays_well_formed d s h (and_left (good_act s.act) (good_steps ss) m)) (and_right (good_act s.act) (good_steps ss) m)

-- A valid table stands for a well-formed device

module _ (L : Layout) (t : List ℕ) (v : valid L t ≡ true) where
  abbrev in_table : Device
  in_table = L.decode (take table_words t)

  pub valid_device : well_formed in_table ≡ true
  unfolding valid
  valid_device = and_left (well_formed in_table) (same (take table_words t) (L.encode in_table)) v

  -- its words are those of that device, with those behind them
  pub valid_used : take table_words t ≡ L.encode in_table
  unfolding valid
  valid_used = same_true (take table_words t) (L.encode in_table) (and_right (well_formed in_table) (same (take table_words t) (L.encode in_table)) v)

  pub valid_whole : L.encode in_table ++ drop table_words t ≡ t
  valid_whole = ap (λ (x : List ℕ). x ++ drop table_words t) (sym valid_used) ∙ take-append-drop table_words t

  -- and a list shows the same on both
  pub valid_log : Lawful L → (ss : List Step) → good_steps ss ≡ true → table_events L t ss ≡ events_of in_table ss
  valid_log law ss m = ap (λ (x : List ℕ). table_events L x ss) (sym valid_whole) ∙ same_log L law (drop table_words t) in_table ss valid_device m

  -- and leaves the same
  pub valid_final : (law : Lawful L) (ss : List Step) → good_steps ss ≡ true → table_final L t ss ≡ words_of L law (drop table_words t) (final in_table ss)
  valid_final law ss m = ap (λ (x : List ℕ). table_final L x ss) (sym valid_whole) ∙ same_final L law (drop table_words t) in_table ss valid_device m

-- Condition 3 over tables

fresh_is : (L : Layout) (t : List ℕ) → table_words ≤ length t → freshen L t ≡ record { refusal = 0; table = L.encode fresh ++ drop table_words t }
unfolding freshen
fresh_is L t h = simp (le-ltb (length t) table_words h)

-- a list shows the same on a fresh table as on a fresh device
module _ (L : Layout) (law : Lawful L) (t : List ℕ) (h : table_words ≤ length t) where
  fresh_start : (freshen L t).table ≡ words_of L law (drop table_words t) fresh
  fresh_start = ap (λ (x : Freshened). x.table) (fresh_is L t h)

  pub same_events : (ss : List Step) → good_steps ss ≡ true → table_events L (freshen L t).table ss ≡ events_of fresh ss
  same_events ss m = ap (λ (x : List ℕ). table_events L x ss) fresh_start ∙ same_log L law (drop table_words t) fresh ss well_fresh m

  pub same_table_lem : (ss : List Step) → good_steps ss ≡ true → table_final L (freshen L t).table ss ≡ words_of L law (drop table_words t) (final fresh ss)
  same_table_lem ss m = ap (λ (x : List ℕ). table_final L x ss) fresh_start ∙ same_final L law (drop table_words t) fresh ss well_fresh m

  pub same_run : (ss : List Step) → good_steps ss ≡ true → on_table L t ss ≡ on_device ss
  same_run ss m =
      let records : L.decode (take table_words (table_final L (freshen L t).table ss)) ≡ final fresh ss =
      ap (λ (x : List ℕ). L.decode (take table_words x)) (same_table_lem ss m)
      ∙ device_is L law (drop table_words t) (final fresh ss) (final_well fresh ss well_fresh m) in
      let figures : (n : ℕ) → L.figure (table_final L (freshen L t).table ss) n ≡ pending_of (record_of n (final fresh ss).places) =
      λ n. ap (λ (x : List ℕ). L.figure x n) (same_table_lem ss m) ∙ law.counts (final fresh ss) (final_well fresh ss well_fresh m) (drop table_words t) n in
      λ i. record { events = same_events ss m i; records = λ n. record_of n (records i).places; figures = λ n. figures n i }

  end_valid : (ss : List Step) → good_steps ss ≡ true → valid L (table_final L (freshen L t).table ss) ≡ true
  end_valid ss m = ap (valid L) (same_table_lem ss m) ∙ words_valid L law (drop table_words t) (final fresh ss) (final_well fresh ss well_fresh m)

-- the steps of a stream are steps in the host's types

good_log : (d : Device) (ss : List Step) → good_steps ss ≡ true → all_of (λ (e : Event). good_act e.step.act) (events_of d ss) ≡ true
good_log d [] m = refl
good_log d (s ∷ ss) m = both (and_left (good_act s.act) (good_steps ss) m) (good_log (step_on d s).device ss (and_right (good_act s.act) (good_steps ss) m))

good_steps_lem : (es : List Event) → all_of (λ (e : Event). good_act e.step.act) es ≡ true → good_steps (steps_of es) ≡ true
good_steps_lem [] m = refl
good_steps_lem (e ∷ es) m = both (and_left (good_act e.step.act) _ m) (good_steps_lem es (and_right (good_act e.step.act) _ m))

-- the same run, with another way to run steps alone that shows the same
other_alone : (run : Run) (alone alone' : List Step → Run) → ((n : ℕ) → alone (steps_of (own_events n run.events)) ≡ alone' (steps_of (own_events n run.events)))
    → Condition3 run alone' → Condition3 run alone
other_alone run alone alone' same c =
    record {
      isolated = λ n h.
          let a = c.isolated n h in
          (a.0 ∙ ap (λ (r : Run). r.events) (sym (same n)), a.1 ∙ ap (λ (r : Run). r.records n) (sym (same n)), a.2 ∙ ap (λ (r : Run). r.figures n) (sym (same n)));
      whole_answers = c.whole_answers;
      answered = c.answered;
      pending_exactly = c.pending_exactly;
      figure_exactly = c.figure_exactly;
      once = c.once;
      destroyed = c.destroyed;
    }

pub on_tables : (L : Layout) → Lawful L → OnTables L
on_tables L law t u ss h g m = (
  subst (λ (r : Run). Condition3 r (on_table L u)) (sym (same_run L law t h ss m))
      (other_alone (on_device ss) (on_table L u) on_device
      (λ n. same_run L law u g (steps_of (own_events n (events_of fresh ss))) (good_steps_lem (own_events n (events_of fresh ss)) (all_keep _ _ (events_of fresh ss) (good_log fresh ss m))))
      (condition3 ss m)),
  end_valid L law t h ss m,
)

-- Making fresh

pub fresh_short_lem : (L : Layout) → FreshShort L
unfolding freshen
fresh_short_lem L t h = simp (lt-ltb (length t) table_words h)

pub fresh_long_lem : (L : Layout) → Lawful L → FreshLong L
fresh_long_lem L law t h =
    let rest = drop table_words t in
    let is = fresh_start L law t h in
    record {
      result = fresh_result;
      good = ap (valid L) is ∙ words_valid L law rest fresh well_fresh;
      empty = ap (λ (x : List ℕ). L.decode (take table_words x)) is ∙ device_is L law rest fresh well_fresh;
      rest = ap (drop table_words) is ∙ behind L law rest fresh well_fresh;
      word_count = ap length is ∙ omega (arith, length-append (L.encode fresh) rest, law.size fresh well_fresh, length-drop table_words t);
    }
  where
    fresh_result : (freshen L t).refusal ≡ 0
    fresh_result = ap (λ (x : Freshened). x.refusal) (fresh_is L t h)

-- A list of events at one of them

-- the events before one are those of their own steps, and it is that of its own step on the device that these leave
pub record Parted (d : Device) (before : List Event) (e : Event) : Type 0 where
  pub first : before ≡ events_of d (steps_of before)
  pub next_is : e ≡ event_of e.step (step_on (final d (steps_of before)) e.step)
  pub first_good : good_steps (steps_of before) ≡ true
  pub next_good : good_act e.step.act ≡ true

pub parted : (d : Device) (ss : List Step) (before later : List Event) (e : Event) → good_steps ss ≡ true → events_of d ss ≡ before ++ e ∷ later → Parted d before e
parted d [] [] later e m split = never (ap is_empty split)
parted d [] (y ∷ before) later e m split = never (ap is_empty split)
parted d (s ∷ ss) [] later e m split =
    subst (Parted d []) (head-eq_of_cons-eq split) (record { first = refl; next_is = refl; first_good = refl; next_good = and_left (good_act s.act) (good_steps ss) m })
parted d (s ∷ ss) (y ∷ before) later e m split =
    let rest = parted (step_on d s).device ss before later e (and_right (good_act s.act) (good_steps ss) m) (tail-eq_of_cons-eq split) in
    subst (λ (x : Event). Parted d (x ∷ before) e) (head-eq_of_cons-eq split)
    (record {
      first = ap (λ r. event_of s (step_on d s) ∷ r) rest.first;
      next_is = rest.next_is;
      first_good = both (and_left (good_act s.act) (good_steps ss) m) rest.first_good;
      next_good = rest.next_good;
    })
