-- What a line's step gives back, in the form in which the code has it.
use mathlib.Core.Path.{◌≡◌, refl, sym, ap, ◌∙◌, subst}
use mathlib.Core.Bool.{Bool, true, false, cond}
use mathlib.Core.List.{List, []}
use Prim.Native.Nat.{ℕ, ◌+◌, ◌≤◌, ◌<◌}
use native.Mathlib.Omega.{arith}
use lib.ListN.{length, take, length-take}
use Rattle.laws.specs.Stores.{Wrote}
use Rattle.laws.proofs.Stores.{wrote_none}
use Rattle.laws.specs.Lists.{is_empty}
use Rattle.laws.proofs.Lists.{no_element, empty_is}
use Rattle.laws.proofs.Tests.{ne_true}
use Rattle.model.specs.Numbers.{answer_room}
use Rattle.model.specs.Steps.{Act}
use Rattle.model.specs.Tables.{Layout, Effect, effect}
use Rattle.model.proofs.Unchanged.{writes_at_most_lem}
use Rattle.table.specs.Blocks.{layout}
use Rattle.protocol.specs.declared.outcome.Refusal.{Refusal}
use Rattle.protocol.specs.declared.outcome.Refusal.TheVariants.{ShortTable, InvalidTable, ShortRoom, ShortCommand, UnexpectedReport, BadFlags, NoFrame}
use Rattle.protocol.specs.Refusals.{refusal_number}
use Rattle.protocol.specs.contracts.outcome.Refusal.{the_type}
use denote.Enum.Declared.{tag_of}
use Rattle.line.specs.Line.{Line, step_line, refused_line, line_of}
use Rattle.line.specs.Split.{Split, split}
use Rattle.line.specs.Reading.{Reader, Call, on_split, on_piece, last_step}
use Rattle.line.specs.Log.{Logged, refusal_line, Whole, shown, line_step}
use Rattle.line.specs.Promises.{good_line}
use Rattle.replay.specs.Fed.{Logs, Did}
use Rattle.replay.specs.declared.Fed.{Fed}
use Rattle.line.proofs.Cutting.{uses_some}
use Rattle.line.proofs.Shown.{steps_are_good, writes_answers_lem, line_step_lem, line_refused_lem}

-- a line that is a step: what was carried out of it in the answer room
module _ (L : Layout) (t line room : List ℕ) (a : Act) (is : line_of line ≡ step_line a) (long : answer_room ≤ length room)
    (refusal written : ℕ) (t' room' : List ℕ) (e : record { refusal = refusal; written = written; table = t'; room = room' } ≡ effect L t a room) where
  pub few_bytes_lem : written ≤ 1056
  few_bytes_lem = subst (λ (x : Effect). x.written ≤ 1056) (sym e) (writes_at_most_lem L t a room)

  pub short : length (take written room') ≤ 1056
  short = rw (length-take written room') (omega (arith, few_bytes_lem))

  pub whole_answers_lem : Whole (take written room')
  whole_answers_lem =
      subst (λ (x : Effect). Whole (take x.written x.room)) (sym e)
      (writes_answers_lem L t a room (subst (λ (l : Line). good_line l ≡ true) is (steps_are_good line)))

  pub logged : {out out' : List ℕ} {r : ℕ} → Wrote out out' 0 r (shown refusal (take written room')) → Logs (line_step L t line) r t' out out'
  logged {out} {out'} {r} w =
      subst (λ (x : Logged). Logs x r t' out out')
      (ap (λ (x : Effect). record { text = shown x.refusal (take x.written x.room); table = x.table }) e ∙ sym (line_step_lem L t line room a is long))
      (record { wrote = w; table = refl })

-- what is shown of a step that is refused; the number is cast from the variant in the code
pub shown_refused : (e : Refusal) (bytes : List ℕ) → refusal_line (tag_of the_type e + 1) ≡ shown (refusal_number e) bytes
shown_refused ShortTable bytes = refl
shown_refused InvalidTable bytes = refl
shown_refused ShortRoom bytes = refl
shown_refused ShortCommand bytes = refl
shown_refused UnexpectedReport bytes = refl
shown_refused BadFlags bytes = refl
shown_refused NoFrame bytes = refl

-- a line that is refused
pub logged_refused : (L : Layout) (t line : List ℕ) (k : ℕ) {out out' : List ℕ} {r : ℕ} → line_of line ≡ refused_line k → Wrote out out' 0 r (refusal_line k)
    → Logs (line_step L t line) r t out out'
logged_refused L t line k {out} {out'} {r} e w = subst (λ (x : Logged). Logs x r t out out') (sym (line_refused_lem L t line k e)) (record { wrote = w; table = refl })

-- A call on a piece

module _ (L : Layout) (t line piece kept out : List ℕ) where
  -- the line has not ended
  pub call_open : record { ended = false; used = length piece; line = kept } ≡ split line piece
      → Did (on_piece L (record { table = t; line = line }) piece) (record { used = length piece; written = 0 }) t kept out out
  unfolding on_piece
  call_open e =
      subst (λ (s : Split). Did (on_split L t s) (record { used = length piece; written = 0 }) t kept out out) e
      (record { used = refl; wrote = wrote_none out 0; table = refl; line = refl })

  -- it has, and was stepped
  pub call_ended : {used n : ℕ} {out' t' cleared : List ℕ} → record { ended = true; used = used; line = kept } ≡ split line piece → cleared ≡ [] → Logs (line_step L t kept) n t' out out'
      → Did (on_piece L (record { table = t; line = line }) piece) (record { used = used; written = n }) t' cleared out out'
  unfolding on_piece
  call_ended {used} {n} {out'} {t'} {cleared} e f w =
      subst (λ (s : Split). Did (on_split L t s) (record { used = used; written = n }) t' cleared out out') e
      (record { used = refl; wrote = w.wrote; table = w.table; line = f })

-- The end of the log

module _ (L : Layout) (t line : List ℕ) where
  pub end_empty : {out : List ℕ} → length line ≡ 0 → Logs (last_step L (record { table = t; line = line })) 0 t out out
  unfolding last_step
  end_empty {out} none = rw (no_element line none) (record { wrote = wrote_none out 0; table = refl })

  pub end_line : {out out' t' : List ℕ} {n : ℕ} → (length line ≡ 0 → ⊥) → Logs (line_step L t line) n t' out out' → Logs (last_step L (record { table = t; line = line })) n t' out out'
  unfolding last_step
  end_line some w = rw (ne_true (is_empty line) (λ e. some (ap length (empty_is line e)))) w

-- what a call did, of an equal call
pub as_call : {c d : Call} {r : Fed} {t held out out' : List ℕ} → c ≡ d → Did c r t held out out' → Did d r t held out out'
as_call {r = r} {t} {held} {out} {out'} e x = subst (λ (y : Call). Did y r t held out out') e x

pub as_logged : {s u : Logged} {r : ℕ} {t out out' : List ℕ} → s ≡ u → Logs s r t out out' → Logs u r t out out'
as_logged {r = r} {t} {out} {out'} e x = subst (λ (y : Logged). Logs y r t out out') e x

-- a call uses no more than its piece has, and a byte or more where it has any
cond_used : (b : Bool) (x y : Call) (n : ℕ) → x.used ≡ n → y.used ≡ n → (cond b x y).used ≡ n
cond_used true x y n e f = e
cond_used false x y n e f = f

pub used_some : {c : Fed} {t line out out' : List ℕ} (r : Reader) (piece : List ℕ) → Did (on_piece layout r piece) c t line out out' → (c.used ≤ length piece) × (0 < length piece → 0 < c.used)
unfolding on_piece
used_some r piece did =
    let s = split r.line piece in
    subst (λ (n : ℕ). (n ≤ length piece) × (0 < length piece → 0 < n)) (sym (did.used ∙ cond_used s.ended _ _ s.used refl refl)) (uses_some r.line piece)
