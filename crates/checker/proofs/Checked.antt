-- Each way through the check of a line, of a piece, and of the end of a log, in the form in which the code has it.
use mathlib.Core.Path.{◌≡◌, refl, ap, ◌∙◌}
use mathlib.Core.Bool.{Bool, true, false}
use mathlib.Core.List.{List, []}
use Prim.Native.Nat.{ℕ, suc, ◌-◌, ◌≤◌, ◌<◌, min}
use native.Mathlib.Omega.{arith}
use lib.ListN.{length, take, drop}
use Rattle.std.specs.Prelude.{Result, Ok, Err, is_err}
use Rattle.laws.specs.Lists.{is_empty}
use Rattle.laws.specs.Parts.{part, zeros}
use Rattle.laws.specs.Stores.{Wrote}
use Rattle.laws.proofs.Stores.{take_sets, wrote_length}
use Rattle.laws.proofs.Lists.{no_element, empty_is}
use Rattle.laws.proofs.Tests.{ne_true}
use Rattle.model.specs.Numbers.{table_words}
use Rattle.model.specs.Tables.{Layout, Freshened, freshen}
use Rattle.line.specs.Split.{lines_in, line_end, Split, split}
use Rattle.line.specs.Log.{line_step, fresh_table}
use Rattle.line.proofs.Cutting.{uses_some}
use Rattle.line.proofs.Lines.{first_line_lem}
use Rattle.replay.specs.Fed.{Logs}
use Rattle.log_verdict.specs.Kinds.{question_kind, answer_kind, kind_of, same_line}
use Rattle.log_verdict.specs.Checking as verdict
use Rattle.log_verdict.specs.Checking.{CheckState, missing, extra, different, wrong_line, accepted_log, right_so_far, stopped_at, check_by, check_line, conclude}
use Rattle.log_verdict.specs.InPieces.{CheckReader, last_number, in64, check_in64, check_lines_in64, check_piece, check_last}
use Rattle.checker.specs.Meant.{fault_meant, due_in, state_in, InRange, has_stopped}
use Rattle.checker.specs.Took.{Took}
use Rattle.checker.specs.declared.lines.Due.{Due}
use Rattle.checker.specs.declared.lines.TakenPiece.{TakenPiece}
use Rattle.checker.specs.declared.WrongLine.{WrongLine}
use Rattle.checker.proofs.DueText.{due_none, due_first}

-- a line's number has 64 bits in the code
fits_64 : {n : ℕ} → n ≤ last_number → n ≡ min n last_number
fits_64 h = omega arith

-- whether a line was wrong
pub stopped_is : (r : Result Due WrongLine) (t text : List ℕ) → is_err r ≡ has_stopped (state_in r t text)
stopped_is (Ok d) t text = refl
stopped_is (Err w) t text = refl

-- a state in its range is one of 64 bits
in_type : (r : Result Due WrongLine) → InRange r → (t text : List ℕ) → state_in r t text ≡ in64 (state_in r t text)
in_type (Ok d) h t text = ap (right_so_far t (due_in d.at d.end text)) (fits_64 h.1)
in_type (Err w) h t text = ap (stopped_at (fault_meant w.fault)) (fits_64 h)

-- what was written is what stands there
wrote_there : {d e : List ℕ} {r : ℕ} {xs : List ℕ} → Wrote d e 0 r xs → r ≤ length e → due_in 0 r e ≡ lines_in xs
unfolding due_in
wrote_there {d} {e} {r} {xs} w h =
    let n : r ≡ length xs = omega (arith, w.next) in
    ap lines_in (rw (n, w.whole) (take_sets d xs (omega (arith, wrote_length w))))

-- what a fault is of its line
pub wrong_is : {w v : WrongLine} → w ≡ v → stopped_at (fault_meant w.fault) w.line ≡ stopped_at (fault_meant v.fault) v.line
wrong_is e = ap (λ (x : WrongLine). stopped_at (fault_meant x.fault) x.line) e

-- the first line
pub starts_clear : (t text : List ℕ) → right_so_far t (due_in 0 0 text) 1 ≡ right_so_far t [] 1
starts_clear t text = rw (due_none 0 0 text (omega arith))

pub fresh_made : (L : Layout) {r : ℕ} {t : List ℕ} → record { refusal = r; table = t } ≡ freshen L (zeros table_words) → t ≡ fresh_table L
fresh_made L e = ap (λ (f : Freshened). f.table) e

-- A line where nothing was wrong so far

module _ (L : Layout) (t text line : List ℕ) (d : Due) (count : d.line ≤ last_number) where
  -- a line that is neither
  pub neither_stops : (f : verdict.Fault) → stopped_at f d.line ≡ in64 (stopped_at f d.line)
  neither_stops f = ap (stopped_at f) (fits_64 count)

  -- a question: an answer is due, or none is
  pub question_early : d.at < d.end → d.end ≤ length text → stopped_at missing d.line ≡ in64 (check_by L question_kind t (due_in d.at d.end text) d.line line)
  question_early h k = rw (due_first d.at d.end text h k) (neither_stops missing)

  pub question_asked : {t' text' : List ℕ} {r : ℕ} {n : Due} → d.end ≤ d.at → Logs (line_step L t line) r t' text text' → r ≤ length text' → n ≡ record { line = min (suc d.line) last_number; at = 0; end = r }
      → right_so_far t' (due_in n.at n.end text') n.line ≡ in64 (check_by L question_kind t (due_in d.at d.end text) d.line line)
  question_asked h logs k m = rw (due_none d.at d.end text h, m, logs.table, wrote_there logs.wrote k)

  -- an answer: none is due, or the first that is has other bytes, or is this one
  pub answer_extra : d.end ≤ d.at → stopped_at extra d.line ≡ in64 (check_by L answer_kind t (due_in d.at d.end text) d.line line)
  answer_extra h = rw (due_none d.at d.end text h) (neither_stops extra)

  module _ (begins : d.at < d.end) (fits : d.end ≤ length text) where
    abbrev those : List ℕ
    those = part d.at (d.end - d.at) text

    pub answer_other : same_line line (take (line_end those) those) ≡ false → stopped_at different d.line ≡ in64 (check_by L answer_kind t (due_in d.at d.end text) d.line line)
    answer_other e = rw (due_first d.at d.end text begins fits, e) (neither_stops different)

    pub answer_due : {n : Due} → same_line line (take (line_end those) those) ≡ true → n ≡ record { line = min (suc d.line) last_number; at = d.end - length (drop (suc (line_end those)) those); end = d.end }
        → right_so_far t (due_in n.at n.end text) n.line ≡ in64 (check_by L answer_kind t (due_in d.at d.end text) d.line line)
    answer_due e m = rw (due_first d.at d.end text begins fits, e, m)

-- A line, whatever was before it

module _ (L : Layout) (t text line : List ℕ) where
  pub checked_next : {r : Result Due WrongLine} {d : Due} {i j : CheckState} → state_in r t text ≡ i → r ≡ Ok d → j ≡ in64 (check_by L (kind_of line) t (due_in d.at d.end text) d.line line) → j ≡ check_in64 L i line
  unfolding check_in64 check_line
  checked_next v e h = h ∙ rw (← v, e)

  -- where the check has stopped, it stays so
  pub checked_still : {r : Result Due WrongLine} {w : WrongLine} {i : CheckState} → state_in r t text ≡ i → r ≡ Err w → InRange r → i ≡ check_in64 L i line
  unfolding check_in64 check_line
  checked_still {r} {w} v e h = let count : w.line ≤ last_number = rw e at h in rw (← v, e) (ap (stopped_at (fault_meant w.fault)) (fits_64 count))

-- the first of the lines that are left was checked
pub checked_first : (L : Layout) (i : CheckState) (rest : List ℕ) {j k : CheckState} → 0 < length rest → j ≡ check_in64 L i (take (line_end rest) rest) → check_lines_in64 L i (lines_in rest) ≡ k
    → check_lines_in64 L j (lines_in (drop (suc (line_end rest)) rest)) ≡ k
unfolding check_lines_in64
checked_first L i rest some e h = rw e (rw (first_line_lem rest some) at h)

pub checked_all : (L : Layout) {i k : CheckState} {rest : List ℕ} → rest ≡ [] → check_lines_in64 L i (lines_in rest) ≡ k → i ≡ k
unfolding check_lines_in64 lines_in
checked_all L e h = rw e at h

-- The end of the log: an answer is due, or none is, or a line was wrong

module _ (t text : List ℕ) {r : Result Due WrongLine} {i : CheckState} (view : state_in r t text ≡ i) where
  pub end_due : {d : Due} → r ≡ Ok d → InRange r → length text ≡ 2112 → d.at < d.end → wrong_line missing d.line ≡ conclude i
  end_due {d} e within size h = let range : (d.end ≤ 2112) × (d.line ≤ last_number) = rw e at within in rw (← view, e, due_first d.at d.end text h (omega arith))

  pub end_clear : {d : Due} → r ≡ Ok d → d.end ≤ d.at → accepted_log ≡ conclude i
  end_clear {d} e h = rw (← view, e, due_none d.at d.end text h)

-- A call on a piece

-- what is kept of a line does not change how many bytes are used
used_any : (line piece : List ℕ) → (split line piece).used ≡ (split [] piece).used
unfolding split
used_any line piece = refl

module _ (L : Layout) (c : CheckReader) (piece : List ℕ) {ended : Bool} {used : ℕ} {kept : List ℕ} (e : record { ended = ended; used = used; line = kept } ≡ split c.line piece) where
  pub used_is : used ≡ (split [] piece).used
  used_is = ap (λ (s : Split). s.used) e ∙ used_any c.line piece

  pub took_some : (used ≤ length piece) × (0 < length piece → 0 < used)
  took_some = rw used_is (uses_some [] piece)

  -- the line has not ended
  pub took_open : ended ≡ false → record { state = c.state; line = kept } ≡ check_piece L c piece
  unfolding check_piece
  took_open f = rw (← e, f)

  -- it has, and was checked
  pub took_ended : {j : CheckState} {cleared : List ℕ} → ended ≡ true → j ≡ check_in64 L c.state kept → cleared ≡ [] → record { state = j; line = cleared } ≡ check_piece L c piece
  unfolding check_piece
  took_ended f q r = rw (← e, f, q, r)

-- what is left, part by part
pub took : {c : CheckReader} {piece t text kept : List ℕ} {r : TakenPiece} → r.used ≡ (split [] piece).used → record { state = state_in r.state t text; line = kept } ≡ c → Took c piece r t text kept
took u e = record { used = u; state = ap (λ (x : CheckReader). x.state) e; line = ap (λ (x : CheckReader). x.line) e }

pub took_whole : {c : CheckReader} {piece t text kept : List ℕ} {r : TakenPiece} → Took c piece r t text kept → record { state = state_in r.state t text; line = kept } ≡ c
took_whole w = rw (w.state, w.line)

-- the last line
module _ (L : Layout) (c : CheckReader) where
  pub last_none : length c.line ≡ 0 → c.state ≡ check_last L c
  unfolding check_last
  last_none none = rw (no_element c.line none)

  pub last_checked : (length c.line ≡ 0 → ⊥) → check_in64 L c.state c.line ≡ check_last L c
  unfolding check_last
  last_checked some = rw (ne_true (is_empty c.line) (λ e. some (ap length (empty_is c.line e))))
