-- The line that is named is the first wrong one. How the check stands behind lines is what they say (`Stands`): the table and what is due where nothing was wrong,
-- else the first wrong line.
use mathlib.Core.Path.{◌≡◌, refl, sym, ap, ap₂, ◌∙◌, subst}
use mathlib.Core.Bool.{Bool, true, cond, false≢true}
use mathlib.Core.List.{List, [], ◌∷◌, ◌++◌, append_assoc, append-nil, nil≢cons, cons≢nil, head-eq_of_cons-eq, tail-eq_of_cons-eq}
use Prim.Native.Nat.{ℕ, suc, ◌+◌, ◌≤◌}
use native.Mathlib.Omega.{arith}
use lib.ListN.{length, drop, length-append}
use lib.Seq.{drop-drop}
use Rattle.laws.specs.Lists.{all_of}
use Rattle.laws.proofs.Tests.{both, and_left, and_right}
use Rattle.laws.proofs.Lists.{decide, all_append, all_drop}
use Rattle.model.specs.Tables.{Layout}
use Rattle.line.specs.Split.{lines_in}
use Rattle.line.specs.Log.{line_step, fresh_table}
use Rattle.line.proofs.Cutting.{no_ten, lines_clean, lines_few}
use Rattle.log_verdict.specs.Kinds.{same_line, LineKind, question_kind, answer_kind, neither_kind, kind_of, question_by, answer_by, is_question, is_answer}
use Rattle.log_verdict.specs.Checking.{Fault, different, LogVerdict, accepted_log, wrong_line, line_named, CheckState, right_so_far, stopped_at, answers_on, check_by, check_line, check_lines, opening, conclude, log_verdict}
use Rattle.log_verdict.specs.Accepted.{table_from, answers_behind, Accepted}
use Rattle.log_verdict.specs.Wrong.{WrongAt, is_neither, question_stands, end_stands, none_is_due, other_bytes, DueAfter, no_line_yet, behind_frame, Begun, FirstWrong}
use Rattle.log_verdict.specs.Promises.{NamedExactly, LineWithin}
use Rattle.log_verdict.proofs.LineKinds.{line_other, line_alike, is_answer_lem}
use Rattle.log_verdict.proofs.Texts.{as_log, lines_back, text_answers}
use Rattle.log_verdict.proofs.Right.{stopped_all, stopped_never, wrong_never, answer_leaves, no_line, right_lines, lines_right}

-- Lines one after the other

pub check_append : (L : Layout) (j : CheckState) (lines more : List (List ℕ)) → check_lines L j (lines ++ more) ≡ check_lines L (check_lines L j lines) more
unfolding check_lines
check_append L j [] more = refl
check_append L j (line ∷ lines) more = check_append L (check_line L j line) lines more

module _ (L : Layout) where
  table_append : (t : List ℕ) (lines : List (List ℕ)) (line : List ℕ) → table_from L t (lines ++ (line ∷ [])) ≡ (line_step L (table_from L t lines) line).table
  unfolding table_from
  table_append t [] line = refl
  table_append t (l ∷ lines) line = table_append (line_step L t l).table lines line

-- a wrong line stops the check, whatever follows it, and so does the end
module _ (L : Layout) (t : List ℕ) (n : ℕ) where
  wrong_stops : {due others : List (List ℕ)} {line : List ℕ} {f : Fault} → WrongAt due (line ∷ others) f → check_line L (right_so_far t due n) line ≡ stopped_at f n
  unfolding check_line
  wrong_stops (is_neither {due} {line} k) = ap (λ (x : LineKind). check_by L x t due n line) k
  wrong_stops (question_stands {d} {due} {line} k) = ap (λ (x : LineKind). check_by L x t (d ∷ due) n line) k
  wrong_stops (none_is_due {line} k) = ap (λ (x : LineKind). check_by L x t [] n line) k
  wrong_stops (other_bytes {d} {due} {line} k h) = ap (λ (x : LineKind). check_by L x t (d ∷ due) n line) k ∙ ap (λ (b : Bool). cond b (right_so_far t due (suc n)) (stopped_at different n)) (line_other line d h)

  wrong_all : {due others : List (List ℕ)} {line : List ℕ} {f : Fault} → WrongAt due (line ∷ others) f → check_lines L (right_so_far t due n) (line ∷ []) ≡ stopped_at f n
  unfolding check_lines
  wrong_all w = wrong_stops w

  wrong_concludes : {due : List (List ℕ)} (rest : List (List ℕ)) {f : Fault} → WrongAt due rest f → conclude (check_lines L (right_so_far t due n) rest) ≡ wrong_line f n
  unfolding check_lines
  wrong_concludes [] end_stands = refl
  wrong_concludes (line ∷ others) {f} w = ap (λ (j : CheckState). conclude (check_lines L j others)) (wrong_stops w) ∙ ap (conclude) (stopped_all L f n others)

-- more lines behind a wrong one leave it wrong
wrong_more : {due others : List (List ℕ)} {line : List ℕ} {f : Fault} (more : List (List ℕ)) → WrongAt due (line ∷ others) f → WrongAt due (line ∷ (others ++ more)) f
wrong_more more (is_neither k) = is_neither k
wrong_more more (question_stands k) = question_stands k
wrong_more more (none_is_due k) = none_is_due k
wrong_more more (other_bytes k h) = other_bytes k h

-- What is due behind lines

module _ (L : Layout) where
  due_asked : (lines : List (List ℕ)) (line : List ℕ) → kind_of line ≡ question_kind → DueAfter L (lines ++ (line ∷ [])) (answers_behind L lines line)
  due_asked lines line k = behind_frame lines [] line refl (ap question_by k) refl refl

  due_answered : (lines : List (List ℕ)) (line d : List ℕ) (due : List (List ℕ)) → kind_of line ≡ answer_kind → DueAfter L lines (d ∷ due) → DueAfter L (lines ++ (line ∷ [])) due
  due_answered lines line d due k (no_line_yet e z) = absurd (cons≢nil z)
  due_answered lines line d due k (behind_frame before given q e a g z) =
      let all = answers_behind L before q in
      let one_more : suc (length given) ≡ length (given ++ (line ∷ [])) = sym (length-append given (line ∷ []) ∙ (omega arith)) in
      behind_frame before (given ++ (line ∷ [])) q
      (ap (λ (x : List (List ℕ)). x ++ (line ∷ [])) e ∙ append_assoc before (q ∷ given) (line ∷ []))
      a
      (all_append is_answer given (line ∷ []) ∙ both g (both (ap answer_by k) refl))
      (ap (drop 1) z ∙ drop-drop 1 (length given) all ∙ ap (λ (n : ℕ). drop n all) (let same : length given + 1 ≡ suc (length given) = omega arith in same ∙ one_more))

  -- all of them are answers, without byte 10
  due_answers : {lines due : List (List ℕ)} → DueAfter L lines due → all_of is_answer due ≡ true
  due_answers (no_line_yet e z) = rw z
  due_answers (behind_frame before given q e a g z) = rw z (all_drop is_answer (length given) (answers_behind L before q) (text_answers L (table_from L (fresh_table L) before) q))

  due_clean : {lines due : List (List ℕ)} → DueAfter L lines due → all_of no_ten due ≡ true
  due_clean (no_line_yet e z) = rw z
  due_clean (behind_frame before given q e a g z) = rw z (all_drop no_ten (length given) (answers_behind L before q) (lines_clean _))

  -- they are the same by any reading of the lines, which have one last frame
  no_frame_in : {P : Type 0} (x c y : List (List ℕ)) (q : List ℕ) → x ≡ c ++ (q ∷ y) → is_question q ≡ true → all_of is_answer x ≡ true → P
  no_frame_in x c y q e a h =
      let k = is_answer_lem q (and_left (is_answer q) _ (and_right (all_of is_answer c) _ (sym (all_append is_answer c (q ∷ y)) ∙ ap (all_of is_answer) (sym e) ∙ h))) in
      absurd (false≢true (sym (ap question_by k) ∙ a))

  last_frame : (t : List ℕ) (b c x y : List (List ℕ)) (p q : List ℕ) → b ++ (p ∷ x) ≡ c ++ (q ∷ y) → is_question p ≡ true → is_question q ≡ true
      → all_of is_answer x ≡ true → all_of is_answer y ≡ true → drop (length x) (answers_on L (table_from L t b) p) ≡ drop (length y) (answers_on L (table_from L t c) q)
  unfolding table_from
  last_frame t [] [] x y p q e a a' g g' = ap₂ (λ (l : List ℕ) (z : List (List ℕ)). drop (length z) (answers_on L t l)) (head-eq_of_cons-eq e) (tail-eq_of_cons-eq e)
  last_frame t [] (d ∷ c) x y p q e a a' g g' = no_frame_in x c y q (tail-eq_of_cons-eq e) a' g
  last_frame t (d ∷ b) [] x y p q e a a' g g' = no_frame_in y b x p (sym (tail-eq_of_cons-eq e)) a g'
  last_frame t (d ∷ b) (f ∷ c) x y p q e a a' g g' =
      last_frame (line_step L t d).table b c x y p q (tail-eq_of_cons-eq e) a a' g g'
      ∙ ap (λ (l : List ℕ). drop (length y) (answers_on L (table_from L (line_step L t l).table c) q)) (head-eq_of_cons-eq e)

  due_one : {lines due due' : List (List ℕ)} → DueAfter L lines due → DueAfter L lines due' → due ≡ due'
  due_one (no_line_yet e z) (no_line_yet e' z') = z ∙ sym z'
  due_one (no_line_yet e z) (behind_frame before given q e' a g z') = no_line before q given (sym e ∙ e')
  due_one (behind_frame before given q e a g z) (no_line_yet e' z') = no_line before q given (sym e' ∙ e)
  due_one (behind_frame b x p e a g z) (behind_frame c y q e' a' g' z') = z ∙ last_frame (fresh_table L) b c x y p q (sym e ∙ e') a a' g g' ∙ sym z'

  -- How the check stands

  record Going (lines : List (List ℕ)) (t : List ℕ) (due : List (List ℕ)) (n : ℕ) : Type 0 where
    table : t ≡ table_from L (fresh_table L) lines
    number : n ≡ suc (length lines)
    is_due : DueAfter L lines due

  record Halted (lines : List (List ℕ)) (f : Fault) (n : ℕ) : Type 0 where
    before : List (List ℕ)
    line : List ℕ
    others : List (List ℕ)
    parts : lines ≡ before ++ (line ∷ others)
    table : List ℕ
    due : List (List ℕ)
    number : n ≡ suc (length before)
    came : check_lines L (opening L) before ≡ right_so_far table due n
    is_due : DueAfter L before due
    faulty : WrongAt due (line ∷ others) f

  abbrev Stands : List (List ℕ) → CheckState → Type 0
  Stands lines (right_so_far t due n) = Going lines t due n
  Stands lines (stopped_at f n) = Halted lines f n

  module _ (lines : List (List ℕ)) (line : List ℕ) where
    halted_more : {f : Fault} {n : ℕ} → Halted lines f n → Halted (lines ++ (line ∷ [])) f n
    halted_more h = record {
      before = h.before;
      line = h.line;
      others = h.others ++ (line ∷ []);
      parts = ap (λ (x : List (List ℕ)). x ++ (line ∷ [])) h.parts ∙ append_assoc h.before (h.line ∷ h.others) (line ∷ []);
      table = h.table;
      due = h.due;
      number = h.number;
      came = h.came;
      is_due = h.is_due;
      faulty = wrong_more (line ∷ []) h.faulty;
    }

    module _ (t : List ℕ) (due : List (List ℕ)) (n : ℕ) (came : check_lines L (opening L) lines ≡ right_so_far t due n) (g : Going lines t due n) where
      halted_here : {f : Fault} → WrongAt due (line ∷ []) f → Halted (lines ++ (line ∷ [])) f n
      halted_here w = record { before = lines; line = line; others = []; parts = refl; table = t; due = due; number = g.number; came = came; is_due = g.is_due; faulty = w }

      next_number_lem : suc n ≡ suc (length (lines ++ (line ∷ [])))
      next_number_lem = omega (arith, g.number, length-append lines (line ∷ []))

      module _ (k : kind_of line ≡ question_kind) where
        going_asked : Going (lines ++ (line ∷ [])) (line_step L t line).table (answers_on L t line) (suc n)
        going_asked = record {
          table = ap (λ (u : List ℕ). (line_step L u line).table) g.table ∙ sym (table_append L (fresh_table L) lines line);
          number = next_number_lem;
          is_due = subst (λ (u : List ℕ). DueAfter L (lines ++ (line ∷ [])) (answers_on L u line)) (sym g.table) (due_asked lines line k);
        }

    going_answered : (t : List ℕ) (d : List ℕ) (due : List (List ℕ)) (n : ℕ) → kind_of line ≡ answer_kind → Going lines t (d ∷ due) n → Going (lines ++ (line ∷ [])) t due (suc n)
    going_answered t d due n k g = record {
      table = g.table ∙ sym (answer_leaves L (table_from L (fresh_table L) lines) line k) ∙ sym (table_append L (fresh_table L) lines line);
      number = omega (arith, g.number, length-append lines (line ∷ []));
      is_due = due_answered lines line d due k g.is_due;
    }

    stands_more : (j : CheckState) → check_lines L (opening L) lines ≡ j → Stands lines j → Stands (lines ++ (line ∷ [])) (check_line L j line)
    unfolding check_line
    stands_more (stopped_at f n) e h = halted_more h
    stands_more (right_so_far t due n) e g = of (kind_of line) refl due e g
      where
        of : (k : LineKind) → kind_of line ≡ k → (due : List (List ℕ)) → check_lines L (opening L) lines ≡ right_so_far t due n → Going lines t due n → Stands (lines ++ (line ∷ [])) (check_by L k t due n line)
        of neither_kind k due e g = halted_here t due n e g (is_neither k)
        of question_kind k [] e g = going_asked t [] n e g k
        of question_kind k (d ∷ due) e g = halted_here t (d ∷ due) n e g (question_stands k)
        of answer_kind k [] e g = halted_here t [] n e g (none_is_due k)
        of answer_kind k (d ∷ due) e g =
            decide (same_line line d)
            (λ s. rw s (going_answered t d due n k g))
            (λ s. rw s (halted_here t (d ∷ due) n e g (other_bytes k (λ z. false≢true (sym s ∙ line_alike line d z)))))

  -- line by line, from the first
  stands_from : (lines more : List (List ℕ)) → Stands lines (check_lines L (opening L) lines) → Stands (lines ++ more) (check_lines L (opening L) (lines ++ more))
  unfolding check_lines
  stands_from lines [] s = subst (λ (x : List (List ℕ)). Stands x (check_lines L (opening L) x)) (sym (append-nil lines)) s
  stands_from lines (line ∷ more) s =
      let here = stands_more lines line (check_lines L (opening L) lines) refl s in
      let next = subst (Stands (lines ++ (line ∷ []))) (sym (check_append L (opening L) lines (line ∷ []))) here in
      subst (λ (x : List (List ℕ)). Stands x (check_lines L (opening L) x)) (append_assoc lines (line ∷ []) more) (stands_from (lines ++ (line ∷ [])) more next)

  all_stand : (lines : List (List ℕ)) → Stands lines (check_lines L (opening L) lines)
  unfolding check_lines table_from
  all_stand lines = stands_from [] lines (record { table = refl; number = refl; is_due = no_line_yet refl refl })

  -- no accepted log begins with lines that the check stopped at
  begun_right : {f : Fault} {n : ℕ} {P : Type 0} (lines : List (List ℕ)) → check_lines L (opening L) lines ≡ stopped_at f n → Begun L lines → P
  begun_right {f} {n} lines e b =
      let all = ap (check_lines L (opening L)) b.beginning ∙ check_append L (opening L) lines b.others ∙ ap (λ (j : CheckState). check_lines L j b.others) e in
      stopped_never L f n b.others (ap (conclude) (sym all) ∙ lines_right L (lines_in b.log) b.is_accepted)

  -- Lines that were right so far begin an accepted log: the answers that are due make it one

  pub taken_due : (t : List ℕ) (due : List (List ℕ)) (n : ℕ) → all_of is_answer due ≡ true → check_lines L (right_so_far t due n) due ≡ right_so_far t [] (n + length due)
  unfolding check_lines check_line
  taken_due t [] n h = ap (right_so_far t []) (let same : n ≡ n + 0 = omega arith in same)
  taken_due t (d ∷ due) n h =
      rw (is_answer_lem d (and_left (is_answer d) _ h), line_alike d d refl)
      (taken_due t due (suc n) (and_right (is_answer d) _ h) ∙ ap (right_so_far t []) (let same : suc n + length due ≡ n + suc (length due) = omega arith in same))

  module _ (before : List (List ℕ)) (t : List ℕ) (due : List (List ℕ)) (n : ℕ) (came : check_lines L (opening L) before ≡ right_so_far t due n) where
    came_on : (rest : List (List ℕ)) → check_lines L (opening L) (before ++ rest) ≡ check_lines L (right_so_far t due n) rest
    came_on rest = check_append L (opening L) before rest ∙ ap (λ (j : CheckState). check_lines L j rest) came

    begun : all_of no_ten before ≡ true → DueAfter L before due → Begun L before
    unfolding lines_in
    begun clean d =
        let lines = before ++ due in
        let back : lines_in (as_log lines) ≡ lines =
        ap lines_in (sym (append-nil (as_log lines))) ∙ lines_back lines [] (all_append no_ten before due ∙ both clean (due_clean d)) ∙ append-nil lines in
        record {
          log = as_log lines;
          others = due;
          beginning = back;
          is_accepted = subst (Accepted L) (sym back) (right_lines L lines (ap (conclude) (came_on due ∙ taken_due t due n (due_answers d))));
        }

    -- none begins with a wrong line behind them
    broken : {line : List ℕ} {others : List (List ℕ)} {f : Fault} → WrongAt due (line ∷ others) f → Begun L (before ++ (line ∷ [])) → ⊥
    broken {line} w b = begun_right (before ++ (line ∷ [])) (came_on (line ∷ []) ∙ wrong_all L t n w) b

  -- The line that is named

  begun_clean : (log : List ℕ) (before rest : List (List ℕ)) → lines_in log ≡ before ++ rest → all_of no_ten before ≡ true
  begun_clean log before rest e = and_left (all_of no_ten before) _ (sym (all_append no_ten before rest) ∙ ap (all_of no_ten) (sym e) ∙ lines_clean log)

  -- a verdict names the first wrong line
  abbrev NamesFirst : List ℕ → LogVerdict → Type 0
  NamesFirst log accepted_log = Unit {0}
  NamesFirst log (wrong_line f n) = FirstWrong L log f n

  refused_never : (log : List ℕ) {f : Fault} {n : ℕ} → conclude (check_lines L (opening L) (lines_in log)) ≡ wrong_line f n → Accepted L (lines_in log) → ⊥
  refused_never log e a = wrong_never (sym e ∙ lines_right L (lines_in log) a)

  names_first : (log : List ℕ) (j : CheckState) → check_lines L (opening L) (lines_in log) ≡ j → Stands (lines_in log) j → NamesFirst log (conclude j)
  names_first log (right_so_far t [] n) e g = tt {0}
  names_first log (right_so_far t (d ∷ due) n) e g = record {
    before = lines_in log;
    rest = [];
    parts = sym (append-nil (lines_in log));
    number = g.number;
    begun = begun (lines_in log) t (d ∷ due) n e (lines_clean log) g.is_due;
    broken = λ line others z. absurd (nil≢cons z);
    not_accepted = refused_never log (ap (conclude) e);
    due = d ∷ due;
    due_there = g.is_due;
    faulty = end_stands;
  }
  names_first log (stopped_at f n) e h = record {
    before = h.before;
    rest = h.line ∷ h.others;
    parts = h.parts;
    number = h.number;
    begun = begun h.before h.table h.due n h.came (begun_clean log h.before (h.line ∷ h.others) h.parts) h.is_due;
    broken = λ line others z b. broken h.before h.table h.due n h.came h.faulty (subst (λ (l : List ℕ). Begun L (h.before ++ (l ∷ []))) (sym (head-eq_of_cons-eq z)) b);
    not_accepted = refused_never log (ap (conclude) e);
    due = h.due;
    due_there = h.is_due;
    faulty = h.faulty;
  }

  -- and the first wrong line is named
  first_named : (log : List ℕ) (f : Fault) (n : ℕ) (w : FirstWrong L log f n) (j : CheckState) → check_lines L (opening L) w.before ≡ j → Stands w.before j
      → conclude (check_lines L (opening L) (lines_in log)) ≡ wrong_line f n
  first_named log f n w (stopped_at f' m) e h = begun_right w.before e w.begun
  first_named log f n w (right_so_far t d m) e g =
      let same : d ≡ w.due = due_one g.is_due w.due_there in
      ap (λ (x : List (List ℕ)). conclude (check_lines L (opening L) x)) w.parts
      ∙ ap (conclude) (came_on w.before t d m e w.rest ∙ ap (λ (x : List (List ℕ)). check_lines L (right_so_far t x m) w.rest) same)
      ∙ wrong_concludes L t m w.rest w.faulty
      ∙ ap (wrong_line f) (g.number ∙ sym w.number)

  pub named_exactly_lem : NamedExactly L
  unfolding log_verdict
  named_exactly_lem = record {
    only_first = λ log f n e. subst (NamesFirst log) e (names_first log (check_lines L (opening L) (lines_in log)) refl (all_stand (lines_in log)));
    all_first = λ log f n w. first_named log f n w (check_lines L (opening L) w.before) refl (all_stand w.before);
  }

  pub line_within_lem : LineWithin L
  unfolding log_verdict
  line_within_lem log = of (check_lines L (opening L) (lines_in log)) (all_stand (lines_in log))
    where
      of : (j : CheckState) → Stands (lines_in log) j → line_named (conclude j) ≤ suc (length log)
      of (right_so_far t [] n) g = omega arith
      of (right_so_far t (d ∷ due) n) g = omega (arith, g.number, lines_few log)
      of (stopped_at f n) h = omega (arith, h.number, lines_few log, ap length h.parts, length-append h.before (h.line ∷ h.others))
