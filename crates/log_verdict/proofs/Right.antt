-- A log is accepted exactly where it is right. What is right from any table and any answers that are due on (`Rightly`) goes line by line, as the check does.
use mathlib.Core.Path.{◌≡◌, refl, sym, ap, ap₂, ◌∙◌, subst}
use mathlib.Core.Bool.{true, false, ◌||◌, false≢true}
use mathlib.Core.List.{List, [], ◌∷◌, ◌++◌, map, nil≢cons, cons≢nil, head-eq_of_cons-eq, tail-eq_of_cons-eq}
use Prim.Native.Nat.{ℕ, suc}
use native.Mathlib.Omega.{arith}
use Rattle.laws.specs.Lists.{any_of, all_of}
use Rattle.laws.proofs.Tests.{both, and_left, and_right}
use Rattle.laws.proofs.Lists.{decide}
use Rattle.model.specs.Tables.{Layout}
use Rattle.line.specs.Split.{lines_in}
use Rattle.line.specs.Log.{line_step, fresh_table}
use Rattle.line.proofs.Shown.{line_refused_lem}
use Rattle.log_verdict.specs.Kinds.{in_lower_case, same_line, LineKind, question_kind, answer_kind, neither_kind, kind_of, question_by, answer_by, is_question, is_answer}
use Rattle.log_verdict.specs.Checking.{LogVerdict, accepted_log, wrong_line, Fault, right_so_far, stopped_at, answers_on, check_by, check_line, check_lines, opening, conclude, log_verdict}
use Rattle.log_verdict.specs.Accepted.{answers_first, table_from, Accepted}
use Rattle.log_verdict.specs.Promises.{AcceptedExactly}
use Rattle.log_verdict.proofs.LineKinds.{line_same, line_alike, answer_none, is_answer_lem}

-- A check that has stopped goes no further

pub stopped_all : (L : Layout) (f : Fault) (n : ℕ) (lines : List (List ℕ)) → check_lines L (stopped_at f n) lines ≡ stopped_at f n
unfolding check_lines check_line
stopped_all L f n [] = refl
stopped_all L f n (line ∷ lines) = stopped_all L f n lines

pub wrong_never : {f : Fault} {n : ℕ} {P : Type 0} → wrong_line f n ≡ accepted_log → P
wrong_never e = let never : ◌≡◌ {A = ℕ} 0 1 = ap verdict_told (sym e) in absurd (omega arith)
  where
    verdict_told : LogVerdict → ℕ
    verdict_told accepted_log = 0
    verdict_told (wrong_line f n) = 1

pub stopped_never : (L : Layout) (f : Fault) (n : ℕ) (lines : List (List ℕ)) {P : Type 0} → conclude (check_lines L (stopped_at f n) lines) ≡ accepted_log → P
stopped_never L f n lines e = wrong_never (ap (conclude) (sym (stopped_all L f n lines)) ∙ e)

-- an answer leaves the table
pub answer_leaves : (L : Layout) (t line : List ℕ) → kind_of line ≡ answer_kind → (line_step L t line).table ≡ t
answer_leaves L t line k = ap (λ s. s.table) (line_refused_lem L t line 7 (answer_none line k))

-- what has a line is not empty
pub no_line : {P : Type 0} (before : List (List ℕ)) (line : List ℕ) (others : List (List ℕ)) → [] ≡ before ++ (line ∷ others) → P
no_line [] line others e = absurd (nil≢cons e)
no_line (b ∷ before) line others e = absurd (nil≢cons e)

-- The answers that lines begin with

record Leading (lines : List (List ℕ)) : Type 0 where
  given : List (List ℕ)
  after : List (List ℕ)
  parts : lines ≡ given ++ after
  all_given : all_of is_answer given ≡ true
  no_more : answers_first after ≡ false

leading : (lines : List (List ℕ)) → Leading lines
leading [] = record { given = []; after = []; parts = refl; all_given = refl; no_more = refl }
leading (line ∷ lines) =
    let l = leading lines in
    decide (is_answer line)
    (λ e. record { given = line ∷ l.given; after = l.after; parts = ap (λ (x : List (List ℕ)). line ∷ x) l.parts; all_given = both e l.all_given; no_more = l.no_more })
    (λ e. record { given = []; after = line ∷ lines; parts = refl; all_given = refl; no_more = e })

module _ (L : Layout) where
  record Rightly (t : List ℕ) (due lines : List (List ℕ)) : Type 0 where
    all_known : all_of (λ line. is_question line || is_answer line) lines ≡ true
    first : (given after : List (List ℕ)) → lines ≡ given ++ after → all_of is_answer given ≡ true → answers_first after ≡ false → map in_lower_case given ≡ map in_lower_case due
    exact : (before given after : List (List ℕ)) (line : List ℕ) → lines ≡ before ++ (line ∷ (given ++ after)) → is_question line ≡ true → all_of is_answer given ≡ true → answers_first after ≡ false
        → map in_lower_case given ≡ map in_lower_case (answers_on L (table_from L t before) line)

  none_right : (t : List ℕ) → Rightly t [] []
  none_right t = record { all_known = refl; first = λ given after e _ _. ap (map in_lower_case) (no_given given after e); exact = λ before given after line e _ _ _. no_line before line (given ++ after) e }
    where
      no_given : (given after : List (List ℕ)) → [] ≡ given ++ after → given ≡ []
      no_given [] after e = refl
      no_given (g ∷ given) after e = absurd (nil≢cons e)

  -- A question in front

  module _ (t line : List ℕ) (lines : List (List ℕ)) (k : kind_of line ≡ question_kind) where
    question_more : Rightly (line_step L t line).table (answers_on L t line) lines → Rightly t [] (line ∷ lines)
    unfolding table_from
    question_more r = record { all_known = both {a = is_question line || is_answer line} (ap (λ x. question_by x || answer_by x) k) r.all_known; first = first; exact = exact }
      where
        first : (given after : List (List ℕ)) → line ∷ lines ≡ given ++ after → all_of is_answer given ≡ true → answers_first after ≡ false → map in_lower_case given ≡ []
        first [] after e a z = refl
        first (g ∷ given) after e a z =
            absurd (false≢true (sym (ap answer_by k) ∙ ap is_answer (head-eq_of_cons-eq e) ∙ and_left (is_answer g) _ a))

        exact : (before given after : List (List ℕ)) (q : List ℕ) → line ∷ lines ≡ before ++ (q ∷ (given ++ after)) → is_question q ≡ true → all_of is_answer given ≡ true → answers_first after ≡ false
            → map in_lower_case given ≡ map in_lower_case (answers_on L (table_from L t before) q)
        exact [] given after q e a g z =
            r.first given after (tail-eq_of_cons-eq e) g z ∙ ap (λ (x : List ℕ). map in_lower_case (answers_on L t x)) (head-eq_of_cons-eq e)
        exact (b ∷ before) given after q e a g z =
            r.exact before given after q (tail-eq_of_cons-eq e) a g z
            ∙ ap (λ (x : List ℕ). map in_lower_case (answers_on L (table_from L (line_step L t x).table before) q)) (head-eq_of_cons-eq e)

    question_less : {due : List (List ℕ)} → Rightly t due (line ∷ lines) → Rightly (line_step L t line).table (answers_on L t line) lines
    unfolding table_from
    question_less r = record {
      all_known = and_right (is_question line || is_answer line) _ r.all_known;
      first = λ given after e a z. r.exact [] given after line (ap (λ (x : List (List ℕ)). line ∷ x) e) (ap question_by k) a z;
      exact = λ before given after q e a g z. r.exact (line ∷ before) given after q (ap (λ (x : List (List ℕ)). line ∷ x) e) a g z;
    }

    question_due : (due : List (List ℕ)) → Rightly t due (line ∷ lines) → due ≡ []
    question_due [] r = refl
    question_due (d ∷ due) r = absurd (nil≢cons (r.first [] (line ∷ lines) refl refl (ap answer_by k)))

  -- An answer in front

  module _ (t line : List ℕ) (lines : List (List ℕ)) (k : kind_of line ≡ answer_kind) where
    on_table_lem : (before : List (List ℕ)) (q : List ℕ) → answers_on L (table_from L (line_step L t line).table before) q ≡ answers_on L (table_from L t before) q
    on_table_lem before q = ap (λ (x : List ℕ). answers_on L (table_from L x before) q) (answer_leaves L t line k)

    answer_more : (d : List ℕ) (due : List (List ℕ)) → in_lower_case line ≡ in_lower_case d → Rightly t due lines → Rightly t (d ∷ due) (line ∷ lines)
    unfolding table_from
    answer_more d due s r = record { all_known = both {a = is_question line || is_answer line} (ap (λ x. question_by x || answer_by x) k) r.all_known; first = first; exact = exact }
      where
        first : (given after : List (List ℕ)) → line ∷ lines ≡ given ++ after → all_of is_answer given ≡ true → answers_first after ≡ false → map in_lower_case given ≡ in_lower_case d ∷ map in_lower_case due
        first [] after e a z = absurd (false≢true (sym z ∙ ap answers_first (sym e) ∙ ap answer_by k))
        first (g ∷ given) after e a z =
            ap₂ (λ (x : List ℕ) (xs : List (List ℕ)). x ∷ xs) (ap in_lower_case (sym (head-eq_of_cons-eq e)) ∙ s) (r.first given after (tail-eq_of_cons-eq e) (and_right (is_answer g) _ a) z)

        exact : (before given after : List (List ℕ)) (q : List ℕ) → line ∷ lines ≡ before ++ (q ∷ (given ++ after)) → is_question q ≡ true → all_of is_answer given ≡ true → answers_first after ≡ false
            → map in_lower_case given ≡ map in_lower_case (answers_on L (table_from L t before) q)
        exact [] given after q e a g z = absurd (false≢true (sym (ap question_by k) ∙ ap is_question (head-eq_of_cons-eq e) ∙ a))
        exact (b ∷ before) given after q e a g z =
            r.exact before given after q (tail-eq_of_cons-eq e) a g z
            ∙ ap (map in_lower_case) (sym (on_table_lem before q))
            ∙ ap (λ (x : List ℕ). map in_lower_case (answers_on L (table_from L (line_step L t x).table before) q)) (head-eq_of_cons-eq e)

    -- the answers that the lines begin with are those that are due
    answers_due : {due : List (List ℕ)} → Rightly t due (line ∷ lines) → in_lower_case line ∷ map in_lower_case (leading lines).given ≡ map in_lower_case due
    answers_due r =
        let l = leading lines in
        r.first (line ∷ l.given) l.after (ap (λ (x : List (List ℕ)). line ∷ x) l.parts) (both (ap answer_by k) l.all_given) l.no_more

    answer_less : (d : List ℕ) (due : List (List ℕ)) → Rightly t (d ∷ due) (line ∷ lines) → Rightly t due lines
    unfolding table_from
    answer_less d due r = record {
      all_known = and_right (is_question line || is_answer line) _ r.all_known;
      first = λ given after e a z.
          tail-eq_of_cons-eq (r.first (line ∷ given) after (ap (λ (x : List (List ℕ)). line ∷ x) e) (both (ap answer_by k) a) z);
      exact = λ before given after q e a g z.
          r.exact (line ∷ before) given after q (ap (λ (x : List (List ℕ)). line ∷ x) e) a g z ∙ ap (map in_lower_case) (on_table_lem before q);
    }

  -- Both directions, line by line

  accepted_right : (t : List ℕ) (due : List (List ℕ)) (n : ℕ) (lines : List (List ℕ)) → conclude (check_lines L (right_so_far t due n) lines) ≡ accepted_log → Rightly t due lines
  unfolding check_lines check_line
  accepted_right t [] n [] e = none_right t
  accepted_right t (d ∷ due) n [] e = wrong_never e
  accepted_right t due n (line ∷ lines) e = of (λ u rest. accepted_right u rest (suc n) lines) (kind_of line) refl due e
    where
      of : ((u : List ℕ) (rest : List (List ℕ)) → conclude (check_lines L (right_so_far u rest (suc n)) lines) ≡ accepted_log → Rightly u rest lines)
          → (k : LineKind) → kind_of line ≡ k → (due : List (List ℕ)) → conclude (check_lines L (check_by L k t due n line) lines) ≡ accepted_log → Rightly t due (line ∷ lines)
      of ih neither_kind k due e = stopped_never L _ n lines e
      of ih question_kind k [] e = question_more t line lines k (ih (line_step L t line).table (answers_on L t line) e)
      of ih question_kind k (d ∷ due) e = stopped_never L _ n lines e
      of ih answer_kind k [] e = stopped_never L _ n lines e
      of ih answer_kind k (d ∷ due) e =
          decide (same_line line d)
          (λ s. answer_more t line lines k d due (line_same line d s) (ih t due (rw s at e)))
          (λ s. stopped_never L _ n lines (rw s at e))

  right_accepted : (t : List ℕ) (due : List (List ℕ)) (n : ℕ) (lines : List (List ℕ)) → Rightly t due lines → conclude (check_lines L (right_so_far t due n) lines) ≡ accepted_log
  unfolding check_lines check_line
  right_accepted t [] n [] r = refl
  right_accepted t (d ∷ due) n [] r = absurd (nil≢cons (r.first [] [] refl refl refl))
  right_accepted t due n (line ∷ lines) r = of (λ u rest. right_accepted u rest (suc n) lines) (kind_of line) refl due r
    where
      of : ((u : List ℕ) (rest : List (List ℕ)) → Rightly u rest lines → conclude (check_lines L (right_so_far u rest (suc n)) lines) ≡ accepted_log)
          → (k : LineKind) → kind_of line ≡ k → (due : List (List ℕ)) → Rightly t due (line ∷ lines) → conclude (check_lines L (check_by L k t due n line) lines) ≡ accepted_log
      of ih neither_kind k due r = absurd (false≢true (sym (ap (λ x. question_by x || answer_by x) k) ∙ and_left (is_question line || is_answer line) _ r.all_known))
      of ih question_kind k [] r = ih (line_step L t line).table (answers_on L t line) (question_less t line lines k r)
      of ih question_kind k (d ∷ due) r = absurd (cons≢nil (question_due t line lines k (d ∷ due) r))
      of ih answer_kind k [] r = absurd (cons≢nil (answers_due t line lines k r))
      of ih answer_kind k (d ∷ due) r =
          rw (line_alike line d (head-eq_of_cons-eq (answers_due t line lines k r)))
          (ih t due (answer_less t line lines k d due r))

  -- Of a whole log

  no_answer_first : {t line : List ℕ} {lines : List (List ℕ)} → Rightly t [] (line ∷ lines) → is_answer line ≡ true → ⊥
  no_answer_first {t} {line} {lines} r a = cons≢nil (answers_due t line lines (is_answer_lem line a) r)

  frames_first_lem : (lines : List (List ℕ)) → Rightly (fresh_table L) [] lines → (before after : List (List ℕ)) (line : List ℕ) → lines ≡ before ++ (line ∷ after) → is_answer line ≡ true → any_of is_question before ≡ true
  frames_first_lem lines r [] after line e a = absurd (no_answer_first (subst (Rightly (fresh_table L) []) e r) a)
  frames_first_lem lines r (b ∷ before) after line e a =
      let s = subst (Rightly (fresh_table L) []) e r in
      decide (is_question b) (λ q. rw q) (λ q. absurd (no_answer_first s (simp q at (and_left (is_question b || is_answer b) _ s.all_known))))

  pub right_lines : (lines : List (List ℕ)) → conclude (check_lines L (opening L) lines) ≡ accepted_log → Accepted L lines
  right_lines lines e =
      let r = accepted_right (fresh_table L) [] 1 lines e in
      record { all_known = r.all_known; frames_first = frames_first_lem lines r; exact = r.exact }

  pub lines_right : (lines : List (List ℕ)) → Accepted L lines → conclude (check_lines L (opening L) lines) ≡ accepted_log
  lines_right lines a =
      right_accepted (fresh_table L) [] 1 lines (record { all_known = a.all_known; first = first; exact = a.exact })
    where
      first : (given after : List (List ℕ)) → lines ≡ given ++ after → all_of is_answer given ≡ true → answers_first after ≡ false → map in_lower_case given ≡ []
      first [] after e g z = refl
      first (x ∷ given) after e g z = absurd (false≢true (a.frames_first [] (given ++ after) x e (and_left (is_answer x) _ g)))

  pub accepted_exactly_lem : AcceptedExactly L
  unfolding log_verdict
  accepted_exactly_lem = record { only_right = λ log e. right_lines (lines_in log) e; all_right = λ log a. lines_right (lines_in log) a }
