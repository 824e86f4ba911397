-- However a log is cut into pieces, the calls on them write what the log writes.
use mathlib.Core.Path.{◌≡◌, refl, sym, ap, ap₂, ◌∙◌}
use mathlib.Core.Bool.{Bool, true, false, cond, not}
use mathlib.Core.List.{List, [], ◌∷◌, ◌++◌, map, append_assoc, append-nil}
use Prim.Native.Nat.{ℕ, zero, suc, ◌≤◌, ◌<◌}
use native.Mathlib.Omega.{arith}
use lib.Dec.{eqb, ltb}
use lib.ListN.{length, get_or, take, drop, length-drop, take-append-drop}
use lib.Seq.{take_all, length-take-le, take-append-le, take-suc, take-take}
use borrow.Author.Tests.{ltb-true, ltb-false, eqb-true, not-true}
use Rattle.laws.specs.Lists.{all_of, is_empty}
use Rattle.laws.specs.Parts.{pieces}
use Rattle.laws.proofs.Tests.{both, and_left, and_right}
use Rattle.laws.proofs.Lists.{decide, all_append}
use Rattle.model.specs.Tables.{Layout}
use Rattle.line.specs.Hex.{is_hex}
use Rattle.line.specs.Line.{line_of}
use Rattle.line.specs.Split.{prefixed, lines_in, line_room, kept, line_end, Split, split}
use Rattle.line.specs.Log.{on_line, line_step, lines_output, log_output}
use Rattle.line.specs.Reading.{on_piece, last_step, start, calls_output, used_of, all_used, offers_in, offers, all_offers, lines_read}
use Rattle.line.specs.Promises.{OverLong, KeptDecides, UsesSome, AnyLines, AnyCalls, AnyCutting}
use Rattle.laws.proofs.Pieces.{pieces_append}
use Rattle.line.proofs.Frames.{over_long_hex, line_bad}
use Rattle.line.proofs.Lines.{end_within}

-- A line that is over-long

pub over_long : OverLong
over_long line h = decide (is_hex line) (λ e. over_long_hex line e h) (λ e. line_bad line e)

-- what is kept of a line that is not over-long is the line
pub keep_all : (line : List ℕ) → length line ≤ line_room → kept line ≡ line
unfolding kept
keep_all line h = take_all line_room line h

keep_most : (line : List ℕ) → line_room ≤ length line → length (kept line) ≡ line_room
unfolding kept
keep_most line h = length-take-le line_room line h

pub kept_decides : KeptDecides
kept_decides line =
    decide (ltb line_room (length line))
    (λ e. let long = ltb-true line_room (length line) e in
    over_long (kept line) (omega (arith, keep_most line (omega arith))) ∙ sym (over_long line (omega arith)))
    (λ e. ap line_of (keep_all line (ltb-false line_room (length line) e)))

keep_front : (l s : List ℕ) → line_room ≤ length l → kept (l ++ s) ≡ kept l
unfolding kept
keep_front l s h = take-append-le line_room l s h

keep_twice : (l : List ℕ) → kept (kept l) ≡ kept l
unfolding kept
keep_twice l = take-take line_room line_room l (omega arith)

-- to keep of what is kept is to keep of the whole
keep_more : (line text : List ℕ) → kept (kept line ++ text) ≡ kept (line ++ text)
keep_more line text =
    decide (ltb line_room (length line))
    (λ e. let long = ltb-true line_room (length line) e in keep_front (kept line) text (omega (arith, keep_most line (omega arith))) ∙ keep_twice line ∙ sym (keep_front line text (omega arith)))
    (λ e. ap (λ (l : List ℕ). kept (l ++ text)) (keep_all line (ltb-false line_room (length line) e)))

kept_none : kept [] ≡ []
unfolding kept
kept_none = refl

-- Lines without byte 10

abbrev pub no_ten : List ℕ → Bool
no_ten l = all_of (λ b. not (eqb b 10)) l

end_clean : (p : List ℕ) → no_ten (take (line_end p) p) ≡ true
unfolding line_end
end_clean [] = refl
end_clean (b ∷ p) = decide (eqb b 10) (λ e. rw e) (λ e. rw e (both (ap not e) (end_clean p)))

-- where there is a byte 10, it is the one that the line ends at
end_ten : (p : List ℕ) → line_end p < length p → get_or p (line_end p) 0 ≡ 10
unfolding line_end
end_ten [] h = absurd (omega arith)
end_ten (b ∷ p) h = decide (eqb b 10) (λ e. rw e (eqb-true b 10 e)) (λ e. rw e (end_ten p (omega (arith, (rw e at h)))))

pub lines_ended : (l s : List ℕ) → no_ten l ≡ true → lines_in (l ++ 10 ∷ s) ≡ l ∷ lines_in s
unfolding lines_in
lines_ended [] s h = refl
lines_ended (b ∷ l) s h =
    rw (not-true (eqb b 10) (and_left (not (eqb b 10)) (no_ten l) h))
    (ap (prefixed b) (lines_ended l s (and_right (not (eqb b 10)) (no_ten l) h)))

-- the last line counts unless it is empty
lines_last : (l : List ℕ) → no_ten l ≡ true → lines_in l ≡ cond (is_empty l) [] (l ∷ [])
unfolding lines_in
lines_last [] h = refl
lines_last (b ∷ l) h =
    rw (not-true (eqb b 10) (and_left (not (eqb b 10)) (no_ten l) h))
    (ap (prefixed b) (lines_last l (and_right (not (eqb b 10)) (no_ten l) h)) ∙ one l)
  where
    one : (l : List ℕ) → prefixed b (cond (is_empty l) [] (l ∷ [])) ≡ (b ∷ l) ∷ []
    one [] = refl
    one (x ∷ l) = refl

-- no line of a log has a byte 10, and there are no more lines than bytes
pub lines_clean : (s : List ℕ) → all_of no_ten (lines_in s) ≡ true
unfolding lines_in
lines_clean [] = refl
lines_clean (b ∷ s) = decide (eqb b 10) (λ e. rw e (lines_clean s)) (λ e. rw e (of (lines_in s) (ap not e) (lines_clean s)))
  where
    of : (lines : List (List ℕ)) → not (eqb b 10) ≡ true → all_of no_ten lines ≡ true → all_of no_ten (prefixed b lines) ≡ true
    of [] e h = both (both e refl) refl
    of (l ∷ lines) e h = both (both e (and_left (no_ten l) _ h)) (and_right (no_ten l) _ h)

pub lines_few : (s : List ℕ) → length (lines_in s) ≤ length s
unfolding lines_in
lines_few [] = omega arith
lines_few (b ∷ s) = decide (eqb b 10) (λ e. rw e (omega (arith, lines_few s))) (λ e. rw e (of (lines_in s) (lines_few s)))
  where
    of : (lines : List (List ℕ)) → length lines ≤ length s → length (prefixed b lines) ≤ suc (length s)
    of [] h = omega arith
    of (l ∷ lines) h = omega arith

-- A piece behind what is kept of a line

module _ (line piece : List ℕ) where
  -- the piece has a byte 10: the line ends there
  module _ (e : ltb (line_end piece) (length piece) ≡ true) where
    split_ended : split (kept line) piece ≡ record { ended = true; used = suc (line_end piece); line = kept (line ++ take (line_end piece) piece) }
    unfolding split
    split_ended = rw e (ap (λ (l : List ℕ). record { ended = true; used = suc (line_end piece); line = l }) (keep_more line (take (line_end piece) piece)))

    used_ended : used_of piece ≡ take (line_end piece) piece ++ 10 ∷ []
    unfolding used_of split
    used_ended =
        let inside = ltb-true (line_end piece) (length piece) e in
        rw e (take-suc piece (line_end piece) 0 inside ∙ ap (λ (b : ℕ). take (line_end piece) piece ++ b ∷ []) (end_ten piece inside))

  -- it has none: all of it is kept
  module _ (e : ltb (line_end piece) (length piece) ≡ false) where
    all_of_lem : take (line_end piece) piece ≡ piece
    all_of_lem = take_all (line_end piece) piece (ltb-false (line_end piece) (length piece) e)

    split_open : split (kept line) piece ≡ record { ended = false; used = line_end piece; line = kept (line ++ piece) }
    unfolding split
    split_open =
        rw e (ap (λ (l : List ℕ). record { ended = false; used = line_end piece; line = l }) (keep_more line (take (line_end piece) piece) ∙ ap (λ (s : List ℕ). kept (line ++ s)) all_of_lem))

    used_open : used_of piece ≡ piece
    unfolding used_of split
    used_open = rw e all_of_lem

-- All pieces: the lines that are read are those of the bytes used, each as far as it is kept

last_read : (line : List ℕ) → lines_read (kept line) [] ≡ map kept (cond (is_empty line) [] (line ∷ []))
unfolding lines_read kept
last_read [] = refl
last_read (b ∷ l) = refl

lines_read_lem : (line : List ℕ) (ps : List (List ℕ)) → no_ten line ≡ true → lines_read (kept line) ps ≡ map kept (lines_in (line ++ all_used ps))
unfolding lines_read pieces
lines_read_lem line [] h = last_read line ∙ ap (map kept) (sym (lines_last line h) ∙ ap lines_in (sym (append-nil line)))
lines_read_lem line (p ∷ ps) h =
    decide (ltb (line_end p) (length p))
    (λ e.
    let here = line ++ take (line_end p) p in
    let more = all_used ps in
    let clean : no_ten here ≡ true = all_append (λ b. not (eqb b 10)) line (take (line_end p) p) ∙ both h (end_clean p) in
    let lines : lines_in (line ++ (used_of p ++ more)) ≡ here ∷ lines_in more =
    ap (λ (u : List ℕ). lines_in (line ++ (u ++ more))) (used_ended line p e)
    ∙ ap lines_in (simp append_assoc)
    ∙ lines_ended here more clean in
    ap (λ (s : Split). cond s.ended (s.line ∷ lines_read [] ps) (lines_read s.line ps)) (split_ended line p e)
    ∙ ap (λ (l : List (List ℕ)). kept here ∷ l) (ap (λ (l : List ℕ). lines_read l ps) (sym kept_none) ∙ lines_read_lem [] ps refl)
    ∙ ap (map kept) (sym lines))
    (λ e.
    let clean : no_ten (line ++ p) ≡ true =
    all_append (λ b. not (eqb b 10)) line p ∙ both h (ap no_ten (sym (all_of_lem line p e)) ∙ end_clean p) in
    ap (λ (s : Split). cond s.ended (s.line ∷ lines_read [] ps) (lines_read s.line ps)) (split_open line p e)
    ∙ lines_read_lem (line ++ p) ps clean
    ∙ ap (λ (l : List ℕ). map kept (lines_in l)) (append_assoc line p (all_used ps) ∙ ap (λ (u : List ℕ). line ++ (u ++ all_used ps)) (sym (used_open line p e))))

pub any_lines : AnyLines
unfolding kept
any_lines ps = lines_read_lem [] ps refl

-- What the calls write is what the lines that are read write, and of these what is kept decides

module _ (L : Layout) where
  calls_write : (t line : List ℕ) (ps : List (List ℕ)) → calls_output L (record { table = t; line = line }) ps ≡ lines_output L t (lines_read line ps)
  unfolding calls_output lines_read lines_output on_piece last_step
  calls_write t [] [] = refl
  calls_write t (b ∷ l) [] = sym (append-nil (line_step L t (b ∷ l)).text)
  calls_write t line (p ∷ ps) =
      let s = split line p in
      let here = line_step L t s.line in
      decide s.ended
      (λ e. rw e (ap (λ (o : List ℕ). here.text ++ o) (calls_write here.table [] ps)))
      (λ e. rw e (calls_write t s.line ps))

  kept_write : (t : List ℕ) (lines : List (List ℕ)) → lines_output L t (map kept lines) ≡ lines_output L t lines
  unfolding lines_output line_step
  kept_write t [] = refl
  kept_write t (l ∷ lines) = rw (kept_decides l) (ap (λ (o : List ℕ). (on_line L t (line_of l)).text ++ o) (kept_write (on_line L t (line_of l)).table lines))

pub any_calls_lem : (L : Layout) → AnyCalls L
unfolding log_output
any_calls_lem L ps = calls_write L (start L).table [] ps ∙ ap (lines_output L (start L).table) (any_lines ps) ∙ kept_write L (start L).table (lines_in (all_used ps))

-- Pieces that are offered until they are used up

pub uses_some : UsesSome
unfolding split
uses_some line piece =
    decide (ltb (line_end piece) (length piece))
    (λ e. let inside = ltb-true (line_end piece) (length piece) e in rw e (omega arith, λ h. omega arith))
    (λ e. let whole = ltb-false (line_end piece) (length piece) e in rw e (end_within piece, λ h. omega arith))

offers_used : (k : ℕ) (s : List ℕ) → length s ≤ k → all_used (offers_in k s) ≡ s
unfolding offers_in pieces used_of
offers_used zero [] h = refl
offers_used zero (b ∷ s) h = absurd (omega arith)
offers_used (suc k) [] h = refl
offers_used (suc k) (b ∷ s) h =
    let n = (split [] (b ∷ s)).used in
    let some_used = (uses_some [] (b ∷ s)).1 (omega arith) in
    ap (λ (r : List ℕ). take n (b ∷ s) ++ r) (offers_used k (drop n (b ∷ s)) (omega (arith, length-drop n (b ∷ s), some_used)))
    ∙ take-append-drop n (b ∷ s)

pub all_used_lem : (ps : List (List ℕ)) → all_used (all_offers ps) ≡ pieces (λ (p : List ℕ). p) ps
unfolding pieces
all_used_lem [] = refl
all_used_lem (p ∷ ps) = pieces_append used_of (offers p) (all_offers ps) ∙ ap₂ (λ (a b : List ℕ). a ++ b) (offers_used (length p) p (omega arith)) (all_used_lem ps)

pub any_cutting_lem : (L : Layout) → AnyCutting L
any_cutting_lem L ps = any_calls_lem L (all_offers ps) ∙ ap (log_output L) (all_used_lem ps)
