-- Laws of answers that stand in bytes: one after the other, each with its line.
use mathlib.Core.Path.{◌≡◌, refl, sym, ap, ◌∙◌, subst}
use mathlib.Core.Bool.{Bool, true, false}
use mathlib.Core.List.{List, [], ◌∷◌, ◌++◌, append_assoc, append-nil}
use Prim.Native.Nat.{ℕ, zero, suc, ◌+◌, ◌*◌, ◌-◌, ◌^◌, ◌%◌, ◌≤◌, ◌<◌}
use native.Mathlib.Omega.{arith}
use lib.Dec.{eqb}
use lib.ListN.{length, take, drop, set, length-append, length-take, length-drop}
use lib.Seq.{sets, take_at, drop_at}
use borrow.Author.Tests.{eqb-true}
use Rattle.laws.specs.Parts.{pieces}
use Rattle.laws.proofs.Tests.{never, was_true, was_false}
use Rattle.laws.specs.Stores.{Wrote}
use Rattle.laws.proofs.Stores.{rest_part, wrote_none, wrote_sets, wrote_append}
use Rattle.field.specs.Field.{field, little_endian}
use Rattle.field.proofs.Laws.{field_after, field_little_endian, length_little_endian}
use Rattle.model.specs.Frames.{word}
use Rattle.model.specs.Answers.{Written, read_from, answers_in, rewritten}
use Rattle.line.specs.Hex.{hex_pair, hex_text}
use Rattle.line.specs.Log.{answer_line, answer_lines, Whole}
use Rattle.laws.proofs.Pieces.{pieces_append}
use Rattle.line.proofs.Digits.{length_text, pair_length}

-- The first answer in bytes that are whole answers

-- more rounds than there are bytes read nothing more
read_enough : (j k : ℕ) (s : List ℕ) → length s ≤ j → length s ≤ k → read_from j s ≡ read_from k s
unfolding read_from
read_enough zero zero s g h = refl
read_enough zero (suc k) [] g h = refl
read_enough zero (suc k) (b ∷ s) g h = absurd (omega arith)
read_enough (suc j) zero [] g h = refl
read_enough (suc j) zero (b ∷ s) g h = absurd (omega arith)
read_enough (suc j) (suc k) [] g h = refl
read_enough (suc j) (suc k) (b ∷ s) g h =
    let more = drop (8 + word (b ∷ s) 4) (b ∷ s) in
    let fewer = length-drop (8 + word (b ∷ s) 4) (b ∷ s) in
    ap (λ (l : List Written). record { ticket = word (b ∷ s) 0; response = take (word (b ∷ s) 4) (drop 8 (b ∷ s)) } ∷ l) (read_enough j k more (omega (arith, fewer)) (omega (arith, fewer)))

read_first : (s : List ℕ) → 0 < length s
    → answers_in s ≡ record { ticket = word s 0; response = take (word s 4) (drop 8 s) } ∷ answers_in (drop (8 + word s 4) s)
unfolding read_from
read_first [] h = absurd (omega arith)
read_first (b ∷ s) h =
    let more = drop (8 + word (b ∷ s) 4) (b ∷ s) in
    ap (λ (l : List Written). record { ticket = word (b ∷ s) 0; response = take (word (b ∷ s) 4) (drop 8 (b ∷ s)) } ∷ l)
    (read_enough (length s) (length more) more (omega (arith, length-drop (8 + word (b ∷ s) 4) (b ∷ s))) (omega arith))

-- its byte count is true
counted : (a r x s : List ℕ) → length a ≡ 4 → a ++ (little_endian 4 (length r) ++ x) ≡ s → length r ≤ field 4 s 4 → field 4 s 4 ≡ length r
counted a r x s la e h =
    let at : 4 ≡ length a + 0 = omega arith in
    let is : field 4 s 4 ≡ length r % 256 ^ 4 =
    ap (λ (l : List ℕ). field 4 l 4) (sym e)
    ∙ ap (field 4 (a ++ (little_endian 4 (length r) ++ x))) at
    ∙ field_after 4 a (little_endian 4 (length r) ++ x) 0
    ∙ field_little_endian 4 (length r) x in
    omega (arith, is, h)

pub record First (s : List ℕ) : Type 0 where
  pub answer : Written
  pub here : take (8 + field 4 s 4) s ≡ rewritten (answer ∷ [])
  pub count : field 4 s 4 ≡ length answer.response
  pub fits : 8 + field 4 s 4 ≤ length s
  pub reads : answers_in s ≡ answer ∷ answers_in (drop (8 + field 4 s 4) s)
  pub others : Whole (drop (8 + field 4 s 4) s)

first_answer : (s : List ℕ) → 0 < length s → Whole s → First s
first_answer s h whole =
    let n = field 4 s 4 in
    let r = take n (drop 8 s) in
    let w : Written = record { ticket = word s 0; response = r } in
    let t = little_endian 4 (word s 0) in
    let c = little_endian 4 (length r) in
    let more = rewritten (answers_in (drop (8 + n) s)) in
    let is : t ++ (c ++ (r ++ more)) ≡ s = ap rewritten (sym (read_first s h)) ∙ whole in
    let count : n ≡ length r = counted t r (r ++ more) s (length_little_endian 4 (word s 0)) is (rw (length-take n (drop 8 s)) (omega arith)) in
    let split : t ++ (c ++ (r ++ [])) ++ more ≡ s = simp append_assoc is in
    let long : length (t ++ (c ++ (r ++ []))) ≡ 8 + n =
    length-append t (c ++ (r ++ [])) ∙ (omega (arith, length-append c (r ++ []), length-append r [], length_little_endian 4 (word s 0), length_little_endian 4 (length r), count)) in
    let behind : drop (8 + n) s ≡ more = ap (drop (8 + n)) (sym split) ∙ drop_at (t ++ (c ++ (r ++ []))) more (8 + n) long in
    record {
      answer = w;
      here = ap (take (8 + n)) (sym split) ∙ take_at (t ++ (c ++ (r ++ []))) more (8 + n) long;
      count = count;
      fits = omega (arith, ap length split, length-append (t ++ (c ++ (r ++ []))) more, long);
      reads = read_first s h;
      others = sym behind;
    }

-- Answers that are still to come

-- what is written so far of the lines of all answers, where those that stand in rest are still to come
pub record Rendered (bytes d e : List ℕ) (end : ℕ) (rest : List ℕ) : Type 0 where
  pub text : List ℕ
  pub wrote : Wrote d e 0 end text
  pub whole : Whole rest
  pub all : answer_lines bytes ≡ text ++ answer_lines rest

pub rendered_none : (bytes d : List ℕ) → Whole bytes → Rendered bytes d d 0 bytes
rendered_none bytes d h = record { text = []; wrote = wrote_none d 0; whole = h; all = refl }

pub rendered_all : {bytes d e rest : List ℕ} {end : ℕ} → rest ≡ [] → Rendered bytes d e end rest → Wrote d e 0 end (answer_lines bytes)
unfolding answer_lines pieces read_from
rendered_all {bytes} {d} {e} {rest} {end} h r =
    subst (Wrote d e 0 end) (sym (r.all ∙ ap (λ (s : List ℕ). r.text ++ answer_lines s) h ∙ append-nil r.text)) r.wrote

-- whether any are
module _ {t : Bool} (rest : List ℕ) (is : t ≡ eqb (length rest) 0) where
  pub some_to_come : t ≡ false → 0 < length rest
  some_to_come e = of rest (was_false is e)
    where
      of : (s : List ℕ) → eqb (length s) 0 ≡ false → 0 < length s
      of [] f = never f
      of (b ∷ s) f = omega arith

  pub none_to_come : t ≡ true → rest ≡ []
  none_to_come e = of rest (was_true is e)
    where
      of : (s : List ℕ) → eqb (length s) 0 ≡ true → s ≡ []
      of [] f = refl
      of (b ∷ s) f = absurd (omega (arith, eqb-true (length (b ∷ s)) 0 f))

-- the first answer of those, whose byte count is n
module _ (rest : List ℕ) (n : ℕ) (inside : 0 < length rest) (whole : Whole rest) (count : n ≡ field 4 rest 4) where
  pub next_answer : First rest
  next_answer = first_answer rest inside whole

  pub next_fits : 8 + n ≤ length rest
  next_fits = omega (arith, next_answer.fits, count)

  pub next_here : take (8 + n) rest ≡ rewritten (next_answer.answer ∷ [])
  next_here = ap (λ (k : ℕ). take (8 + k) rest) count ∙ next_answer.here

  line_length : length (answer_line next_answer.answer) ≡ 2 * n + 11
  unfolding answer_line
  line_length =
      let w = next_answer.answer in
      let t = little_endian 4 w.ticket in
      length-append (hex_text (0x80 ∷ (t ++ w.response))) (10 ∷ [])
      ∙ (omega (arith, length_text (0x80 ∷ (t ++ w.response)), length-append t w.response, length_little_endian 4 w.ticket, next_answer.count, count))

  pub rendered_more : {bytes d e e' : List ℕ} {end end' : ℕ} → Rendered bytes d e end rest → Wrote e e' end end' (answer_line next_answer.answer) → Rendered bytes d e' end' (drop (8 + n) rest)
  unfolding answer_lines pieces
  rendered_more r w =
      let on : drop (8 + field 4 rest 4) rest ≡ drop (8 + n) rest = ap (λ (k : ℕ). drop (8 + k) rest) (sym count) in
      record {
        text = r.text ++ answer_line next_answer.answer;
        wrote = wrote_append r.text (answer_line next_answer.answer) r.wrote w;
        whole = subst Whole on next_answer.others;
        all = r.all
            ∙ ap (λ (l : List Written). r.text ++ pieces answer_line l) next_answer.reads
            ∙ sym (append_assoc r.text (answer_line next_answer.answer) (pieces answer_line (answers_in (drop (8 + field 4 rest 4) rest))))
            ∙ ap (λ (s : List ℕ). r.text ++ answer_line next_answer.answer ++ answer_lines s) on;
      }

  pub next_short : {e e' : List ℕ} {end end' m : ℕ} → end + 2 * length rest ≤ m → Wrote e e' end end' (answer_line next_answer.answer) → end' + 2 * length (drop (8 + n) rest) ≤ m
  next_short h w = omega (arith, w.next, line_length, length-drop (8 + n) rest, next_fits)

-- One line, written as 80, the ticket's bytes, the response's and byte 10

pub answer_line_lem : (w : Written) → answer_line w ≡ hex_pair 0x80 ++ (hex_text (little_endian 4 w.ticket) ++ (hex_text w.response ++ 10 ∷ []))
unfolding answer_line pieces
answer_line_lem w =
    let t = little_endian 4 w.ticket in
    ap (λ (s : List ℕ). hex_pair 0x80 ++ s ++ 10 ∷ []) (pieces_append hex_pair t w.response) ∙ simp append_assoc

pub wrote_answer : {d e₁ e₂ e₃ : List ℕ} (answer : List ℕ) (at middle end : ℕ) (w : Written) → answer ≡ rewritten (w ∷ [])
    → e₁ ≡ sets d at (hex_pair 0x80) → Wrote e₁ e₂ (at + 2) middle (hex_text (take 4 answer)) → Wrote e₂ e₃ middle end (hex_text (take (length answer - 8) (drop 8 answer)))
    → Wrote d (set e₃ end 10) at (end + 1) (answer_line w)
wrote_answer {d} {e₁} {e₂} {e₃} answer at middle end w is p q r =
    let t = little_endian 4 w.ticket in
    let c = little_endian 4 (length w.response) in
    let ticket : take 4 answer ≡ t = ap (take 4) is ∙ take_at t (c ++ (w.response ++ [])) 4 (length_little_endian 4 w.ticket) in
    let front : length (t ++ c) ≡ 8 = length-append t c ∙ (omega (arith, length_little_endian 4 w.ticket, length_little_endian 4 (length w.response))) in
    let response : drop 8 answer ≡ w.response =
    ap (drop 8) (is ∙ sym (append_assoc t c (w.response ++ []))) ∙ drop_at (t ++ c) (w.response ++ []) 8 front ∙ append-nil w.response in
    subst (Wrote d (set e₃ end 10) at (end + 1)) (sym (answer_line_lem w))
    (wrote_append (hex_pair 0x80) (hex_text t ++ (hex_text w.response ++ 10 ∷ [])) (wrote_sets at 2 (hex_pair 0x80) (pair_length 0x80) p)
    (wrote_append (hex_text t) (hex_text w.response ++ 10 ∷ []) (subst (λ (s : List ℕ). Wrote e₁ e₂ (at + 2) middle (hex_text s)) ticket q)
    (wrote_append (hex_text w.response) (10 ∷ []) (subst (λ (s : List ℕ). Wrote e₂ e₃ middle end (hex_text s)) (rest_part 8 answer ∙ response) r)
    (wrote_sets end 1 (10 ∷ []) refl refl))))
