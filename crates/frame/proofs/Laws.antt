-- Laws of the definitions, each in the form that a step of the code wants.
use mathlib.Core.Path.{◌≡◌, refl, ap, ◌∙◌}
use mathlib.Core.Bool.{Bool, true, false, not, ◌&&◌, ◌||◌}
use mathlib.Core.List.{List}
use Prim.Native.Nat.{ℕ, zero, suc, ◌+◌, ◌*◌, ◌/◌, ◌-◌, ◌^◌, ◌<◌}
use native.Mathlib.Omega.{arith}
use lib.Dec.{leb, ltb, eqb}
use borrow.Author.Tests.{le-leb, leb-true, ne_eqb}
use lib.ListN.{length, get_or, take, drop, length-drop}
use Rattle.laws.specs.Lists.{total}
use Rattle.laws.proofs.Tests.{tests_same, leb_not_ltb}
use Rattle.laws.proofs.Lists.{decide, total_more}
use Rattle.std.specs.Prelude.{is_some}
use Rattle.std.specs.List.{list_all}
use Rattle.laws.specs.Parts.{read_pieces}
use Rattle.laws.proofs.Stores.{rest_part}
use Rattle.field.proofs.Laws.{field_part}
use Rattle.tag.specs.Tag.{good_tag, tag_length}
use Rattle.model.specs.Frames.{word, words_at, num_entries, entry_addr, entry_length, entry_bytes}
use Rattle.model.specs.Commands.{bad_entry}
use Rattle.frame.specs.Frame.{good_entry}

-- a tag of which the length was found
pub some_length : (t : List ℕ) → is_some (tag_length t) ≡ good_tag t
unfolding tag_length
some_length t = decide (good_tag t) (λ g. rw g) (λ g. rw g)

-- Sums of entry counts

words_length : (f : List ℕ) (at k : ℕ) → length (words_at f at k) ≡ k
words_length f at zero = refl
words_length f at (suc k) = ap suc (words_length f (at + 4) k)

word_at : (f : List ℕ) (at k i : ℕ) → i < k → get_or (words_at f at k) i 0 ≡ word f (at + 4 * i)
word_at f at zero i h = absurd (omega arith)
word_at f at (suc k) zero h = ap (word f) (omega arith)
word_at f at (suc k) (suc i) h = word_at f (at + 4) k i (omega arith) ∙ ap (word f) (omega arith)

-- one count more, which stands 48 bytes behind the start of the payload
pub sum_more : (f : List ℕ) (i : ℕ) → i < 8 → total (take (i + 1) (num_entries f)) ≡ total (take i (num_entries f)) + word f (8 + (48 + 4 * i))
sum_more f i h =
    total_more (words_at f 56 8) i h
    ∙ ap (λ (v : ℕ). total (take i (num_entries f)) + v) (word_at f 56 8 i h ∙ ap (word f) (omega arith))

-- Entries

-- the code's test, which does not wrap
pub entry_test : (e : List ℕ) (address len : ℕ) → address ≡ entry_addr e → len ≡ entry_length e → address < 2 ^ 64 → (len ≡ 0 → ⊥) → leb (len - 1) (18446744073709551615 - address) ≡ good_entry e
unfolding good_entry
entry_test e address len p q h k =
    let a : ℕ = len - 1 in
    let b : ℕ = 18446744073709551615 - address in
    let end : ℕ = address + len in
    rw (← p, ← q, ne_eqb len 0 k)
    (tests_same (leb a b) (leb end (2 ^ 64)) (λ t. le-leb end (2 ^ 64) (omega (arith, leb-true a b t))) (λ t. le-leb a b (omega (arith, leb-true end (2 ^ 64) t)))
    ∙ leb_not_ltb end (2 ^ 64))

-- an entry is read from its first 16 bytes
good_front : (es : List ℕ) → good_entry (take entry_bytes es) ≡ good_entry es
unfolding good_entry
good_front es = rw (field_part 8 es 0 16 0 (omega arith), field_part 4 es 0 16 8 (omega arith))

-- none of two tests and of the rest hits where neither does and none of the rest
none_hits : (a b r : Bool) → (not a && not b) && not r ≡ not (a || (b || r))
none_hits true b r = refl
none_hits false true r = refl
none_hits false false r = refl

-- k entries one after the other
pub each_good : (k : ℕ) (es : List ℕ) → list_all good_entry (read_pieces (λ x. x) entry_bytes k es) ≡ not (bad_entry k es)
unfolding good_entry read_pieces
each_good zero es = refl
each_good (suc k) es =
    rw (good_front es, each_good k (drop entry_bytes es)) (none_hits (eqb (entry_length es) 0) (ltb (2 ^ 64) (entry_addr es + entry_length es)) (bad_entry k (drop entry_bytes es)))

-- the rest of a frame whose length goes with so many entries
pub entries_rest : (f : List ℕ) (k : ℕ) → length f ≡ 88 + 16 * k →
    bad_entry k (drop 88 f) ≡ bad_entry (length (take (length f - 88) (drop 88 f)) / 16) (take (length f - 88) (drop 88 f))
entries_rest f k h =
    let n : length (drop 88 f) / 16 ≡ k = simp length-drop (omega arith) in
    rw (rest_part 88 f, n)
