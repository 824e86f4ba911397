-- Every step that fits has a line that stands for it: text is read back, and so are the frame's fields.
use mathlib.Core.Path.{◌≡◌, refl, sym, ap, ap₂, ◌∙◌}
use mathlib.Core.Bool.{true}
use mathlib.Core.List.{List, [], ◌∷◌, ◌++◌}
use Prim.Native.Nat.{ℕ, ◌+◌, ◌*◌, ◌/◌, ◌%◌, ◌^◌, ◌≤◌, ◌<◌}
use native.Mathlib.Omega.{arith}
use lib.Dec.{ltb}
use lib.ListN.{length}
use borrow.Author.Tests.{ltb-true, lt-ltb}
use Rattle.laws.specs.Tests.{within}
use Rattle.laws.specs.Lists.{all_of}
use Rattle.laws.specs.Parts.{pieces}
use Rattle.laws.proofs.Tests.{both, and_left, and_right, within_true}
use Rattle.laws.proofs.Lists.{all_append}
use Rattle.laws.proofs.Table.{table_rule}
use Rattle.field.specs.Field.{field, little_endian}
use Rattle.field.proofs.Laws.{field_after, field_back, little_endian_bytes}
use Rattle.model.specs.Steps.{Act, command, finish, drained}
use Rattle.model.specs.WellFormed.{u8, u32, u64, good_act}
use Rattle.line.specs.Hex.{digit_of, is_hex, hex_bytes, lower_digit, hex_pair, hex_text}
use Rattle.line.specs.Line.{step_line, command_in, finish_in, drained_in, frame_in}
use Rattle.line.specs.Promises.{frame_bytes, EveryStep}
use Rattle.line.proofs.Frames.{line_hex}

-- Text

below16 : List ℕ
below16 = 0 ∷ 1 ∷ 2 ∷ 3 ∷ 4 ∷ 5 ∷ 6 ∷ 7 ∷ 8 ∷ 9 ∷ 10 ∷ 11 ∷ 12 ∷ 13 ∷ 14 ∷ 15 ∷ []

pub digit_back : (n : ℕ) → n < 16 → digit_of (lower_digit n) ≡ n
unfolding below16 digit_of lower_digit within
digit_back n h = sym (table_rule (λ k. digit_of (lower_digit k)) below16 tt n h) ∙ table_rule (λ k. k) below16 tt n h

text_hex : (s : List ℕ) → all_of (λ b. ltb b 256) s ≡ true → is_hex (hex_text s) ≡ true
unfolding is_hex pieces hex_pair
text_hex [] h = refl
text_hex (b ∷ s) h =
    let small = ltb-true b 256 (and_left (ltb b 256) _ h) in
    both (lt-ltb (digit_of (lower_digit (b / 16))) 16 (omega (arith, digit_back (b / 16) (omega arith))))
    (both (lt-ltb (digit_of (lower_digit (b % 16))) 16 (omega (arith, digit_back (b % 16) (omega arith)))) (text_hex s (and_right (ltb b 256) _ h)))

text_back : (s : List ℕ) → all_of (λ b. ltb b 256) s ≡ true → hex_bytes (hex_text s) ≡ s
unfolding hex_bytes pieces hex_pair
text_back [] h = refl
text_back (b ∷ s) h =
    let small = ltb-true b 256 (and_left (ltb b 256) _ h) in
    let byte : 16 * digit_of (lower_digit (b / 16)) + digit_of (lower_digit (b % 16)) ≡ b = omega (arith, digit_back (b / 16) (omega arith), digit_back (b % 16) (omega arith)) in
    ap₂ (λ (x : ℕ) (l : List ℕ). x ∷ l) byte (text_back s (and_right (ltb b 256) _ h))

-- Fields

number_back : (w : ℕ) (p : List ℕ) (n : ℕ) (rest : List ℕ) → n < 256 ^ w → field w (p ++ (little_endian w n ++ rest)) (length p + 0) ≡ n
number_back w p n rest h = field_after w p (little_endian w n ++ rest) 0 ∙ field_back w n rest h

small32 : (n : ℕ) → u32 n ≡ true → n < 256 ^ 4
unfolding u32
small32 n e = ltb-true n (2 ^ 32) e

small64 : (n : ℕ) → u64 n ≡ true → n < 256 ^ 8
unfolding u64
small64 n e = ltb-true n (2 ^ 64) e

bytes_of : (w n : ℕ) (rest : List ℕ) → all_of (λ b. ltb b 256) rest ≡ true → all_of (λ b. ltb b 256) (little_endian w n ++ rest) ≡ true
bytes_of w n rest h = all_append (λ b. ltb b 256) (little_endian w n) rest ∙ both (little_endian_bytes w n) h

frame_small : (a : Act) → good_act a ≡ true → all_of (λ b. ltb b 256) (frame_bytes a) ≡ true
unfolding u8
frame_small (command t f) g = bytes_of 4 t f (and_right (u32 t) _ g)
frame_small (finish n q r f t) g = bytes_of 4 n _ (bytes_of 4 q _ (bytes_of 4 r _ (bytes_of 4 f (little_endian 8 t) (little_endian_bytes 8 t))))
frame_small (drained n) g = little_endian_bytes 4 n

frame_back : (a : Act) → good_act a ≡ true → length (frame_bytes a) ≤ 4189 → frame_in (frame_bytes a) ≡ step_line a
unfolding frame_in command_in finish_in drained_in little_endian
frame_back (command t f) g h =
    rw (within_true (length (frame_bytes (command t f))) 5 4189 (omega arith) h)
    (ap (λ (n : ℕ). step_line (command n f)) (number_back 4 (0x00 ∷ []) t f (small32 t (and_left (u32 t) _ g))))
frame_back (finish n q r f t) g h =
    let w = little_endian 4 in
    let stamp = little_endian 8 t in
    let after_n = and_right (u32 n) _ g in
    let after_q = and_right (u32 q) _ after_n in
    let after_r = and_right (u32 r) _ after_q in
    let is_n = number_back 4 (0x01 ∷ []) n (w q ++ (w r ++ (w f ++ stamp))) (small32 n (and_left (u32 n) _ g)) in
    let is_q = number_back 4 (0x01 ∷ w n) q (w r ++ (w f ++ stamp)) (small32 q (and_left (u32 q) _ after_n)) in
    let is_r = number_back 4 (0x01 ∷ (w n ++ w q)) r (w f ++ stamp) (small32 r (and_left (u32 r) _ after_q)) in
    let is_f = number_back 4 (0x01 ∷ (w n ++ (w q ++ w r))) f stamp (small32 f (and_left (u32 f) _ after_r)) in
    let is_t = number_back 8 (0x01 ∷ (w n ++ (w q ++ (w r ++ w f)))) t [] (small64 t (and_right (u32 f) _ after_r)) in
    λ i. step_line (finish (is_n i) (is_q i) (is_r i) (is_f i) (is_t i))
frame_back (drained n) g h = ap (λ (k : ℕ). step_line (drained k)) (number_back 4 (0x02 ∷ []) n [] (small32 n g))

pub every_step : EveryStep
every_step a g h =
    let s = frame_bytes a in
    let small = frame_small a g in
    line_hex (hex_text s) (text_hex s small) ∙ ap frame_in (text_back s small) ∙ frame_back a g h
