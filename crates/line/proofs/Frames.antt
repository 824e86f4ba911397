-- Laws of the frames in a line: what each length and each first byte decides, and what the code reads out of the digits.
use mathlib.Core.Path.{◌≡◌, sym, ap, ap₂, ◌∙◌}
use mathlib.Core.Bool.{true, false, cond}
use mathlib.Core.List.{List, []}
use Prim.Native.Nat.{ℕ, ◌*◌, ◌-◌, ◌/◌, ◌≤◌, ◌<◌}
use native.Mathlib.Omega.{arith}
use lib.Dec.{eqb}
use lib.ListN.{length, get_or, take, drop, length-drop}
use lib.Seq.{sets, length-take-le}
use borrow.Author.Tests.{eq-eqb, ne_eqb}
use Rattle.std.specs.Prelude.{Option, None, Some}
use Rattle.laws.specs.Tests.{within}
use Rattle.laws.proofs.Tests.{within_true, within_below, within_above}
use Rattle.laws.proofs.Lists.{decide}
use Rattle.laws.proofs.Stores.{rest_part, take_sets, sets_whole}
use Rattle.field.specs.Field.{field}
use Rattle.field.proofs.Laws.{field_part}
use Rattle.model.specs.Steps.{command, finish, drained}
use Rattle.line.specs.Hex.{is_hex, hex_bytes}
use Rattle.line.specs.Line.{Line, step_line, no_frame, command_in, finish_in, drained_in, frame_in, line_of, of_length, command_bytes}
use Rattle.line.proofs.Digits.{length_bytes, bytes_drop, bytes_take, hex_even}

-- By the first byte

module _ (b : List ℕ) where
  pub kind_command : get_or b 0 0 ≡ 0x00 → frame_in b ≡ command_in b
  unfolding frame_in
  kind_command e = rw (eq-eqb (get_or b 0 0) 0x00 e)

  pub kind_finish : get_or b 0 0 ≡ 0x01 → frame_in b ≡ finish_in b
  unfolding frame_in
  kind_finish e = rw e

  pub kind_drained : get_or b 0 0 ≡ 0x02 → frame_in b ≡ drained_in b
  unfolding frame_in
  kind_drained e = rw e

  pub kind_other : (get_or b 0 0 ≡ 0x00 → ⊥) → (get_or b 0 0 ≡ 0x01 → ⊥) → (get_or b 0 0 ≡ 0x02 → ⊥) → frame_in b ≡ no_frame
  unfolding frame_in
  kind_other x y z = rw (ne_eqb (get_or b 0 0) 0x00 x, ne_eqb (get_or b 0 0) 0x01 y, ne_eqb (get_or b 0 0) 0x02 z)

  -- reports bring nothing into the buffer
  pub finish_bytes : command_bytes (finish_in b) ≡ []
  unfolding finish_in
  finish_bytes = decide (eqb (length b) 25) (λ e. rw e) (λ e. rw e)

  pub drained_bytes : command_bytes (drained_in b) ≡ []
  unfolding drained_in
  drained_bytes = decide (eqb (length b) 5) (λ e. rw e) (λ e. rw e)

  -- a length that no kind has
  no_length : within (length b) 5 4189 ≡ false → eqb (length b) 25 ≡ false → eqb (length b) 5 ≡ false → frame_in b ≡ no_frame
  unfolding frame_in command_in finish_in drained_in
  no_length x y z =
      rw (x, y, z)
      (decide (eqb (get_or b 0 0) 0x00) (λ e. rw e) (λ e. rw e
      (decide (eqb (get_or b 0 0) 0x01) (λ e. rw e) (λ e. rw e
      (decide (eqb (get_or b 0 0) 0x02) (λ e. rw e) (λ e. rw e))))))

  -- fewer than 5 bytes are no frame of any kind, and neither are more than 4,189
  pub too_few : length b < 5 → frame_in b ≡ no_frame
  too_few h = no_length (within_below (length b) 5 4189 h) (ne_eqb (length b) 25 (λ e. omega (arith, e, h))) (ne_eqb (length b) 5 (λ e. omega (arith, e, h)))

  pub too_many : 4189 < length b → frame_in b ≡ no_frame
  too_many h =
      no_length (within_above (length b) 5 4189 h) (ne_eqb (length b) 25 (λ e. omega (arith, e, h))) (ne_eqb (length b) 5 (λ e. omega (arith, e, h)))

-- Of a line

pub line_bad : (line : List ℕ) → is_hex line ≡ false → line_of line ≡ no_frame
unfolding line_of
line_bad line e = rw e

pub line_hex : (line : List ℕ) → is_hex line ≡ true → line_of line ≡ frame_in (hex_bytes line)
unfolding line_of
line_hex line e = rw e

-- what is answered for a line and stored of it, where the line is known to be m
pub line_as : (line frame frame' : List ℕ) (l m : Line) → line_of line ≡ m → l ≡ m → frame' ≡ sets frame 0 (command_bytes m)
    → (l ≡ line_of line) × (frame' ≡ sets frame 0 (command_bytes (line_of line)))
line_as line frame frame' l m e p q = (p ∙ sym e, q ∙ ap (λ (x : Line). sets frame 0 (command_bytes x)) (sym e))

module _ (line : List ℕ) (hex : is_hex line ≡ true) where
  pub line_short : length line < 10 → line_of line ≡ no_frame
  line_short h = line_hex line hex ∙ too_few (hex_bytes line) (omega (arith, length_bytes line))

  pub over_long_hex : 8378 < length line → line_of line ≡ no_frame
  over_long_hex h = line_hex line hex ∙ too_many (hex_bytes line) (omega (arith, length_bytes line, hex_even line hex))

  pub command_long : 8378 < length line → command_in (hex_bytes line) ≡ no_frame
  unfolding command_in
  command_long h = rw (within_above (length (hex_bytes line)) 5 4189 (omega (arith, length_bytes line, hex_even line hex)))

-- the bytes of a report's line in a local array
array_is : (d line bytes : List ℕ) → length line ≡ 2 * length d → bytes ≡ sets d 0 (hex_bytes line) → bytes ≡ hex_bytes line
array_is d line bytes h e = e ∙ sets_whole d (hex_bytes line) (omega (arith, length_bytes line))

-- the digits of so many bytes, or of another number
pub length_other : (n : ℕ) (line : List ℕ) → (length line / 2 ≡ n → ⊥) → None ≡ of_length n (hex_bytes line)
length_other n line h = rw (ne_eqb (length (hex_bytes line)) n (λ e. h (sym (length_bytes line) ∙ e)))

pub length_is : (n : ℕ) (line d bytes : List ℕ) → is_hex line ≡ true → length line / 2 ≡ n → length d ≡ n → bytes ≡ sets d 0 (hex_bytes line)
    → Some bytes ≡ of_length n (hex_bytes line)
length_is n line d bytes hex h k e =
    rw (eq-eqb (length (hex_bytes line)) n (length_bytes line ∙ h), array_is d line bytes (omega (arith, h, k, hex_even line hex)) e)

-- a report is read where there are so many bytes
abbrev report : (List ℕ → Line) → Option (List ℕ) → Line
report f (Some b) = f b
report f None = no_frame

report_is : (f : List ℕ → Line) (n : ℕ) (b : List ℕ) → report f (of_length n b) ≡ cond (eqb (length b) n) (f b) no_frame
report_is f n b = decide (eqb (length b) n) (λ e. rw e) (λ e. rw e)

abbrev finish_of : List ℕ → Line
finish_of b = step_line (finish (field 4 b 1) (field 4 b 5) (field 4 b 9) (field 4 b 13) (field 8 b 17))

abbrev drained_of : List ℕ → Line
drained_of b = step_line (drained (field 4 b 1))

module _ (b : List ℕ) where
  pub finish_other : None ≡ of_length 25 b → no_frame ≡ finish_in b
  unfolding finish_in
  finish_other e = ap (report finish_of) e ∙ report_is finish_of 25 b

  pub drained_other : None ≡ of_length 5 b → no_frame ≡ drained_in b
  unfolding drained_in
  drained_other e = ap (report drained_of) e ∙ report_is drained_of 5 b

  pub finish_read : {bytes : List ℕ} {n q r f t : ℕ} → Some bytes ≡ of_length 25 b
      → n ≡ field 4 bytes 1 → q ≡ field 4 bytes 5 → r ≡ field 4 bytes 9 → f ≡ field 4 bytes 13 → t ≡ field 8 bytes 17
      → step_line (finish n q r f t) ≡ finish_in b
  unfolding finish_in
  finish_read {bytes} {n} {q} {r} {f} {t} e a₁ a₂ a₃ a₄ a₅ = rw (a₁, a₂, a₃, a₄, a₅) (ap (report finish_of) e ∙ report_is finish_of 25 b)

  pub drained_read : {bytes : List ℕ} {n : ℕ} → Some bytes ≡ of_length 5 b → n ≡ field 4 bytes 1 → step_line (drained n) ≡ drained_in b
  unfolding drained_in
  drained_read {bytes} {n} e a = rw a (ap (report drained_of) e ∙ report_is drained_of 5 b)

-- a command's ticket stands in the line's first 10 digits, its bytes in the others
module _ (line frame : List ℕ) (least : 10 ≤ length line) (most : length line ≤ 8378) (room : 4184 ≤ length frame) where
  taken : command_in (hex_bytes line) ≡ step_line (command (field 4 (hex_bytes line) 1) (drop 5 (hex_bytes line)))
  unfolding command_in
  taken = rw (within_true (length (hex_bytes line)) 5 4189 (omega (arith, length_bytes line)) (omega (arith, length_bytes line)))

  size : length (drop 5 (hex_bytes line)) ≡ length line / 2 - 5
  size = length-drop 5 (hex_bytes line) ∙ ap (λ n. n - 5) (length_bytes line)

  pub command_read : (d head frame' : List ℕ) (ticket : ℕ) → length d ≡ 5 → head ≡ sets d 0 (hex_bytes (take 10 line)) → ticket ≡ field 4 head 1
      → frame' ≡ sets frame 0 (hex_bytes (take (length line - 10) (drop 10 line)))
      → (step_line (command ticket (take (length line / 2 - 5) frame')) ≡ command_in (hex_bytes line)) × (frame' ≡ sets frame 0 (command_bytes (command_in (hex_bytes line))))
  command_read d head frame' ticket k e t f =
      let bytes = hex_bytes line in
      let first : head ≡ take 5 bytes = array_is d (take 10 line) head (length-take-le 10 line least ∙ (omega arith)) e ∙ bytes_take 5 line in
      let number : ticket ≡ field 4 bytes 1 = t ∙ ap (λ (s : List ℕ). field 4 s 1) first ∙ field_part 4 bytes 0 5 1 (omega arith) in
      let others : frame' ≡ sets frame 0 (drop 5 bytes) = f ∙ ap (λ (s : List ℕ). sets frame 0 (hex_bytes s)) (rest_part 10 line) ∙ ap (sets frame 0) (bytes_drop 5 line) in
      let stored : take (length line / 2 - 5) frame' ≡ drop 5 bytes =
      ap₂ (λ (n : ℕ) (s : List ℕ). take n s) (sym size) others ∙ take_sets frame (drop 5 bytes) (omega (arith, size)) in
      (ap₂ (λ (n : ℕ) (s : List ℕ). step_line (command n s)) number stored ∙ sym taken, others ∙ ap (λ (l : Line). sets frame 0 (command_bytes l)) (sym taken))
