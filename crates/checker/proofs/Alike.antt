-- Laws of lines that are equal, the case of digits aside, byte by byte; and the kind of a line that was decoded.
use mathlib.Core.Path.{◌≡◌, refl, sym, ap, ◌∙◌}
use mathlib.Core.Bool.{Bool, false, ◌&&◌}
use mathlib.Core.List.{List, [], ◌∷◌}
use Rattle.std.specs.Prelude.{Option}
use Rattle.std.specs.List.{list_all, zip}
use Prim.Native.Nat.{ℕ, ◌≤◌}
use native.Mathlib.Omega.{arith}
use lib.Dec.{eqb}
use lib.ListN.{length, length-map}
use borrow.Author.Tests.{le-ltb}
use Rattle.laws.specs.Lists.{same}
use Rattle.laws.proofs.Same.{same_ne}
use Rattle.line.specs.declared.Frame.{Frame}
use Rattle.line.specs.Line.{line_of, decoded}
use Rattle.line.specs.Split.{longest_line}
use Rattle.log_verdict.specs.Kinds.{lower_case, in_lower_case, same_line, begins_with, frame_kind, kind_of}

-- two lines of one length are equal where each byte of the one is, in lower case, that of the other; and two of other lengths never are
pub alike_by_bytes : (a b : List ℕ) → length a ≡ length b → list_all (λ (p : ℕ × ℕ). eqb (lower_case p.0) (lower_case p.1)) (zip a b) ≡ same_line a b
unfolding same_line same
alike_by_bytes [] [] h = refl
alike_by_bytes [] (y ∷ ys) h = absurd (omega arith)
alike_by_bytes (x ∷ xs) [] h = absurd (omega arith)
alike_by_bytes (x ∷ xs) (y ∷ ys) h = ap (λ (t : Bool). eqb (lower_case x) (lower_case y) && t) (alike_by_bytes xs ys (omega arith))

pub other_length : (a b : List ℕ) → (length a ≡ length b → ⊥) → false ≡ same_line a b
unfolding same_line
other_length a b h = sym (same_ne (in_lower_case a) (in_lower_case b) (λ e. h (sym (length-map a lower_case) ∙ ap length e ∙ length-map b lower_case)))

-- what a line that is neither over-long nor begins as an answer was decoded to decides its kind
pub kind_frame : (d : Option Frame) (line frame : List ℕ) → length line ≤ longest_line → begins_with 0x80 line ≡ false → begins_with 0xff line ≡ false → decoded d frame ≡ line_of line
    → frame_kind (decoded d frame) ≡ kind_of line
unfolding kind_of
kind_frame d line frame short x y e = rw (le-ltb longest_line (length line) short, x, y, e)
