-- Lines on both sides of each edge of their kinds and of the case of digits, in ASCII. What whole logs give is run.
use Rattle.std.specs.Prelude.{◌≡◌, Bool, true, false, List, [], ◌∷◌, map, ℕ, replicate}
use Rattle.log_verdict.specs.Kinds.{same_line, LineKind, question_kind, answer_kind, neither_kind, kind_of}

infix 80 ◌has_kind◌
-- a line, and its kind
pub record KindCase : Type 0 where
  pub line : List ℕ
  pub line_kind : LineKind

abbrev pub ◌has_kind◌ : List ℕ → LineKind → KindCase
line has_kind kind = record { line = line; line_kind = kind }

abbrev pub kind_cases : List KindCase
kind_cases =
    -- 80 and ff, in either case, and whatever follows
    (56 ∷ 48 ∷ []) has_kind answer_kind
    ∷ (102 ∷ 102 ∷ []) has_kind answer_kind
    ∷ (70 ∷ 102 ∷ []) has_kind answer_kind
    ∷ (70 ∷ 70 ∷ []) has_kind answer_kind
    ∷ (56 ∷ 48 ∷ 33 ∷ []) has_kind answer_kind
    -- the empty line, one digit, and digits that are no digits: 7g, which would add up to 80
    ∷ [] has_kind neither_kind
    ∷ (56 ∷ []) has_kind neither_kind
    ∷ (55 ∷ 103 ∷ []) has_kind neither_kind
    -- 0200000000 is a frame, 0300000000 is none
    ∷ (48 ∷ 50 ∷ replicate 8 48) has_kind question_kind
    ∷ (48 ∷ 51 ∷ replicate 8 48) has_kind neither_kind
    -- 80 and zeros, of 8,378 bytes and of one more
    ∷ (56 ∷ replicate 8377 48) has_kind answer_kind
    ∷ (56 ∷ replicate 8378 48) has_kind neither_kind
    ∷ []

infix 80 ◌against◌is◌
pub record CaseOfDigits : Type 0 where
  pub one : List ℕ
  pub other : List ℕ
  pub alike : Bool

abbrev pub ◌against◌is◌ : List ℕ → List ℕ → Bool → CaseOfDigits
one against other is alike = record { one = one; other = other; alike = alike }

abbrev pub cases_of_digits : List CaseOfDigits
cases_of_digits =
    -- A and F with a and f; @ and G, which stand beside them, with ` and g
    ((65 ∷ 70 ∷ []) against (97 ∷ 102 ∷ []) is true)
    ∷ ((64 ∷ []) against (96 ∷ []) is false)
    ∷ ((71 ∷ []) against (103 ∷ []) is false)
    -- another digit; one more
    ∷ ((97 ∷ []) against (98 ∷ []) is false)
    ∷ ((97 ∷ []) against (97 ∷ 97 ∷ []) is false)
    ∷ []

pub record LineCases : Type 0 where
  pub kinds : map (λ (c : KindCase). kind_of c.line) kind_cases ≡ map (λ (c : KindCase). c.line_kind) kind_cases
  pub digits : map (λ (c : CaseOfDigits). same_line c.one c.other) cases_of_digits ≡ map (λ (c : CaseOfDigits). c.alike) cases_of_digits
