-- Laws of elements written one after the other in pieces of one length, and of tests at every place of a list.
use Prim.Native.Nat.{ℕ, zero, suc, ◌+◌, ◌*◌, ◌<◌}
use native.Mathlib.Nat.{mul-zero, mul-suc, le_of_suc-le-suc, not-suc-le-zero}
use native.Mathlib.Numerals.{add-one}
use native.Mathlib.Omega.{arith}
use mathlib.Core.Path.{◌≡◌, refl, sym, ap, ap₂, ◌∙◌}
use mathlib.Core.Bool.{Bool, true, false, ◌&&◌}
use mathlib.Core.List.{List, [], ◌∷◌, ◌++◌, map, append_assoc, append-nil}
use lib.ListN.{length, get_or, set, take, drop, length-append, length-drop}
use lib.Seq.{take_at, drop_at, drop-drop, take-suc}
use lib.Dec.{eqb}
use Rattle.laws.specs.Lists.{all_of, same}
use Rattle.laws.specs.Tests.{all_below}
use Rattle.laws.specs.Parts.{part, with_part, pieces, read_pieces}
use Rattle.laws.proofs.Tests.{and_left, and_right, all_ext, both}
use Rattle.laws.proofs.Lists.{no_element, all_append}
use Rattle.laws.proofs.Parts.{part_after, with_part_after}
use Rattle.laws.proofs.Same.{same_eq, same_cut}

-- of elements that pass the test p a piece has k elements
module _ {A B : Type 0} (f : A → List B) (k : ℕ) (p : A → Bool) (len : (x : A) → p x ≡ true → length (f x) ≡ k) where
  pub pieces_length : (l : List A) → all_of p l ≡ true → length (pieces f l) ≡ k * length l
  unfolding pieces
  pieces_length [] a = sym (mul-zero k)
  pieces_length (x ∷ l) a = omega (arith, length-append (f x) (pieces f l), len x (and_left (p x) _ a), pieces_length l (and_right (p x) _ a), mul-suc k (length l))

  -- elements that are read back from their pieces one by one are read back together
  pub pieces_read : (g : List B → A) → ((x : A) → p x ≡ true → g (f x) ≡ x) → (l : List A) → all_of p l ≡ true → read_pieces g k (length l) (pieces f l) ≡ l
  unfolding pieces read_pieces
  pieces_read g h [] a = refl
  pieces_read g h (x ∷ l) a =
      let this = len x (and_left (p x) _ a) in
      ap₂ (λ (y : A) (m : List A). y ∷ m)
      (ap g (take_at (f x) (pieces f l) k this) ∙ h x (and_left (p x) _ a))
      (ap (read_pieces g k (length l)) (drop_at (f x) (pieces f l) k this) ∙ pieces_read g h l (and_right (p x) _ a))

module _ {A : Type 0} (f : A → List ℕ) (k : ℕ) (p : A → Bool) (len : (x : A) → p x ≡ true → length (f x) ≡ k) where
  -- the piece of the element at a place, and the pieces with another element there
  pub pieces_part : (l : List A) → all_of p l ≡ true → (i : ℕ) (d : A) → i < length l → part (k * i) k (pieces f l) ≡ f (get_or l i d)
  unfolding pieces
  pieces_part [] a i d h = absurd (not-suc-le-zero h)
  pieces_part (x ∷ l) a zero d h = ap (λ (n : ℕ). part n k (f x ++ pieces f l)) (mul-zero k) ∙ take_at (f x) (pieces f l) k (len x (and_left (p x) _ a))
  pieces_part (x ∷ l) a (suc i) d h =
      let next : k * suc i ≡ k + k * i = omega (arith, mul-suc k i) in
      ap (λ (n : ℕ). part n k (f x ++ pieces f l)) next
      ∙ part_after (f x) (pieces f l) k (k * i) k (len x (and_left (p x) _ a))
      ∙ pieces_part l (and_right (p x) _ a) i d (le_of_suc-le-suc h)

  pub pieces_with_part : (l : List A) → all_of p l ≡ true → (i : ℕ) (y : A) → i < length l → with_part (k * i) k (pieces f l) (f y) ≡ pieces f (set l i y)
  unfolding pieces
  pieces_with_part [] a i y h = absurd (not-suc-le-zero h)
  pieces_with_part (x ∷ l) a zero y h =
      ap (λ (n : ℕ). with_part n k (f x ++ pieces f l) (f y)) (mul-zero k) ∙ ap (λ (w : List ℕ). f y ++ w) (drop_at (f x) (pieces f l) k (len x (and_left (p x) _ a)))
  pieces_with_part (x ∷ l) a (suc i) y h =
      let next : k * suc i ≡ k + k * i = omega (arith, mul-suc k i) in
      ap (λ (n : ℕ). with_part n k (f x ++ pieces f l) (f y)) next
      ∙ with_part_after (f x) (pieces f l) k (k * i) k (f y) (len x (and_left (p x) _ a))
      ∙ ap (λ (w : List ℕ). f x ++ w) (pieces_with_part l (and_right (p x) _ a) i y (le_of_suc-le-suc h))

-- What is read out of pieces

module _ {A B : Type 0} (g : List B → A) (k : ℕ) where
  pub read_length : (n : ℕ) (w : List B) → length (read_pieces g k n w) ≡ n
  unfolding read_pieces
  read_length zero w = refl
  read_length (suc n) w = ap suc (read_length n (drop k w))

  pub read_at : (n : ℕ) (w : List B) (i : ℕ) (d : A) → i < n → get_or (read_pieces g k n w) i d ≡ g (part (k * i) k w)
  unfolding read_pieces
  read_at zero w i d h = absurd (not-suc-le-zero h)
  read_at (suc n) w zero d h = ap (λ (m : ℕ). g (part m k w)) (sym (mul-zero k))
  read_at (suc n) w (suc i) d h =
      let next : k * suc i ≡ k + k * i = omega (arith, mul-suc k i) in
      read_at n (drop k w) i d (le_of_suc-le-suc h)
      ∙ ap (λ (x : List B). g (take k x)) (drop-drop (k * i) k w)
      ∙ ap (λ (m : ℕ). g (part m k w)) (sym next)

-- Lists by their places

-- a test at all places, counted from the front: the first is place 0
below_front : (q : ℕ → Bool) (n : ℕ) → all_below (suc n) q ≡ (q 0 && all_below n (λ i. q (suc i)))
unfolding all_below
below_front q zero = one (q 0)
  where
    one : (b : Bool) → (true && b) ≡ (b && true)
    one true = refl
    one false = refl
below_front q (suc n) = ap (λ (b : Bool). b && q (suc n)) (below_front q n) ∙ assoc (q 0) (all_below n (λ i. q (suc i))) (q (suc n))
  where
    assoc : (a b c : Bool) → (a && b && c) ≡ (a && (b && c))
    assoc true b c = refl
    assoc false b c = refl

module _ {A : Type 0} (p : A → Bool) (d : A) where
  pub all_places : (l : List A) → all_of p l ≡ all_below (length l) (λ i. p (get_or l i d))
  unfolding all_below
  all_places [] = refl
  all_places (x ∷ l) = ap (λ (b : Bool). p x && b) (all_places l) ∙ sym (below_front (λ i. p (get_or (x ∷ l) i d)) (length l))

-- numbers are those of the elements exactly where each is that of its place
pub same_places : {A : Type 0} (d : A) (f : A → ℕ) (w : List ℕ) (l : List A) → length w ≡ length l → same w (map f l) ≡ all_below (length l) (λ i. eqb (get_or w i 0) (f (get_or l i d)))
unfolding same all_below
same_places d f [] [] h = refl
same_places d f [] (x ∷ l) h = absurd (omega arith)
same_places d f (v ∷ w) [] h = absurd (omega arith)
same_places d f (v ∷ w) (x ∷ l) h = ap (λ (b : Bool). eqb v (f x) && b) (same_places d f w l (omega arith)) ∙ sym (below_front (λ i. eqb (get_or (v ∷ w) i 0) (f (get_or (x ∷ l) i d))) (length l))

-- words are those of the elements that they are read as exactly where each piece is
module _ {A : Type 0} (f : A → List ℕ) (k : ℕ) (len : (x : A) → length (f x) ≡ k) (g : List ℕ → A) where
  pub same_pieces : (n : ℕ) (w : List ℕ) → length w ≡ k * n → same w (pieces f (read_pieces g k n w)) ≡ all_below n (λ i. same (part (k * i) k w) (f (g (part (k * i) k w))))
  unfolding pieces read_pieces all_below
  same_pieces zero w h = same_eq w [] (no_element w (h ∙ mul-zero k))
  same_pieces (suc n) w h =
      let whole : length w ≡ k + k * n = omega (arith, h, mul-suc k n) in
      same_cut w (f (g (take k w))) (pieces f (read_pieces g k n (drop k w))) k (omega arith) (len (g (take k w)))
      ∙ ap₂ (λ (a b : Bool). a && b)
      (ap (λ (m : ℕ). same (part m k w) (f (g (part m k w)))) (sym (mul-zero k)))
      (same_pieces n (drop k w) (length-drop k w ∙ (omega arith)) ∙ all_ext _ _ n (λ i _. ap (λ (x : List ℕ). same (take k x) (f (g (take k x)))) (drop-drop (k * i) k w ∙ ap (λ (m : ℕ). drop m w) (let next : k + k * i ≡ k * suc i = omega (arith, mul-suc k i) in next))))
      ∙ sym (below_front (λ i. same (part (k * i) k w) (f (g (part (k * i) k w)))) n)

-- pieces of two lists, and of one element more
module _ {A : Type 0} (f : A → List ℕ) where
  pub pieces_append : (l m : List A) → pieces f (l ++ m) ≡ pieces f l ++ pieces f m
  unfolding pieces
  pieces_append [] m = refl
  pieces_append (x ∷ l) m = ap (λ (r : List ℕ). f x ++ r) (pieces_append l m) ∙ sym (append_assoc (f x) (pieces f l) (pieces f m))

  pub pieces_one : (x : A) → pieces f (x ∷ []) ≡ f x
  unfolding pieces
  pieces_one x = append-nil (f x)

  pub pieces_more : (l : List A) (i : ℕ) (d : A) → i < length l → pieces f (take (i + 1) l) ≡ pieces f (take i l) ++ f (get_or l i d)
  pieces_more l i d h = rw (add-one i, take-suc l i d h, pieces_append (take i l) (get_or l i d ∷ []), pieces_one (get_or l i d))

-- what holds of each word of the pieces, and of each element that is read
pub all_pieces : {A : Type 0} (q : ℕ → Bool) (f : A → List ℕ) (p : A → Bool) → ((x : A) → p x ≡ true → all_of q (f x) ≡ true) → (l : List A) → all_of p l ≡ true → all_of q (pieces f l) ≡ true
unfolding pieces
all_pieces q f p h [] e = refl
all_pieces q f p h (x ∷ l) e = all_append q (f x) (pieces f l) ∙ both (h x (and_left (p x) _ e)) (all_pieces q f p h l (and_right (p x) _ e))

pub all_read : {A : Type 0} (g : List ℕ → A) (p : A → Bool) (k : ℕ) → ((w : List ℕ) → p (g w) ≡ true) → (n : ℕ) (w : List ℕ) → all_of p (read_pieces g k n w) ≡ true
unfolding read_pieces
all_read g p k h zero w = refl
all_read g p k h (suc n) w = both (h (take k w)) (all_read g p k h n (drop k w))

-- elements that are read and written again
pub pieces_again : {A : Type 0} (f : A → List ℕ) (g : List ℕ → A) (k n : ℕ) (w : List ℕ) → pieces f (read_pieces g k n w) ≡ pieces (λ x. f (g x)) (read_pieces (λ x. x) k n w)
unfolding pieces read_pieces
pieces_again f g k zero w = refl
pieces_again f g k (suc n) w = ap (λ (r : List ℕ). f (g (take k w)) ++ r) (pieces_again f g k n (drop k w))
