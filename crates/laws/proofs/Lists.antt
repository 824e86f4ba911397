-- Laws of lists picked by a test, of any, all and how many of their elements, of elements changed and set, of the numbers below one, and of sorting by a key: by cases on
-- the test, with `decide`.
use mathlib.Core.Path.{◌≡◌, refl, sym, ap, ap₂, ◌∙◌, subst}
use mathlib.Core.Bool.{Bool, true, false, cond, not, ◌&&◌, ◌||◌, and_comm, and_assoc, true≢false, false≢true}
use Rattle.std.specs.Prelude.{Option, None, Some, is_some}
use mathlib.Core.List.{List, [], ◌∷◌, ◌++◌, map, append_assoc, append-nil, map-append}
use Prim.Native.Nat.{ℕ, zero, suc, ◌+◌, ◌<◌, ◌≤◌}
use native.Mathlib.Omega.{arith}
use native.Mathlib.Numerals.{add-one}
use lib.ListN.{length, take, drop, get_or, set, length-append}
use lib.Seq.{take-suc}
use lib.Dec.{ltb, eqb}
use borrow.Author.Tests.{eqb-true, ltb-true, ltb-false, lt-ltb, le-ltb, eqb-false, eq-eqb, ne_eqb, not-true}
use Rattle.laws.specs.Lists.{keep, any_of, all_of, Each, how_many, is_empty, is_none, total, numbers_below}
use Rattle.laws.specs.Ascending.{below, not_below, insert_by, ascending}
use Rattle.laws.proofs.Tests.{both, and_left, and_right}

-- by cases on a test
pub decide {ℓ} : {P : Type ℓ} (t : Bool) → (t ≡ true → P) → (t ≡ false → P) → P
decide true a b = a refl
decide false a b = b refl

-- what holds of both arms holds of the test's choice
pub cond_elim : {A : Type 0} (P : A → Type 0) (t : Bool) {x y : A} → (t ≡ true → P x) → (t ≡ false → P y) → P (cond t x y)
cond_elim P true a b = a refl
cond_elim P false a b = b refl

-- what holds of every element of a list
module _ {A : Type 0} where
  pub each_map : (P Q : A → Type 0) → ((x : A) → P x → Q x) → (l : List A) → Each P l → Each Q l
  each_map P Q h [] e = tt
  each_map P Q h (x ∷ l) e = (h x e.0, each_map P Q h l e.1)

  pub each_all : (p : A → Bool) (l : List A) → all_of p l ≡ true → Each (λ x. p x ≡ true) l
  each_all p [] e = tt
  each_all p (x ∷ l) e = (and_left (p x) (all_of p l) e, each_all p l (and_right (p x) (all_of p l) e))

  pub each_behind : (P : A → Type 0) (l m : List A) → Each P (l ++ m) → Each P m
  each_behind P [] m e = e
  each_behind P (x ∷ l) m e = each_behind P l m e.1

-- a number is its own equal, and unequal both ways
pub eqb_same : (n : ℕ) → eqb n n ≡ true
eqb_same n = eq-eqb n n refl

pub eqb_sym : (m n : ℕ) → eqb m n ≡ false → eqb n m ≡ false
eqb_sym m n e = ne_eqb n m (λ p. eqb-false m n e (sym p))

-- a list without length is empty, and one of length 1 has one element
pub no_element : {A : Type 0} (l : List A) → length l ≡ 0 → l ≡ []
no_element [] e = refl
no_element (x ∷ l) e = absurd (omega arith)

pub one_element : {A : Type 0} (l : List A) → length l ≡ 1 → (x : A) × (l ≡ x ∷ [])
one_element [] e = absurd (omega arith)
one_element (x ∷ l) e = (x, ap (λ r. x ∷ r) (no_element l (omega arith)))

pub empty_is : {A : Type 0} (l : List A) → is_empty l ≡ true → l ≡ []
empty_is [] e = refl
empty_is (x ∷ l) e = absurd (true≢false (sym e))

-- a test that asks nothing of the element is passed by each
pub all_true : {A : Type 0} (l : List A) → all_of (λ x. true) l ≡ true
all_true [] = refl
all_true (x ∷ l) = all_true l

-- and keeps all or none
pub keep_const : {A : Type 0} (t : Bool) (l : List A) → keep (λ x. t) l ≡ cond t l []
keep_const true [] = refl
keep_const true (x ∷ l) = ap (λ r. x ∷ r) (keep_const true l)
keep_const false [] = refl
keep_const false (x ∷ l) = keep_const false l

-- the elements that pass: tests that agree, a test after another, a test that none passes, and two lists
module _ {A : Type 0} where
  pub keep_ext : (p q : A → Bool) → ((x : A) → p x ≡ q x) → (l : List A) → keep p l ≡ keep q l
  keep_ext p q h [] = refl
  keep_ext p q h (x ∷ l) = simp (h x, keep_ext p q h l)

  pub keep_keep : (p q : A → Bool) (l : List A) → keep p (keep q l) ≡ keep (λ x. q x && p x) l
  keep_keep p q [] = refl
  keep_keep p q (x ∷ l) = decide (q x) (λ e. simp (e, keep_keep p q l)) (λ e. simp (e, keep_keep p q l))

  pub keep_append : (p : A → Bool) (l m : List A) → keep p (l ++ m) ≡ keep p l ++ keep p m
  keep_append p [] m = refl
  keep_append p (x ∷ l) m = decide (p x) (λ e. simp (e, keep_append p l m)) (λ e. simp (e, keep_append p l m))

  pub keep_comm : (p q : A → Bool) (l : List A) → keep p (keep q l) ≡ keep q (keep p l)
  keep_comm p q l = keep_keep p q l ∙ keep_ext _ _ (λ x. and_comm (q x) (p x)) l ∙ sym (keep_keep q p l)

-- a second test that all of those pass, or none
module _ {A : Type 0} where
  pub keep_implied : (p q : A → Bool) → ((x : A) → p x ≡ true → q x ≡ true) → (l : List A) → keep q (keep p l) ≡ keep p l
  keep_implied p q h [] = refl
  keep_implied p q h (x ∷ l) = decide (p x) (λ e. simp (e, h x e, keep_implied p q h l)) (λ e. simp (e, keep_implied p q h l))

  pub keep_excluded : (p q : A → Bool) → ((x : A) → p x ≡ true → q x ≡ false) → (l : List A) → keep q (keep p l) ≡ []
  keep_excluded p q h [] = refl
  keep_excluded p q h (x ∷ l) = decide (p x) (λ e. simp (e, h x e, keep_excluded p q h l)) (λ e. simp (e, keep_excluded p q h l))

  -- where none is kept, none passes
  pub any_none : (p : A → Bool) (l : List A) → keep p l ≡ [] → any_of p l ≡ false
  any_none p [] h = refl
  any_none p (x ∷ l) h = decide (p x) (λ e. absurd (true≢false (sym (ap is_empty (simp e at h))))) (λ e. simp e (any_none p l (simp e at h)))

-- any and all of a list's elements
module _ {A : Type 0} (p : A → Bool) where
  -- the first passes, or one of the others; one of either list
  pub any_first : (x : A) (l : List A) → any_of p (x ∷ l) ≡ (p x || any_of p l)
  any_first x l = decide (p x) (λ e. simp e) (λ e. simp e)

  pub any_append : (l m : List A) → any_of p (l ++ m) ≡ (any_of p l || any_of p m)
  any_append [] m = refl
  any_append (x ∷ l) m = decide (p x) (λ e. simp e) (λ e. simp (e, any_append l m))

  -- where none passes, neither does the first nor one of the others
  pub any_head : (x : A) (l : List A) → any_of p (x ∷ l) ≡ false → p x ≡ false
  any_head x l h = decide (p x) (λ e. e ∙ (simp e at h)) (λ e. e)

  pub any_tail : (x : A) (l : List A) → any_of p (x ∷ l) ≡ false → any_of p l ≡ false
  any_tail x l h = simp (any_head x l h) at h

  pub all_append : (l m : List A) → all_of p (l ++ m) ≡ all_of p l && all_of p m
  all_append [] m = refl
  all_append (x ∷ l) m = rw (all_append l m) (sym (and_assoc (p x) (all_of p l) (all_of p m)))

  -- all of a list pass: so do all with the first two swapped, all of its parts, and the one at each place
  pub all_swap : (x y : A) (l : List A) → all_of p (x ∷ y ∷ l) ≡ true → all_of p (y ∷ x ∷ l) ≡ true
  all_swap x y l h = let e = each_all p (x ∷ y ∷ l) h in both e.1.0 (both e.0 (and_right (p y) _ (and_right (p x) _ h)))

  pub all_take : (k : ℕ) (l : List A) → all_of p l ≡ true → all_of p (take k l) ≡ true
  all_take zero l h = refl
  all_take (suc k) [] h = refl
  all_take (suc k) (x ∷ l) h = both (and_left (p x) (all_of p l) h) (all_take k l (and_right (p x) (all_of p l) h))

  pub all_drop : (k : ℕ) (l : List A) → all_of p l ≡ true → all_of p (drop k l) ≡ true
  all_drop zero l h = h
  all_drop (suc k) [] h = refl
  all_drop (suc k) (x ∷ l) h = all_drop k l (and_right (p x) (all_of p l) h)

  pub all_get_d : (l : List A) (i : ℕ) (d : A) → p d ≡ true → all_of p l ≡ true → p (get_or l i d) ≡ true
  all_get_d [] i d e h = e
  all_get_d (x ∷ l) zero d e h = and_left (p x) (all_of p l) h
  all_get_d (x ∷ l) (suc i) d e h = all_get_d l i d e (and_right (p x) (all_of p l) h)

  pub all_set : (l : List A) (i : ℕ) (y : A) → p y ≡ true → all_of p l ≡ true → all_of p (set l i y) ≡ true
  all_set [] i y e h = refl
  all_set (x ∷ l) zero y e h = both e (and_right (p x) (all_of p l) h)
  all_set (x ∷ l) (suc i) y e h = both (and_left (p x) (all_of p l) h) (all_set l i y e (and_right (p x) (all_of p l) h))

  pub all_keep : (q : A → Bool) (l : List A) → all_of p l ≡ true → all_of p (keep q l) ≡ true
  all_keep q [] h = refl
  all_keep q (x ∷ l) h =
      let t = all_keep q l (and_right (p x) (all_of p l) h) in
      decide (q x) (λ e. simp (e, and_left (p x) (all_of p l) h, t)) (λ e. simp (e, t))

  -- a test that p implies
  module _ (q : A → Bool) (h : (x : A) → p x ≡ true → q x ≡ true) where
    pub all_implied : (l : List A) → all_of p l ≡ true → all_of q l ≡ true
    all_implied [] e = refl
    all_implied (x ∷ l) e = both (h x (and_left (p x) (all_of p l) e)) (all_implied l (and_right (p x) (all_of p l) e))

    pub all_kept : (l : List A) → all_of q (keep p l) ≡ true
    all_kept [] = refl
    all_kept (x ∷ l) = decide (p x) (λ e. simp (e, h x e, all_kept l)) (λ e. simp (e, all_kept l))

  -- how many pass
  pub how_many_length : (l : List A) → how_many p l ≡ length (keep p l)
  how_many_length [] = refl
  how_many_length (x ∷ l) = decide (p x) (λ e. simp e (omega (arith, how_many_length l))) (λ e. simp e (omega (arith, how_many_length l)))

  pub how_many_append : (l m : List A) → how_many p (l ++ m) ≡ how_many p l + how_many p m
  how_many_append [] m = omega arith
  how_many_append (x ∷ l) m = omega (arith, how_many_append l m)

  pub how_many_split : (q : A → Bool) (l : List A) → how_many p (keep q l) + how_many p (keep (λ x. not (q x)) l) ≡ how_many p l
  how_many_split q [] = refl
  how_many_split q (x ∷ l) = decide (q x) (λ e. simp e (omega (arith, how_many_split q l))) (λ e. simp e (omega (arith, how_many_split q l)))

  pub length_split : (l : List A) → length (keep p l) + length (keep (λ x. not (p x)) l) ≡ length l
  length_split [] = refl
  length_split (x ∷ l) = decide (p x) (λ e. simp e (omega (arith, length_split l))) (λ e. simp e (omega (arith, length_split l)))

-- a test that asks nothing counts each
pub how_many_all : {A : Type 0} (l : List A) → how_many (λ x. true) l ≡ length l
how_many_all l = how_many_length (λ x. true) l ∙ ap length (keep_const true l)

-- the sum of two lists
pub total_append : (l m : List ℕ) → total (l ++ m) ≡ total l + total m
total_append [] m = omega arith
total_append (x ∷ l) m = omega (arith, total_append l m)

pub total_more : (l : List ℕ) (i : ℕ) → i < length l → total (take (i + 1) l) ≡ total (take i l) + get_or l i 0
total_more l i h = rw (add-one i, take-suc l i 0 h) (total_append (take i l) (get_or l i 0 ∷ []) ∙ (omega arith))

-- there is a value, in std's word and in ours
pub some_none : {A : Type 0} (x : Option A) → is_some x ≡ not (is_none x)
some_none None = refl
some_none (Some x) = refl

-- an option without a value
pub none_is : {A : Type 0} (x : Option A) → is_none x ≡ true → x ≡ None
none_is None e = refl
none_is (Some x) e = absurd (false≢true e)

-- the tests for a key below k and for one that is not
module _ {A : Type 0} (key : A → ℕ) where
  below_at : (k : ℕ) (y : A) → key y < k → below key k y ≡ true
  unfolding below
  below_at k y h = lt-ltb _ _ h

  below_not : (k : ℕ) (y : A) → k ≤ key y → below key k y ≡ false
  unfolding below
  below_not k y h = le-ltb _ _ h

  not_below_at : (k : ℕ) (y : A) → k ≤ key y → not_below key k y ≡ true
  unfolding not_below
  not_below_at k y h = ap not (le-ltb _ _ h)

  not_below_not : (k : ℕ) (y : A) → key y < k → not_below key k y ≡ false
  unfolding not_below
  not_below_not k y h = ap not (lt-ltb _ _ h)

  from_below : (k : ℕ) (y : A) → below key k y ≡ true → key y < k
  unfolding below
  from_below k y e = ltb-true _ _ e

  from_not_below : (k : ℕ) (y : A) → not_below key k y ≡ true → k ≤ key y
  unfolding not_below
  from_not_below k y e = ltb-false _ _ (not-true _ e)

  insert_by_is : (x : A) (l : List A) → insert_by key x l ≡ keep (below key (key x)) l ++ x ∷ keep (not_below key (key x)) l
  unfolding insert_by
  insert_by_is x l = refl

  below_below : (j k : ℕ) → j ≤ k → (l : List A) → keep (below key k) (keep (below key j) l) ≡ keep (below key j) l
  below_below j k h l = keep_implied _ _ (λ x e. below_at k x (omega (arith, from_below j x e))) l

  not_below_not_below : (j k : ℕ) → j ≤ k → (l : List A) → keep (not_below key j) (keep (not_below key k) l) ≡ keep (not_below key k) l
  not_below_not_below j k h l = keep_implied _ _ (λ x e. not_below_at j x (omega (arith, from_not_below k x e))) l

  below_not_below : (j k : ℕ) → j ≤ k → (l : List A) → keep (below key j) (keep (not_below key k) l) ≡ []
  below_not_below j k h l = keep_excluded _ _ (λ x e. below_not j x (omega (arith, from_not_below k x e))) l

  not_below_below : (j k : ℕ) → j ≤ k → (l : List A) → keep (not_below key k) (keep (below key j) l) ≡ []
  not_below_below j k h l = keep_excluded _ _ (λ x e. not_below_not k x (omega (arith, from_below j x e))) l

  -- insertions of two keys commute
  insert_by_lt : (a b : A) (l : List A) → key a < key b → insert_by key a (insert_by key b l) ≡ insert_by key b (insert_by key a l)
  insert_by_lt a b l h =
      simp (
        insert_by_is,
        keep_append,
        below_not (key a) b (omega arith),
        not_below_at (key a) b (omega arith),
        below_at (key b) a h,
        not_below_not (key b) a h,
        below_not_below (key a) (key b) (omega arith) l,
        not_below_below (key a) (key b) (omega arith) l,
        append-nil,
      )
      (simp (keep_comm (below key (key a)) (below key (key b)) l, keep_comm (not_below key (key a)) (below key (key b)) l, keep_comm (not_below key (key a)) (not_below key (key b)) l, append_assoc))

  pub insert_by_comm : (a b : A) (l : List A) → eqb (key a) (key b) ≡ false → insert_by key a (insert_by key b l) ≡ insert_by key b (insert_by key a l)
  insert_by_comm a b l h =
      decide (ltb (key a) (key b)) (λ e. insert_by_lt a b l (ltb-true _ _ e))
      (λ e. sym (insert_by_lt b a l (omega (arith, ltb-false (key a) (key b) e, eqb-false (key a) (key b) h))))

  -- a sorted list falls apart at each key
  abbrev Splits : List A → Type 0
  Splits l = (k : ℕ) → keep (below key k) l ++ keep (not_below key k) l ≡ l

  splits_keep : (q : A → Bool) (k : ℕ) (l : List A) → Splits l → keep (below key k) (keep q l) ++ keep (not_below key k) (keep q l) ≡ keep q l
  splits_keep q k l h = simp (keep_comm (below key k) q l, keep_comm (not_below key k) q l) (sym (keep_append q (keep (below key k) l) (keep (not_below key k) l)) ∙ ap (keep q) (h k))

  splits_insert_by : (x : A) (l : List A) → Splits l → Splits (insert_by key x l)
  splits_insert_by x l h k =
      decide (ltb (key x) k)
      (λ e. let lt : key x < k = ltb-true _ _ e in
      simp (
        insert_by_is,
        keep_append,
        below_at k x lt,
        not_below_not k x lt,
        append_assoc,
        below_below (key x) k (omega arith) l,
        not_below_below (key x) k (omega arith) l,
        splits_keep (not_below key (key x)) k l h,
      ))
      (λ e. let ge : k ≤ key x = ltb-false _ _ e in
      simp (insert_by_is, keep_append, below_not k x ge, not_below_at k x ge, below_not_below k (key x) ge l, not_below_not_below k (key x) ge l, append-nil, ← append_assoc)
      (simp (splits_keep (below key (key x)) k l h)))

  splits_ascending : (l : List A) → Splits (ascending key l)
  splits_ascending [] k = refl
  splits_ascending (x ∷ l) k = splits_insert_by x (ascending key l) (splits_ascending l) k

  -- to pick from a sorted list is to sort what is picked
  pub keep_ascending : (p : A → Bool) (l : List A) → keep p (ascending key l) ≡ ascending key (keep p l)
  keep_ascending p [] = refl
  keep_ascending p (x ∷ l) =
      decide (p x)
      (λ e. simp (e, insert_by_is, keep_append, keep_comm p (below key (key x)) (ascending key l), keep_comm p (not_below key (key x)) (ascending key l), keep_ascending p l))
      (λ e. simp (e, insert_by_is, keep_append, keep_comm p (below key (key x)) (ascending key l), keep_comm p (not_below key (key x)) (ascending key l), keep_ascending p l)
      (splits_ascending (keep p l) (key x)))

-- what a loop needs that writes a sorted list by looking for the next key: x is the only element of its key, and none lies from k up to it
module _ {A : Type 0} (key : A → ℕ) (l : List A) where
  only_key : (x : A) (s : List A) → keep (below key (suc (key x))) (keep (not_below key (key x)) s) ≡ keep (λ y. eqb (key y) (key x)) s
  only_key x s =
      keep_keep (below key (suc (key x))) (not_below key (key x)) s
      ∙ keep_ext (λ y. not_below key (key x) y && below key (suc (key x)) y) (λ y. eqb (key y) (key x))
      (λ y. decide (eqb (key y) (key x))
      (λ e. let q = eqb-true (key y) (key x) e in simp (e, not_below_at key (key x) y (omega arith), below_at key (suc (key x)) y (omega arith)))
      (λ e. let q = eqb-false (key y) (key x) e in
      decide (ltb (key y) (key x))
      (λ b. simp (e, not_below_not key (key x) y (ltb-true (key y) (key x) b)))
      (λ b. let ge = ltb-false (key y) (key x) b in simp (e, below_not key (suc (key x)) y (omega (arith, q)), not_below_at key (key x) y ge)))) s

  pub ascending_next : (k : ℕ) (x : A) → k ≤ key x → keep (λ y. eqb (key y) (key x)) l ≡ x ∷ [] → keep (not_below key k) (keep (below key (key x)) l) ≡ []
      → keep (not_below key k) (ascending key l) ≡ x ∷ keep (not_below key (suc (key x))) (ascending key l)
  unfolding insert_by
  ascending_next k x h only skipped =
      let i = key x in
      let s = ascending key l in
      let low : keep (not_below key k) (keep (below key i) s) ≡ [] =
      ap (keep (not_below key k)) (keep_ascending key (below key i) l) ∙ keep_ascending key (not_below key k) (keep (below key i) l) ∙ ap (ascending key) skipped in
      let here : keep (below key (suc i)) (keep (not_below key i) s) ≡ x ∷ [] =
      only_key x s ∙ keep_ascending key (λ y. eqb (key y) i) l ∙ ap (ascending key) only in
      let high : keep (not_below key (suc i)) (keep (not_below key i) s) ≡ keep (not_below key (suc i)) s =
      keep_comm (not_below key (suc i)) (not_below key i) s ∙ not_below_not_below key i (suc i) (omega arith) s in
      ap (keep (not_below key k)) (sym (splits_ascending key l i))
      ∙ keep_append (not_below key k) (keep (below key i) s) (keep (not_below key i) s)
      ∙ ap₂ (λ (a b : List A). a ++ b) low (not_below_not_below key k i h s)
      ∙ sym (splits_keep key (not_below key i) (suc i) s (splits_ascending key l))
      ∙ ap₂ (λ (a b : List A). a ++ b) here high

-- a function that leaves the key
module _ {A B : Type 0} (f : A → B) (key : A → ℕ) (key' : B → ℕ) (same : (x : A) → key' (f x) ≡ key x) where
  pub map_keep : (p : A → Bool) (q : B → Bool) → ((x : A) → q (f x) ≡ p x) → (l : List A) → map f (keep p l) ≡ keep q (map f l)
  map_keep p q h [] = refl
  map_keep p q h (x ∷ l) = decide (p x) (λ e. simp (h x, e, map_keep p q h l)) (λ e. simp (h x, e, map_keep p q h l))

  pub map_insert_by : (x : A) (l : List A) → map f (insert_by key x l) ≡ insert_by key' (f x) (map f l)
  unfolding insert_by below not_below
  map_insert_by x l =
      simp (
        map-append,
        same x,
        map_keep (below key (key x)) (below key' (key x)) (λ y. ap (λ n. ltb n (key x)) (same y)) l,
        map_keep (not_below key (key x)) (not_below key' (key x)) (λ y. ap (λ n. not (ltb n (key x))) (same y)) l,
      )

-- what passes p passes q once f is done to it
pub all_map : {A B : Type 0} (p : A → Bool) (q : B → Bool) (f : A → B) → ((x : A) → p x ≡ true → q (f x) ≡ true) → (l : List A) → all_of p l ≡ true → all_of q (map f l) ≡ true
all_map p q f h [] k = refl
all_map p q f h (x ∷ l) k = both (h x (and_left (p x) (all_of p l) k)) (all_map p q f h l (and_right (p x) (all_of p l) k))

pub how_many_map : {A B : Type 0} (p : B → Bool) (f : A → B) (l : List A) → how_many p (map f l) ≡ how_many (λ x. p (f x)) l
how_many_map p f [] = refl
how_many_map p f (x ∷ l) = omega (arith, how_many_map p f l)

-- two tests that agree where t passes count the same of what t keeps
pub how_many_kept : {A : Type 0} (p q t : A → Bool) → ((x : A) → t x ≡ true → p x ≡ q x) → (l : List A) → how_many p (keep t l) ≡ how_many q (keep t l)
how_many_kept p q t h [] = refl
how_many_kept p q t h (x ∷ l) = decide (t x) (λ e. simp (e, h x e) (omega (arith, how_many_kept p q t h l))) (λ e. simp e (how_many_kept p q t h l))

-- a list with another element at a place, and all elements changed
pub map_set : {A B : Type 0} (f : A → B) (l : List A) (i : ℕ) (y : A) → map f (set l i y) ≡ set (map f l) i (f y)
map_set f [] i y = refl
map_set f (x ∷ l) zero y = refl
map_set f (x ∷ l) (suc i) y = ap (λ r. f x ∷ r) (map_set f l i y)

pub set_append_add : {A : Type 0} (l m : List A) (i : ℕ) (y : A) → set (l ++ m) (length l + i) y ≡ l ++ set m i y
set_append_add [] m i y = ap (λ (k : ℕ). set m k y) (let None : 0 + i ≡ i = omega arith in None)
set_append_add (x ∷ l) m i y = ap (λ (k : ℕ). set (x ∷ (l ++ m)) k y) (let next : suc (length l) + i ≡ suc (length l + i) = omega arith in next) ∙ ap (λ r. x ∷ r) (set_append_add l m i y)

-- the numbers below n are n
pub below_length : (n : ℕ) → length (numbers_below n) ≡ n
below_length zero = refl
below_length (suc n) = omega (arith, length-append (numbers_below n) (n ∷ []), below_length n)

-- what holds of f of each of them, and of what follows, holds of f of every number below n
pub each_below : (P : ℕ → Type 0) (f : ℕ → ℕ) (n : ℕ) (rest : List ℕ) → Each P (map f (numbers_below n) ++ rest) → (i : ℕ) → i < n → P (f i)
each_below P f zero rest e i h = absurd (omega (arith, h))
each_below P f (suc n) rest e i h =
    let front : Each P (map f (numbers_below n) ++ f n ∷ rest) =
    subst (Each P) (ap (λ (l : List ℕ). l ++ rest) (map-append f (numbers_below n) (n ∷ [])) ∙ append_assoc (map f (numbers_below n)) (f n ∷ []) rest) e in
    decide (ltb i n)
    (λ t. each_below P f n (f n ∷ rest) front i (ltb-true i n t))
    (λ t. subst (λ (k : ℕ). P (f k)) (let last : n ≡ i = omega (arith, h, ltb-false i n t) in last) (each_behind P (map f (numbers_below n)) (f n ∷ rest) front).0)
