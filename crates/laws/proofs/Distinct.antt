-- Laws of the numbers in a list of elements: those from a place on, those that are read out of words, and elements counted by their numbers.
use mathlib.Core.Path.{◌≡◌, refl, sym, ap, ap₂, ◌∙◌, subst}
use mathlib.Core.Bool.{Bool, true, false, not}
use Rattle.std.specs.Prelude.{Option, None, Some}
use mathlib.Core.List.{List, [], ◌∷◌, ◌++◌, map}
use Prim.Native.Nat.{ℕ, zero, suc, ◌+◌, ◌<◌}
use native.Mathlib.Numerals.{add-one}
use native.Mathlib.Omega.{arith}
use lib.ListN.{length, get_or, drop}
use lib.Seq.{take_at, drop_at, drop-cons}
use lib.Dec.{eqb}
use borrow.Author.Tests.{eq-eqb, eqb-true, not-true}
use Rattle.laws.specs.Lists.{all_of, how_many, to_list, numbers_in, stands_in, distinct, total}
use Rattle.laws.specs.Parts.{pieces, read_pieces}
use Rattle.laws.proofs.Tests.{and_left, and_right}
use Rattle.laws.proofs.Lists.{decide, eqb_same, eqb_sym, keep_const, how_many_length}

module _ {A : Type 0} (key : A → Option ℕ) where
  -- the numbers from a place on are the one there, if it has one, and those behind it
  pub numbers_from_lem : (l : List A) (i : ℕ) (d : A) → i < length l → numbers_in key (drop i l) ≡ to_list (key (get_or l i d)) ++ numbers_in key (drop (i + 1) l)
  numbers_from_lem l i d h = ap (numbers_in key) (drop-cons l i d h ∙ ap (λ (n : ℕ). get_or l i d ∷ drop n l) (sym (add-one i)))

  -- numbers that are distinct are so from each place on
  pub distinct_from : (l : List A) (i : ℕ) → distinct (numbers_in key l) ≡ true → distinct (numbers_in key (drop i l)) ≡ true
  distinct_from l zero h = h
  distinct_from [] (suc i) h = refl
  distinct_from (x ∷ l) (suc i) h = distinct_from l i (behind (key x) h)
    where
      behind : (o : Option ℕ) → distinct (to_list o ++ numbers_in key l) ≡ true → distinct (numbers_in key l) ≡ true
      behind None e = e
      behind (Some n) e = and_right (not (stands_in n (numbers_in key l))) _ e

  -- the numbers that words give, piece by piece, are those of the elements whose words they are
  module _ (f : A → List ℕ) (g : List ℕ → Option ℕ) (k : ℕ) (p : A → Bool) (len : (x : A) → p x ≡ true → length (f x) ≡ k) (gives : (x : A) → g (f x) ≡ key x) where
    pub numbers_read : (l : List A) → all_of p l ≡ true → numbers_in g (read_pieces (λ w. w) k (length l) (pieces f l)) ≡ numbers_in key l
    unfolding pieces read_pieces
    numbers_read [] e = refl
    numbers_read (x ∷ l) e =
        let long = len x (and_left (p x) (all_of p l) e) in
        ap₂ (λ (o : Option ℕ) (m : List ℕ). to_list o ++ m)
        (ap g (take_at (f x) (pieces f l) k long) ∙ gives x)
        (ap (λ (w : List ℕ). numbers_in g (read_pieces (λ v. v) k (length l) w)) (drop_at (f x) (pieces f l) k long) ∙ numbers_read l (and_right (p x) (all_of p l) e))

-- Elements counted by a number that each has

module _ {A : Type 0} (key : A → ℕ) where
  -- those of the number n
  abbrev how_many_of : List A → ℕ → ℕ
  how_many_of l n = how_many (λ x. eqb (key x) n) l

  -- one number more that is not among the others
  one_number : (n : ℕ) (ns : List ℕ) → stands_in n ns ≡ false → (l : List A) → how_many_of l n + how_many (λ x. stands_in (key x) ns) l ≡ how_many (λ x. stands_in (key x) (n ∷ ns)) l
  one_number n ns new [] = refl
  one_number n ns new (x ∷ l) =
      decide (eqb n (key x))
      (λ e.
      let is : n ≡ key x = eqb-true n (key x) e in
      simp (e, eq-eqb (key x) n (sym is), subst (λ (k : ℕ). stands_in k ns ≡ false) is new) (omega (arith, one_number n ns new l)))
      (λ e. simp (e, eqb_sym n (key x) e) (omega (arith, one_number n ns new l)))

  by_number_lem : (ns : List ℕ) → distinct ns ≡ true → (l : List A) → total (map (how_many_of l) ns) ≡ how_many (λ x. stands_in (key x) ns) l
  by_number_lem [] h l = sym (how_many_length (λ x. false) l ∙ ap length (keep_const false l))
  by_number_lem (n ∷ ns) h l =
      ap (λ (k : ℕ). how_many_of l n + k) (by_number_lem ns (and_right (not (stands_in n ns)) _ h) l)
      ∙ one_number n ns (not-true _ (and_left (not (stands_in n ns)) _ h)) l

  -- where no element has another number, all are counted, each once
  pub counted_once : (ns : List ℕ) → distinct ns ≡ true → (l : List A) → ((n : ℕ) → stands_in n ns ≡ false → how_many_of l n ≡ 0) → total (map (how_many_of l) ns) ≡ length l
  counted_once ns h l others = by_number_lem ns h l ∙ each_stands l others
    where
      each_stands : (m : List A) → ((n : ℕ) → stands_in n ns ≡ false → how_many_of m n ≡ 0) → how_many (λ x. stands_in (key x) ns) m ≡ length m
      each_stands [] o = refl
      each_stands (x ∷ m) o =
          decide (stands_in (key x) ns)
          (λ e. simp e (omega (arith, each_stands m (λ n f. omega (arith, o n f)))))
          (λ e. let None : 1 + how_many_of m (key x) ≡ 0 = simp (eqb_same (key x)) at (o (key x) e) in absurd (omega (arith, None)))
