-- Numbers that stand in one place each, and the record behind a stream number after the record of that number, or of another, is put back.
use Prim.Native.Nat.{ℕ}
use mathlib.Core.Path.{◌≡◌, refl, sym, ap, ◌∙◌, subst}
use mathlib.Core.Bool.{Bool, true, false, not}
use Rattle.std.specs.Prelude.{Option, None, Some}
use mathlib.Core.List.{List, [], ◌∷◌}
use lib.Dec.{eqb}
use borrow.Author.Tests.{eqb-true}
use Rattle.laws.specs.Lists.{all_of, is_none, numbers_in, stands_in}
use Rattle.laws.proofs.Tests.{never, both, and_left, and_right}
use Rattle.laws.proofs.Lists.{decide, cond_elim, eqb_same, none_is}
use Rattle.model.specs.Device.{Stream, Place, vacant, occupied, place_number, record_of, no_place, place, replace, install, put_record}
use Rattle.model.specs.WellFormed.{distinct_places}

-- a number is distinct from those of other places where it has no record there
pub no_record : (n : ℕ) (ps : List Place) → not (stands_in n (numbers_in place_number ps)) ≡ is_none (record_of n ps)
no_record n [] = refl
no_record n (vacant ∷ ps) = no_record n ps
no_record n (occupied m b ∷ ps) = decide (eqb m n) (λ e. simp e) (λ e. simp e (no_record n ps))

module _ (n : ℕ) (b : Stream) (ps : List Place) where
  pub alone : is_none (record_of n ps) ≡ true → distinct_places ps ≡ true → distinct_places (occupied n b ∷ ps) ≡ true
  alone h t = both (no_record n ps ∙ h) t

  pub alone_head : distinct_places (occupied n b ∷ ps) ≡ true → is_none (record_of n ps) ≡ true
  alone_head h = sym (no_record n ps) ∙ and_left (not (stands_in n (numbers_in place_number ps))) _ h

  pub alone_tail : distinct_places (occupied n b ∷ ps) ≡ true → distinct_places ps ≡ true
  alone_tail h = and_right (not (stands_in n (numbers_in place_number ps))) _ h

replace_gone : (n : ℕ) (ps : List Place) → record_of n (replace n None ps) ≡ None
replace_gone n [] = refl
replace_gone n (vacant ∷ ps) = replace_gone n ps
replace_gone n (occupied m b ∷ ps) = decide (eqb m n) (λ e. simp e (replace_gone n ps)) (λ e. simp e (replace_gone n ps))

pub replace_same : (n : ℕ) (r : Option Stream) (ps : List Place) → is_none (record_of n ps) ≡ false → record_of n (replace n r ps) ≡ r
replace_same n None ps h = replace_gone n ps
replace_same n (Some c) [] h = cc
replace_same n (Some c) (vacant ∷ ps) h = replace_same n (Some c) ps h
replace_same n (Some c) (occupied m b ∷ ps) h =
    decide (eqb m n) (λ e. simp (e, eqb_same n)) (λ e. simp e (replace_same n (Some c) ps (simp e at h)))

pub replace_other : (m n : ℕ) (r : Option Stream) (ps : List Place) → eqb n m ≡ false → record_of m (replace n r ps) ≡ record_of m ps
replace_other m n r [] h = refl
replace_other m n r (vacant ∷ ps) h = replace_other m n r ps h
replace_other m n None (occupied k b ∷ ps) h =
    decide (eqb k n) (λ e. simp (e, replace_other m n None ps h, ap (λ (x : ℕ). eqb x m) (eqb-true k n e), h)) (λ e. simp (e, replace_other m n None ps h))
replace_other m n (Some c) (occupied k b ∷ ps) h =
    decide (eqb k n) (λ e. simp (e, replace_other m n (Some c) ps h, ap (λ (x : ℕ). eqb x m) (eqb-true k n e), h)) (λ e. simp (e, replace_other m n (Some c) ps h))

pub replace_absent : (n : ℕ) (r : Option Stream) (ps : List Place) → is_none (record_of n ps) ≡ true → replace n r ps ≡ ps
replace_absent n r [] h = refl
replace_absent n r (vacant ∷ ps) h = ap (λ x. vacant ∷ x) (replace_absent n r ps h)
replace_absent n r (occupied m b ∷ ps) h = decide (eqb m n) (λ e. never (sym (simp e at h))) (λ e. simp (e, replace_absent n r ps (simp e at h)))

pub install_none : (n : ℕ) (ps : List Place) → install n None ps ≡ ps
install_none n [] = refl
install_none n (vacant ∷ ps) = refl
install_none n (occupied m b ∷ ps) = ap (λ r. occupied m b ∷ r) (install_none n ps)

pub install_same : (n : ℕ) (r : Option Stream) (ps : List Place) → is_none (record_of n ps) ≡ true → no_place ps ≡ false → record_of n (install n r ps) ≡ r
install_same n r [] h k = cc
install_same n None (vacant ∷ ps) h k = none_is _ h
install_same n (Some c) (vacant ∷ ps) h k = simp (eqb_same n)
install_same n r (occupied m b ∷ ps) h k = decide (eqb m n) (λ e. never (sym (simp e at h))) (λ e. simp e (install_same n r ps (simp e at h) k))

pub install_other : (m n : ℕ) (r : Option Stream) (ps : List Place) → eqb n m ≡ false → record_of m (install n r ps) ≡ record_of m ps
install_other m n r [] h = refl
install_other m n None (vacant ∷ ps) h = refl
install_other m n (Some c) (vacant ∷ ps) h = simp h
install_other m n r (occupied k b ∷ ps) h = simp (install_other m n r ps h)

-- a record that is put back is found again; a new one only where a place is vacant
pub put_same : (n : ℕ) (r : Option Stream) (ps : List Place) → (is_none (record_of n ps) ≡ true → no_place ps ≡ true → r ≡ None) → record_of n (put_record n r ps) ≡ r
unfolding put_record
put_same n r ps h =
    decide (is_none (record_of n ps))
    (λ e. decide (no_place ps)
    (λ f. simp (e, h e f, install_none n ps) (none_is _ e))
    (λ f. simp e (install_same n r ps e f)))
    (λ e. simp e (replace_same n r ps e))

-- and of a live number always; of two records put back for it only the last is left
pub put_live : (n : ℕ) (r : Option Stream) (ps : List Place) → is_none (record_of n ps) ≡ false → record_of n (put_record n r ps) ≡ r
put_live n r ps live = put_same n r ps (λ e _. never (sym e ∙ live))

replace_twice : (n : ℕ) (b : Stream) (r : Option Stream) (ps : List Place) → replace n r (replace n (Some b) ps) ≡ replace n r ps
replace_twice n b r [] = refl
replace_twice n b r (vacant ∷ ps) = ap (λ x. vacant ∷ x) (replace_twice n b r ps)
replace_twice n b r (occupied m c ∷ ps) = decide (eqb m n) (λ e. simp (e, eqb_same n, replace_twice n b r ps)) (λ e. simp (e, replace_twice n b r ps))

pub put_twice : (n : ℕ) (b : Stream) (r : Option Stream) (ps : List Place) → is_none (record_of n ps) ≡ false → put_record n r (put_record n (Some b) ps) ≡ put_record n r ps
unfolding put_record
put_twice n b r ps h = simp (h, ap is_none (replace_same n (Some b) ps h)) (replace_twice n b r ps)

pub put_other : (m n : ℕ) (r : Option Stream) (ps : List Place) → eqb n m ≡ false → record_of m (put_record n r ps) ≡ record_of m ps
unfolding put_record
put_other m n r ps h = decide (is_none (record_of n ps)) (λ e. simp e (install_other m n r ps h)) (λ e. simp e (replace_other m n r ps h))

-- a record put back unchanged leaves the device as it was

replace_self : (n : ℕ) (ps : List Place) → distinct_places ps ≡ true → replace n (record_of n ps) ps ≡ ps
replace_self n [] h = refl
replace_self n (vacant ∷ ps) h = ap (λ x. vacant ∷ x) (replace_self n ps h)
replace_self n (occupied m b ∷ ps) h =
    let here = alone_head m b ps h in
    decide (eqb m n)
    (λ e. simp (e, replace_absent n (record_of n (occupied m b ∷ ps)) ps (subst (λ (x : ℕ). is_none (record_of x ps) ≡ true) (eqb-true m n e) here)) (ap (λ x. occupied x b ∷ ps) (sym (eqb-true m n e))))
    (λ e.
    let other : record_of n (occupied m b ∷ ps) ≡ record_of n ps = simp e in
    subst (λ (r : Option Stream). replace n r (occupied m b ∷ ps) ≡ occupied m b ∷ ps) (sym other) (behind e (record_of n ps) (replace_self n ps (alone_tail m b ps h))))
  where
    behind : eqb m n ≡ false → (r : Option Stream) → replace n r ps ≡ ps → replace n r (occupied m b ∷ ps) ≡ occupied m b ∷ ps
    behind e None same = simp e (ap (λ x. occupied m b ∷ x) same)
    behind e (Some c) same = simp e (ap (λ x. occupied m b ∷ x) same)

pub put_self : (n : ℕ) (ps : List Place) → distinct_places ps ≡ true → put_record n (record_of n ps) ps ≡ ps
unfolding put_record
put_self n ps h =
    decide (is_none (record_of n ps))
    (λ e. simp (none_is (record_of n ps) e) (install_none n ps))
    (λ e. simp e (replace_self n ps h))

-- what holds of every place holds of the place of a record, and still of every place once it holds of what is put

module _ (p : Place → Bool) (n : ℕ) where
  pub all_record : p vacant ≡ true → (ps : List Place) → all_of p ps ≡ true → p (place n (record_of n ps)) ≡ true
  all_record v [] h = v
  all_record v (vacant ∷ ps) h = all_record v ps (and_right (p vacant) _ h)
  all_record v (occupied m b ∷ ps) h =
      cond_elim (λ (r : Option Stream). p (place n r) ≡ true) (eqb m n)
      (λ e. subst (λ (x : ℕ). p (occupied x b) ≡ true) (eqb-true m n e) (and_left (p (occupied m b)) _ h))
      (λ _. all_record v ps (and_right (p (occupied m b)) _ h))

  module _ (r : Option Stream) (g : p (place n r) ≡ true) where
    all_replace : (ps : List Place) → all_of p ps ≡ true → all_of p (replace n r ps) ≡ true
    all_replace [] h = refl
    all_replace (vacant ∷ ps) h = both (and_left (p vacant) _ h) (all_replace ps (and_right (p vacant) _ h))
    all_replace (occupied m b ∷ ps) h =
        both (cond_elim (λ x. p x ≡ true) (eqb m n) (λ _. g) (λ _. and_left (p (occupied m b)) _ h)) (all_replace ps (and_right (p (occupied m b)) _ h))

    all_install : (ps : List Place) → all_of p ps ≡ true → all_of p (install n r ps) ≡ true
    all_install [] h = refl
    all_install (vacant ∷ ps) h = both g (and_right (p vacant) _ h)
    all_install (occupied m b ∷ ps) h = both (and_left (p (occupied m b)) _ h) (all_install ps (and_right (p (occupied m b)) _ h))

    pub all_put : (ps : List Place) → all_of p ps ≡ true → all_of p (put_record n r ps) ≡ true
    unfolding put_record
    all_put ps h = cond_elim (λ x. all_of p x ≡ true) (is_none (record_of n ps)) (λ _. all_install ps h) (λ _. all_replace ps h)
