-- What the searches of the places say in the model's words: the record of a number, whether a place is free, and the places after a change.
use Rattle.std.proofs.Common.{◌≡◌, ℕ, suc, ◌<◌, true, false, eqb, List, [], ◌∷◌, length, set, sym, refl, ap, subst, arith, eqb-true}
use Rattle.std.specs.Prelude.{Option, None, Some}
use Rattle.laws.specs.Lists.{is_none}
use Rattle.laws.proofs.Lists.{decide}
use Rattle.laws.proofs.Positions.{later_some, later_none}
use Rattle.model.specs.Device.{Stream, Place, vacant, occupied, Device, record_of, no_place, place, replace, install, put_record, spend, spent_after, put_back}
use Rattle.model.specs.WellFormed.{distinct_places}
use Rattle.model.proofs.Places.{alone_head, alone_tail, replace_absent}
use Rattle.table.specs.Search.{place_at, is_stream, find_stream, find_vacant}
use Rattle.table.specs.Blocks.{with_places, with_spent}

some_is : {k : ℕ} → ◌≡◌ {A = Option ℕ} (Some 0) (Some k) → k ≡ 0
some_is e = cc

-- The stream n is at k

pub record LiveAt (n k : ℕ) (ps : List Place) : Type 0 where
  pub stream : Stream
  pub inside : k < length ps
  pub at : place_at k ps ≡ occupied n stream
  pub known : record_of n ps ≡ Some stream
  pub replaced : distinct_places ps ≡ true → (r : Option Stream) → replace n r ps ≡ set ps k (place n r)

-- one place before, which is another's
pub live_later : (n k : ℕ) (p : Place) (ps : List Place) → is_stream n p ≡ false → LiveAt n k ps → LiveAt n (suc k) (p ∷ ps)
live_later n k vacant ps h a =
    record { stream = a.stream; inside = omega (arith, a.inside); at = a.at; known = a.known; replaced = λ x r. ap (λ (l : List Place). vacant ∷ l) (a.replaced x r) }
live_later n k (occupied m b) ps h a =
    record {
      stream = a.stream;
      inside = omega (arith, a.inside);
      at = a.at;
      known = simp h a.known;
      replaced = λ x r. simp h (ap (λ (l : List Place). occupied m b ∷ l) (a.replaced (alone_tail m b ps x) r));
    }

live_first : (n m : ℕ) (b : Stream) (ps : List Place) → eqb m n ≡ true → LiveAt n 0 (occupied m b ∷ ps)
live_first n m b ps h =
    let is : m ≡ n = eqb-true m n h in
    record {
      stream = b;
      inside = omega arith;
      at = ap (λ (x : ℕ). occupied x b) is;
      known = simp h;
      replaced = λ x r. simp h (ap (λ (l : List Place). place n r ∷ l) (replace_absent n r ps (subst (λ (y : ℕ). is_none (record_of y ps) ≡ true) is (alone_head m b ps x))));
    }

pub stream_found : (n : ℕ) (ps : List Place) (k : ℕ) → find_stream n ps ≡ Some k → LiveAt n k ps
stream_found n [] k e = absurd (let z : ◌≡◌ {A = ℕ} 0 1 = cc in omega arith)
stream_found n (vacant ∷ ps) k e =
    let w = later_some (find_stream n ps) k e in
    subst (λ (i : ℕ). LiveAt n i (vacant ∷ ps)) (sym w.2) (live_later n w.0 vacant ps refl (stream_found n ps w.0 w.1))
stream_found n (occupied m b ∷ ps) k e =
    decide (eqb m n)
    (λ h. subst (λ (i : ℕ). LiveAt n i (occupied m b ∷ ps)) (sym (some_is (simp h at e))) (live_first n m b ps h))
    (λ h. let w = later_some (find_stream n ps) k (simp h at e) in
    subst (λ (i : ℕ). LiveAt n i (occupied m b ∷ ps)) (sym w.2) (live_later n w.0 (occupied m b) ps h (stream_found n ps w.0 w.1)))

pub stream_missing : (n : ℕ) (ps : List Place) → find_stream n ps ≡ None → record_of n ps ≡ None
stream_missing n [] e = refl
stream_missing n (vacant ∷ ps) e = stream_missing n ps (later_none (find_stream n ps) e)
stream_missing n (occupied m b ∷ ps) e =
    decide (eqb m n)
    (λ h. absurd (let w : Some 0 ≡ None = simp h at e in let z : ◌≡◌ {A = ℕ} 0 1 = cc in omega arith))
    (λ h. simp h (stream_missing n ps (later_none (find_stream n ps) (simp h at e))))

-- its record is put back, or its place becomes vacant
pub stream_put : (n k : ℕ) (d : Device) → LiveAt n k d.places → distinct_places d.places ≡ true → (r : Option Stream) → put_back n r d ≡ with_places (set d.places k (place n r)) d
unfolding put_record
stream_put n k d a x r = λ i. record { places = put i; spent = ap (λ (old : Option Stream). spent_after n old r d.spent) a.known i }
  where
    put : put_record n r d.places ≡ set d.places k (place n r)
    put = rw a.known (a.replaced x r)

-- The lowest vacant place is k

pub record VacantAt (k : ℕ) (ps : List Place) : Type 0 where
  pub inside : k < length ps
  pub at : place_at k ps ≡ vacant
  pub room : no_place ps ≡ false
  pub installed : (n : ℕ) (r : Option Stream) → install n r ps ≡ set ps k (place n r)

pub vacant_found : (ps : List Place) (k : ℕ) → find_vacant ps ≡ Some k → VacantAt k ps
vacant_found [] k e = absurd (let z : ◌≡◌ {A = ℕ} 0 1 = cc in omega arith)
vacant_found (vacant ∷ ps) k e =
    subst (λ (i : ℕ). VacantAt i (vacant ∷ ps)) (sym (some_is e)) (record { inside = omega arith; at = refl; room = refl; installed = λ n r. refl })
vacant_found (occupied m b ∷ ps) k e =
    let w = later_some (find_vacant ps) k e in
    let a = vacant_found ps w.0 w.1 in
    subst (λ (i : ℕ). VacantAt i (occupied m b ∷ ps)) (sym w.2)
    (record { inside = omega (arith, a.inside); at = a.at; room = a.room; installed = λ n r. ap (λ (l : List Place). occupied m b ∷ l) (a.installed n r) })

pub vacant_missing : (ps : List Place) → find_vacant ps ≡ None → no_place ps ≡ true
vacant_missing [] e = refl
vacant_missing (vacant ∷ ps) e = absurd (let z : ◌≡◌ {A = ℕ} 0 1 = cc in omega arith)
vacant_missing (occupied m b ∷ ps) e = vacant_missing ps (later_none (find_vacant ps) e)

-- a new stream's record is put there, and its number is spent
pub vacant_put : (n k : ℕ) (b : Stream) (d : Device) → VacantAt k d.places → record_of n d.places ≡ None
    → put_back n (Some b) d ≡ with_places (set d.places k (occupied n b)) (with_spent (spend n d.spent) d)
unfolding put_record
vacant_put n k b d a x = λ i. record { places = put i; spent = ap (λ (old : Option Stream). spent_after n old (Some b) d.spent) x i }
  where
    put : put_record n (Some b) d.places ≡ set d.places k (occupied n b)
    put = rw x (a.installed n (Some b))
