-- The answers pending in all: of places whose numbers stand once each, those of every number; and so how many the ledger has.
use Prim.Native.Nat.{ℕ, ◌+◌}
use mathlib.Core.Path.{◌≡◌, refl, sym, ap, ap₂, ◌∙◌, subst}
use mathlib.Core.Bool.{true, false, not, true≢false}
use mathlib.Core.List.{List, [], ◌∷◌, map}
use lib.ListN.{length, length-map}
use lib.Dec.{eqb}
use native.Mathlib.Omega.{arith}
use borrow.Author.Tests.{eqb-true, not-true}
use Rattle.laws.specs.Lists.{keep, numbers_in, stands_in, how_many, total}
use Rattle.laws.proofs.Lists.{decide, eqb_same, none_is, how_many_length}
use Rattle.laws.proofs.Distinct.{counted_once}
use Rattle.model.specs.Device.{Place, vacant, occupied, Device, fresh, place_number, record_of, pending_of, pending_at, pending_among}
use Rattle.model.specs.Steps.{Step, events_of, final}
use Rattle.model.specs.Ledger.{Pending, Ledger, ledger_of}
use Rattle.model.specs.WellFormed.{distinct_places, good_steps}
use Rattle.model.proofs.Places.{no_record, alone_head, alone_tail}
use Rattle.model.proofs.WellFormed.{well_places}
use Rattle.model.proofs.LedgerView.{is_to}
use Rattle.model.proofs.Condition3.{Agree, agree_fresh, agree_end, agree_figure}

-- by the numbers of the places, each of which has one record
by_places : (f : ℕ → ℕ) (ps : List Place) → distinct_places ps ≡ true → ((n : ℕ) → stands_in n (numbers_in place_number ps) ≡ true → pending_of (record_of n ps) ≡ f n)
    → pending_among ps ≡ total (map f (numbers_in place_number ps))
by_places f [] h each = refl
by_places f (vacant ∷ ps) h each = omega (arith, by_places f ps h each)
by_places f (occupied m b ∷ ps) h each = ap₂ ◌+◌ here (by_places f ps (alone_tail m b ps h) others)
  where
    here : pending_at (occupied m b) ≡ f m
    here = simp (eqb_same m) at (each m (simp (eqb_same m)))

    others : (n : ℕ) → stands_in n (numbers_in place_number ps) ≡ true → pending_of (record_of n ps) ≡ f n
    others n e =
        decide (eqb m n)
        (λ q. absurd (true≢false (sym e ∙ subst (λ (k : ℕ). stands_in k (numbers_in place_number ps) ≡ false) (eqb-true m n q) (not-true _ (no_record m ps ∙ alone_head m b ps h)))))
        (λ q. simp q at (each n (simp q e)))

total_agrees : (d : Device) (l : Ledger) → Agree d l → pending_among d.places ≡ length l
total_agrees d l g =
    let numbers = numbers_in place_number d.places in
    let apart : distinct_places d.places ≡ true = (well_places d g.well).apart in
    let counted : (n : ℕ) → pending_of (record_of n d.places) ≡ how_many (is_to n) l =
    λ n. agree_figure d l n g ∙ length-map (keep (is_to n) l) _ ∙ sym (how_many_length (is_to n) l) in
    by_places (λ n. how_many (is_to n) l) d.places apart (λ n _. counted n)
    ∙ counted_once (λ (p : Pending). p.stream) numbers apart l
    (λ n e. sym (counted n) ∙ ap pending_of (none_is (record_of n d.places) (sym (no_record n d.places) ∙ ap not e)))

-- after a list of steps from a fresh start
pub total_of_ledger_lem : (ss : List Step) → good_steps ss ≡ true → pending_among (final fresh ss).places ≡ length (ledger_of (events_of fresh ss))
total_of_ledger_lem ss m = total_agrees (final fresh ss) (ledger_of (events_of fresh ss)) (agree_end 0 fresh [] ss agree_fresh m)
