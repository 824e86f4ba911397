-- The test whether words are the figures of places, place by place, and the total.
use mathlib.Core.Path.{◌≡◌, refl, sym, ap, ap₂, ◌∙◌}
use mathlib.Core.Bool.{Bool, true, ◌&&◌, and-true}
use mathlib.Core.List.{List, [], ◌∷◌, ◌++◌, map}
use Prim.Native.Nat.{ℕ, ◌+◌, ◌%◌, ◌^◌, ◌<◌}
use native.Mathlib.Omega.{arith}
use lib.ListN.{length, get_or, take, drop, length-map, length-drop}
use lib.Seq.{drop-drop, take_all, get_or-take, get_or-drop, length-take-le}
use lib.Dec.{eqb}
use Rattle.laws.specs.Lists.{all_of, same, total}
use Rattle.laws.specs.Tests.{all_below}
use Rattle.laws.specs.Parts.{part}
use Rattle.laws.proofs.Tests.{and_right, all_ext, below_both}
use Rattle.laws.proofs.Same.{same_cut, same_true}
use Rattle.laws.proofs.Pieces.{same_places}
use Rattle.model.specs.Numbers.{stream_places}
use Rattle.model.specs.Device.{Place, vacant, pending_at, pending_among}
use Rattle.table.specs.Figures.{figures_size, first_mark, first_figure, place_mark, figure_words}
use Rattle.table.specs.Search.{place_at, has_all_slots}
use Rattle.table.proofs.Counted.{sum_is}

-- of the figures those of place k, its mark and its figure, are what its record gives
abbrev pub counted_at : List ℕ → List Place → ℕ → Bool
counted_at w ps k = eqb (get_or w (first_mark + k) 0) (place_mark (place_at k ps)) && eqb (get_or w (first_figure + k) 0) (pending_at (place_at k ps))

first_word : (w : List ℕ) (v : ℕ) → 0 < length w → same (take 1 w) (v ∷ []) ≡ eqb (get_or w 0 0) v
unfolding same
first_word [] v h = absurd (omega arith)
first_word (x ∷ w) v h = and-true (eqb x v)

module _ (w : List ℕ) (ps : List Place) (long : length w ≡ figures_size) (eight : length ps ≡ stream_places) where
  -- the words from a on, by their places
  word_test : (f : Place → ℕ) (a : ℕ) → a + stream_places < figures_size + 1 → same (part a stream_places w) (map f ps) ≡ all_below stream_places (λ k. eqb (get_or w (a + k) 0) (f (place_at k ps)))
  word_test f a h =
      same_places vacant f (part a stream_places w) ps (length-take-le stream_places (drop a w) (omega (arith, length-drop a w)) ∙ sym eight)
      ∙ ap (λ (n : ℕ). all_below n (λ k. eqb (get_or (part a stream_places w) k 0) (f (place_at k ps)))) eight
      ∙ all_ext _ _ stream_places (λ k l. ap (λ (v : ℕ). eqb v (f (place_at k ps))) (get_or-take stream_places (drop a w) k 0 l ∙ get_or-drop a w k 0))

  counted_test : all_below stream_places (counted_at w ps) ≡ (same (part 1 stream_places w) (map place_mark ps) && same (part 9 stream_places w) (map pending_at ps))
  counted_test = below_both _ _ stream_places ∙ sym (ap₂ (λ (x y : Bool). x && y) (word_test place_mark 1 (omega arith)) (word_test pending_at 9 (omega arith)))

  -- the total, and the words of each place
  pub figures_test : same w (figure_words ps) ≡ (eqb (get_or w 0 0) (pending_among ps) && all_below stream_places (counted_at w ps))
  unfolding figure_words
  figures_test =
      let marks = map place_mark ps in
      let figures = map pending_at ps in
      same_cut w (pending_among ps ∷ []) (marks ++ figures) 1 (omega arith) refl
      ∙ ap₂ (λ (x y : Bool). x && y) (first_word w (pending_among ps) (omega arith))
      (same_cut (drop 1 w) marks figures stream_places (omega (arith, length-drop 1 w)) (length-map ps place_mark ∙ eight)
      ∙ ap (λ (x : List ℕ). same (part 1 stream_places w) marks && same x figures) (drop-drop stream_places 1 w ∙ sym (take_all stream_places (drop 9 w) (omega (arith, length-drop 9 w))))
      ∙ sym counted_test)

  -- where each place is counted right, the sum of the figures is that of all
  pub counted_sum : all_of has_all_slots ps ≡ true → all_below stream_places (counted_at w ps) ≡ true → total (part 9 stream_places w) % 2 ^ 32 ≡ pending_among ps
  counted_sum sized e = sum_is (part 9 stream_places w) ps sized eight (same_true _ _ (and_right (same (part 1 stream_places w) (map place_mark ps)) _ (sym counted_test ∙ e)))
