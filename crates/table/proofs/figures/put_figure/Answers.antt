-- `table::figures::put_figure` meets its contract: the mark and the figure are set, and then the sum of the figures.
use Rattle.std.proofs.Common.{◌≡◌, ℕ, ◌+◌, List, length, set, ◌∙◌, ap₂, arith, length-set}
use Rattle.table.specs.Figures.{figure_words}
use Rattle.table.proofs.Counted.{place_set, figures_part, sum_is}
use Rattle.table.proofs.figures.put_figure.Goals as goal

-- two words are set, and it is as long as before
as_long : (l : List ℕ) (i j x y : ℕ) → length (set (set l i x) j y) ≡ length l
as_long l i j x y = length-set (set l i x) j y ∙ length-set l i x

pub bounds-w-k-2 : goal.bounds-w-k-2
bounds-w-k-2 c =
    omega (arith, length-set c.args.w.now (1 + c.args.k) c.args.mark, c.requires.0, c.requires.1)

pub slice_bounds-add_up-end : goal.slice_bounds-add_up-end
slice_bounds-add_up-end c =
    omega (arith, as_long c.args.w.now (1 + c.args.k) (9 + c.args.k) c.args.mark c.args.pending, c.requires.0)

pub bounds-w-0 : goal.bounds-w-0
bounds-w-0 c =
    omega (arith, as_long c.args.w.now (1 + c.args.k) (9 + c.args.k) c.args.mark c.args.pending, c.requires.0)

pub returns : goal.returns
unfolding figure_words
returns c ps p eight sized e m f =
    let placed : set (set c.args.w.now (1 + c.args.k) c.args.mark) (9 + c.args.k) c.args.pending ≡ _ =
    ap₂ (λ (x y : ℕ). set (set c.args.w.now (1 + c.args.k) x) (9 + c.args.k) y) m f ∙ place_set ps c.args.k p eight c.requires.1 c.args.w.now e in
    ap₂ (λ (x : List ℕ) (v : ℕ). set x 0 v) placed (c.add_up.ensures ∙ sum_is _ (set ps c.args.k p) sized (length-set ps c.args.k p ∙ eight) (figures_part ps c.args.k p eight c.requires.1 _ _ placed))
