-- `valid::queues::all_zero` meets its contract: the words so far are zero, and so is one word more.
use mathlib.Core.Path.{◌≡◌, refl}
use mathlib.Core.Bool.{true}
use lib.ListN.{length}
use borrow.Author.Rules.{rules}
use borrow.Author.Tests.{tests}
use Rattle.std.proofs.lemmas.Iterator.{YieldsList-from_slice}
use Rattle.std.proofs.iter.Yields.{fronts}
use Rattle.std.proofs.lemmas.Fn.{fold_over}
use Rattle.laws.specs.Lists.{same}
use Rattle.laws.specs.Parts.{zeros}
use Rattle.valid.proofs.QueueStands.{zero_more}
use Rattle.valid.proofs.queues.all_zero.Goals as goal

pub returns : goal.returns
unfolding same zeros
returns c =
    fold_over fronts (λ y. y.now) _ (λ l z. z ≡ same l (zeros (length l))) _ (λ l a x b f j k. (zero_more l x.now j (search (rules, tests)), search (rules, tests)))
    c.iter.result c.args.s.now true _ (YieldsList-from_slice {s = c.iter.result} _ c.iter.ensures.rest).runs refl c.fold.ensures.ran
