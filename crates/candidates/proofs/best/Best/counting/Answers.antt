-- `Best::counting` meets its contract: beside a farther candidate the best stays. Assumes nothing.
use borrow.Author.Tests.{lt-ltb}
use Rattle.search.specs.Best.{stays, better}
use Rattle.candidates.proofs.best.Best.counting.Goals as goal

pub returns : goal.returns
unfolding better stays
returns c x h = simp (c.requires.0, lt-ltb _ _ h)
