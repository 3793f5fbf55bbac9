-- `Best::with` meets its contract: the definition goes by the same test, and what stays is found. Assumes nothing.
use mathlib.Core.Path.{◌≡◌, refl, sym, ◌∙◌}
use mathlib.Core.Bool.{Bool, true, false, ◌&&◌}
use Rattle.search.specs.Best.{Best, Weighed, stays, better}
use Rattle.candidates.specs.As.{as_best, as_weighed}
use Rattle.candidates.proofs.best.Best.with.Goals as goal

first_of : (b t : Bool) → (b && t) ≡ true → b ≡ true
first_of true t h = refl
first_of false t h = h

stays_found : (x : Best) (c : Weighed) → stays x c ≡ true → x.found ≡ true
unfolding stays
stays_found x c h = first_of x.found _ h

pub returns-then-stays : goal.returns-then-stays
unfolding better
returns-then-stays c =
    let best = as_best c.args.self in
    let stay : stays best (as_weighed c.args.c) ≡ true = sym c.stays.ensures ∙ c.if-stays.true in
    let found : best.found ≡ true = stays_found best (as_weighed c.args.c) stay in
    rw (stay, found)

pub returns : goal.returns
unfolding better
returns c = rw (sym c.stays.ensures ∙ c.if-stays.false)
