-- `search` meets its contract: what is lent is built once, and `keep` does the rest, from rank 0 with nothing flipped and nothing seen.
-- Assumes nothing.
use mathlib.Core.Path.{◌≡◌, refl, sym, ap, ap₂, subst, ◌∙◌}
use mathlib.Core.List.{List}
use Prim.Native.Nat.{ℕ, ◌+◌, ◌-◌, ◌≤◌, ◌<◌}
use native.Mathlib.Nat.{sub-zero}
use native.Mathlib.Omega.{arith}
use lib.Pow.{pow_pos}
use Rattle.search.specs.Best.{Best, none}
use Rattle.search.specs.Search.{patterns, best_over}
use Rattle.search.specs.ByRank.{tried, rank_searched}
use Rattle.search.proofs.PartLaws.{part_start}
use Rattle.prepare.specs.PlanOf.{plan_of}
use Rattle.prepare.specs.declared.Prepared.{Prepared}
use Rattle.candidates.specs.As.{most_counted}
use Rattle.parts.specs.Parts.{PartsOf, told}
use Rattle.parts.specs.Chains.{Chained, Tabled}
use Rattle.osd.proofs.PatternCount.{patterns_most}
use Rattle.osd.proofs.SkipSteps.{tabled_made}
use Rattle.osd.proofs.patterns.search.Goals as goal

-- from nothing seen there is room in the count
room : (size may : ℕ) (x : Best) → size ≤ 61 → may ≤ 3 → x ≡ none → x.count + patterns (size - 0) may ≤ most_counted
room size may x h l e = omega (arith, ap (λ (y : Best). y.count) e, patterns_most (size - 0) may (omega arith) l)

-- where a flip is allowed all ranks are linked
all_linked : (p : Prepared) (order n : ℕ) (parts chains : List ℕ) → p.size ≤ 61 → PartsOf p.symbols (told p) parts
    → Chained parts n chains → ((order ≡ 0 → ⊥) → n ≡ p.size) → 0 < order → Tabled p parts chains
all_linked p order n parts chains h l c e some =
    tabled_made p parts chains h l (subst (λ (k : ℕ). Chained parts k chains) (e (λ z. omega arith)) c)

-- from rank 0, with nothing flipped and nothing seen
whole : (p : Prepared) (order : ℕ) (x : Best) → x ≡ none
    → best_over (λ i. i) (tried (plan_of p)) (p.size - 0) 0 order 0 x ≡ rank_searched (plan_of p) order
unfolding rank_searched
whole p order x e = ap₂ (λ (k : ℕ). best_over (λ i. i) (tried (plan_of p)) k 0 order 0) (sub-zero p.size) e

pub keep-requires : goal.keep-requires
keep-requires c =
    let p = c.args.p in
    record {
      fits = (
        refl,
        record { low = pow_pos p.size; part = c.base_part-part.ensures ∙ sym (part_start (plan_of p) (told p)) },
        all_linked p c.args.order _ _ _ p.fits.sizes c.parts_of-parts.ensures c.chain-chains.ensures
            c.linked.ensures.2,
      );
      rank_le_size = (omega arith, room p.size c.args.order _ p.fits.sizes c.requires c.none.ensures);
    }

pub returns : goal.returns
returns c = c.keep.ensures ∙ whole c.args.p _ _ c.none.ensures
