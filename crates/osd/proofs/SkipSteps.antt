-- The turns of the search over what is lent: ranks that the chains pass over lead nowhere, the last flip is found in its chain, and
-- there is room in the count for what a turn may add. Assumes nothing.
use mathlib.Core.Path.{◌≡◌, refl, sym, ap, ◌∙◌}
use mathlib.Core.List.{List}
use Prim.Native.Nat.{ℕ, zero, suc, ◌+◌, ◌-◌, ◌^◌, ◌<◌, ◌≤◌}
use native.Mathlib.Omega.{arith}
use lib.ListN.{get_or}
use lib.Pow.{pow-lt}
use Rattle.field.specs.Field.{◌⊕◌}
use Rattle.field.proofs.XorLaws.{xor_lt}
use Rattle.search.specs.Best.{Best}
use Rattle.search.specs.Search.{patterns}
use Rattle.search.specs.Plan.{Plan}
use Rattle.search.specs.ByRank.{tried}
use Rattle.search.specs.Part.{part_of, column_part}
use Rattle.search.proofs.PartLaws.{part_flip, part_drops}
use Rattle.search.proofs.SearchSteps.{search_end, search_some, search_patterns, patterns_some}
use Rattle.search.proofs.SkipLaws.{Nowhere, search_run, last_nowhere, two_nowhere}
use Rattle.prepare.specs.PlanOf.{plan_of}
use Rattle.prepare.specs.declared.Prepared.{Prepared}
use Rattle.candidates.specs.As.{most_counted}
use Rattle.parts.specs.declared.flips.Flips.{Flips}
use Rattle.parts.specs.Parts.{PartsOf, told, Made}
use Rattle.parts.specs.Chains.{slot_of, last_in, Chained, Shut, At, Next, Tabled}
use Rattle.parts.proofs.ChainLaws.{last_slot, last_none}
use Rattle.osd.specs.Inner.BestFrom.{best_from}
use Rattle.osd.proofs.PatternCount.{tried_count, patterns_mono}

-- of any plan, with the parts told in any k of its rows: that the plan of a prepared word is in its ranges is not used
module _ (p : Plan) (k : ℕ) (few : k ≤ p.rows) (parts : List ℕ)
    (columns : (j : ℕ) → j < p.size → get_or parts j 0 ≡ column_part p k j) where
  abbrev F : ℕ → ℕ
  F i = get_or parts i 0

  drops : (f : ℕ) (x : Best) → (part_of p k f ≡ 0 → ⊥) → tried p f x ≡ x
  drops = part_drops p k few

  -- a flip adds its column's part, as it is lent
  part_after : (f i : ℕ) → i < p.size → part_of p k (f ⊕ 2 ^ i) ≡ part_of p k f ⊕ F i
  part_after f i h = part_flip p k f i h ∙ ap (λ (x : ℕ). part_of p k f ⊕ x) (sym (columns i h))

  module _ (chains : List ℕ) (chained : Chained parts p.size chains) (flips part : ℕ) (told_part : part ≡ part_of p k flips) where
    -- a flip that the chains shut leads nowhere
    shut_nowhere : (i : ℕ) → i < p.size → Shut chains (i + 1) (part ⊕ F i) → Nowhere (λ i. i) (tried p) p.size 2 flips i
    shut_nowhere i l shut =
        let z : ℕ = part ⊕ F i in
        let e : part_of p k flips ⊕ F i ≡ z = ap (λ (x : ℕ). x ⊕ F i) (sym told_part) in
        two_nowhere (λ i. i) (tried p) p.size (part_of p k) F drops part_after flips i l
        (λ q. shut.some (sym e ∙ q))
        (λ h a b q. last_none parts p.size (slot_of z) h
        (omega (arith, shut.none, chained.heads z)) b (ap slot_of (q ∙ e)))

    -- a rank that is passed over leads nowhere
    next_nowhere : (from to may r : ℕ) → Next parts chains part from to may r → 0 < may → (i : ℕ) → r ≤ i → i < to → i < p.size
        → Nowhere (λ i. i) (tried p) p.size may flips i
    next_nowhere from to zero r n some i a b l = absurd (omega arith)
    next_nowhere from to (suc zero) r n some i a b l =
        last_nowhere (λ i. i) (tried p) p.size (part_of p k) F drops part_after flips i l
        (λ q. last_none parts to (slot_of part) i (omega (arith, n.one refl)) b (ap slot_of (q ∙ sym told_part)))
    next_nowhere from to (suc (suc zero)) r n some i a b l = shut_nowhere i l (n.two refl i a b)
    next_nowhere from to (suc (suc (suc j))) r n some i a b l = absurd (omega (arith, n.more (omega arith)))

module _ (p : Prepared) (parts chains : List ℕ) (tab : Tabled p parts chains) where
  -- one flip more is made
  pub made_more : (f g : Flips) (i : ℕ) → Made p f → i < p.size → g.ranks ≡ f.ranks ⊕ 2 ^ i → g.part ≡ f.part ⊕ get_or parts i 0
      → Made p g
  made_more f g i m h r q = record {
    low = rw r (xor_lt p.size f.ranks (2 ^ i) m.low (pow-lt h));
    part = q ∙ ap (λ (x : ℕ). x ⊕ get_or parts i 0) m.part
        ∙ sym (part_after (plan_of p) (told p) (omega arith) parts tab.columns f.ranks i h) ∙ ap (part_of (plan_of p) (told p)) (sym r);
  }

  module _ (flips part : ℕ) (told_part : part ≡ part_of (plan_of p) (told p) flips) where
    passed : (from to may r : ℕ) (x : Best) → Next parts chains part from to may r → to ≤ p.size → 0 < may
        → best_from p r may flips x ≡ best_from p to may flips x
    passed from to may r x n l some =
        search_run (λ i. i) (tried (plan_of p)) p.size r to may flips x n.high l (λ e. omega arith)
        (λ k a b. next_nowhere (plan_of p) (told p) (omega arith) parts tab.columns chains tab.chained flips part told_part
        from to may r n some k a b (omega arith))

    -- where the chains have the next rank, first and after rank r
    pub at_first : (s may : ℕ) → s ≡ slot_of part → At parts chains part p.size s may
    at_first s may e one = ap (λ (u : ℕ). get_or chains u 0) e ∙ tab.chained.heads part

    pub at_after : (r may : ℕ) → r < p.size → (may ≡ 1 → slot_of (get_or parts r 0) ≡ slot_of part) → At parts chains part r r may
    at_after r may l slot one = tab.chained.links r l ∙ ap (last_in parts r) (slot one)

    -- all ranks that are left are kept, and from the last one back those are passed over that lead nowhere
    pub kept_start : (from r may : ℕ) (b : Best) → Next parts chains part from p.size may r → 0 < may
        → (x : Best) → b ≡ tried (plan_of p) flips x → b ≡ best_from p r may flips x
    kept_start from r may b n some x e =
        e ∙ sym (passed from p.size may r x n (omega arith) some
        ∙ search_end (λ i. i) (tried (plan_of p)) p.size p.size may flips x refl)

    -- rank j is flipped, and from it back those are passed over that lead nowhere
    pub kept_turn : (from j end r may : ℕ) (b c x : Best) → end ≡ j + 1 → end ≤ p.size → Next parts chains part from j may r → 0 < may
        → b ≡ best_from p end may flips x → c ≡ best_from p (j + 1) (may - 1) (flips ⊕ 2 ^ j) b → c ≡ best_from p r may flips x
    kept_turn from j end r may b c x back l n some e q =
        q ∙ ap (best_from p (j + 1) (may - 1) (flips ⊕ 2 ^ j)) (e ∙ ap (λ (i : ℕ). best_from p i may flips x) back)
        ∙ sym (search_some (λ i. i) (tried (plan_of p)) p.size j may flips x (omega arith) (λ z. omega arith))
        ∙ sym (passed from j may r x n (omega arith) some)

-- there is room in the count for what the patterns that flip rank r may add
pub room : (p : Prepared) (from r may flips : ℕ) (x b : Best) → from ≤ r → r < p.size → (may ≡ 0 → ⊥)
    → x.count + patterns (p.size - from) may ≤ most_counted
    → b ≡ best_from p (r + 1) may flips x → b.count + patterns (p.size - (r + 1)) (may - 1) ≤ most_counted
room p from r may flips x b h l some most e =
    omega (
      arith,
      ap (λ (y : Best). y.count) e,
      search_patterns (λ i. i) (tried (plan_of p)) (tried_count (plan_of p)) (p.size - (r + 1)) (r + 1) may flips x,
      patterns_some p.size r may l some,
      patterns_mono (p.size - r) (p.size - from) may may (omega arith) (omega arith),
    )

-- the rank that is looked up has the part's slot
pub next_slot : (parts chains : List ℕ) (part from to may r : ℕ) → Next parts chains part from to may r → may ≡ 1 → from < r
    → slot_of (get_or parts (r - 1) 0) ≡ slot_of part
next_slot parts chains part from to may r n one some =
    let back : last_in parts to (slot_of part) ≡ suc (r - 1) = omega (arith, n.one one) in last_slot parts to (slot_of part) (r - 1) back

-- what is built once a word is what is lent
pub tabled_made : (p : Prepared) (parts chains : List ℕ) → p.size ≤ 61 → PartsOf p.symbols (told p) parts
    → Chained parts p.size chains
    → Tabled p parts chains
unfolding column_part
tabled_made p parts chains h l c = record { columns = λ j b. l j (omega arith); chained = c }
