-- What the search need not enter: ranks whose flips lead nowhere are passed over, and with one flip left a flip leads nowhere
-- unless its column has the part of the pattern so far. Assumes nothing.
use mathlib.Core.Path.{◌≡◌, refl, sym, ap, ◌∙◌}
use Prim.Native.Nat.{ℕ, zero, suc, ◌+◌, ◌-◌, ◌^◌, ◌<◌, ◌≤◌}
use native.Mathlib.Omega.{arith}
use Rattle.field.specs.Field.{◌⊕◌}
use Rattle.field.proofs.XorLaws.{xor_eq}
use Rattle.search.specs.Best.{Best}
use Rattle.search.specs.Search.{best_over}
use Rattle.search.proofs.SearchSteps.{search_early, search_end, search_some}

module _ (R : ℕ → ℕ) (leaf : ℕ → Best → Best) (size : ℕ) where
  -- the patterns that flip rank i lead nowhere
  abbrev pub Nowhere : ℕ → ℕ → ℕ → Type 0
  Nowhere may v i = (x : Best) → best_over R leaf (size - (i + 1)) (i + 1) (may - 1) (v ⊕ 2 ^ R i) x ≡ x

  run_step : (d i j may v : ℕ) (x : Best) → j ≡ i + d → j ≤ size → (may ≡ 0 → ⊥) → ((h : ℕ) → i ≤ h → h < j → Nowhere may v h)
      → best_over R leaf (size - i) i may v x ≡ best_over R leaf (size - j) j may v x
  run_step zero i j may v x e l some none = let s : i ≡ j = omega arith in ap (λ (h : ℕ). best_over R leaf (size - h) h may v x) s
  run_step (suc d) i j may v x e l some none =
      search_some R leaf size i may v x (omega arith) some ∙ none i (omega arith) (omega arith) _
      ∙ run_step d (i + 1) j may v x (omega arith) l some (λ h a b. none h (omega arith) b)

  -- ranks from i to j whose flips lead nowhere are kept
  pub search_run : (i j may v : ℕ) (x : Best) → i ≤ j → j ≤ size → (may ≡ 0 → ⊥) → ((h : ℕ) → i ≤ h → h < j → Nowhere may v h)
      → best_over R leaf (size - i) i may v x ≡ best_over R leaf (size - j) j may v x
  search_run i j may v x h = run_step (j - i) i j may v x (omega arith)

  -- a part of each pattern, to which a flip of rank i adds F i; a pattern with a part other than 0 is dropped
  module _ (part F : ℕ → ℕ) (drops : (v : ℕ) (x : Best) → (part v ≡ 0 → ⊥) → leaf v x ≡ x)
      (steps : (v i : ℕ) → i < size → part (v ⊕ 2 ^ R i) ≡ part v ⊕ F i) where
    -- the last flip is looked for by its part
    pub last_nowhere : (v i : ℕ) → i < size → (F i ≡ part v → ⊥) → Nowhere 1 v i
    last_nowhere v i h other x =
        search_early R leaf (size - (i + 1)) (i + 1) (v ⊕ 2 ^ R i) x
        ∙ drops (v ⊕ 2 ^ R i) x (λ z. other (sym (xor_eq (part v) (F i) (sym (steps v i h) ∙ z))))

    -- two flips are left: the first leads nowhere if its pattern is dropped and no later column has that pattern's part
    pub two_nowhere : (v i : ℕ) → i < size → (part v ⊕ F i ≡ 0 → ⊥) → ((h : ℕ) → i < h → h < size → F h ≡ part v ⊕ F i → ⊥) → Nowhere 2 v i
    two_nowhere v i l some none x =
        let u : ℕ = v ⊕ 2 ^ R i in
        let e : part u ≡ part v ⊕ F i = steps v i l in
        search_run (i + 1) size 1 u x (omega arith) (omega arith) (λ z. omega arith)
        (λ h a b. last_nowhere u h b (λ q. none h (omega arith) b (q ∙ e)))
        ∙ search_end R leaf size size 1 u x refl ∙ drops u x (λ z. some (sym e ∙ z))
