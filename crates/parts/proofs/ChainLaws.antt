-- The last rank below a bound that has a slot, and the chains as they are built: one rank more is linked. Assumes nothing.
use mathlib.Core.Path.{◌≡◌, sym, ap, ◌∙◌}
use mathlib.Core.Logic.{by_cases, ⊎_elim}
use mathlib.Core.List.{List}
use Prim.Native.Nat.{ℕ, zero, suc, ◌+◌, ◌<◌, ◌≤◌}
use native.Mathlib.Decide.{ℕ_discrete}
use native.Mathlib.Nat.{eq-or-lt_of_le, le_of_suc-le-suc, mod-lt}
use native.Mathlib.Numerals.{add-one}
use native.Mathlib.Omega.{arith}
use lib.ListN.{length, get_or, set, length-set}
use lib.Seq.{get_or-set_same, get_or-set_other}
use borrow.Author.Tests.{eq-eqb, ne_eqb}
use Rattle.parts.specs.Chains.{slot_of, last_in, Chained}

module _ (parts : List ℕ) where
  abbrev slot_at : ℕ → ℕ
  slot_at i = slot_of (get_or parts i 0)

  last_here : (n h : ℕ) → slot_at n ≡ h → last_in parts (suc n) h ≡ suc n
  unfolding last_in
  last_here n h e = rw (eq-eqb (slot_at n) h e)

  last_other : (n h : ℕ) → (slot_at n ≡ h → ⊥) → last_in parts (suc n) h ≡ last_in parts n h
  unfolding last_in
  last_other n h e = rw (ne_eqb (slot_at n) h e)

  pub last_le : (n h : ℕ) → last_in parts n h ≤ n
  unfolding last_in
  last_le zero h = omega arith
  last_le (suc n) h =
      by_cases (ℕ_discrete (slot_at n) h) (λ e. omega (arith, last_here n h e)) (λ e. omega (arith, last_other n h e, last_le n h))

  -- it has the slot
  pub last_slot : (n h k : ℕ) → last_in parts n h ≡ suc k → slot_at k ≡ h
  last_slot zero h k q = absurd (omega (arith, last_le 0 h))
  last_slot (suc n) h k q =
      by_cases (ℕ_discrete (slot_at n) h)
      (λ e. let same : k ≡ n = omega (arith, last_here n h e) in ap slot_at same ∙ e)
      (λ e. last_slot n h k (sym (last_other n h e) ∙ q))

  -- and none after it has
  pub last_none : (n h i : ℕ) → last_in parts n h ≤ i → i < n → slot_at i ≡ h → ⊥
  last_none zero h i l b e = omega arith
  last_none (suc n) h i l b e =
      by_cases (ℕ_discrete (slot_at n) h)
      (λ q. omega (arith, last_here n h q))
      (λ q. ⊎_elim (λ same. q (ap slot_at (sym same) ∙ e)) (λ less. last_none n h i (omega (arith, last_other n h q)) less e)
      (eq-or-lt_of_le (le_of_suc-le-suc b)))

-- no rank is linked yet
pub chained_start : (parts chains : List ℕ) → ((i : ℕ) → i < 1088 → get_or chains i 0 ≡ 0) → Chained parts 0 chains
unfolding last_in
chained_start parts chains none =
    record { heads = λ z. none (slot_of z) (omega (arith, mod-lt z {m = 1024} (omega arith))); links = λ j l. absurd (omega arith) }

-- rank j is linked to the last rank of its slot, and is the last one itself
pub chained_turn : (parts chains : List ℕ) (j s : ℕ) → Chained parts j chains → s ≡ slot_of (get_or parts j 0) → length chains ≡ 1088
    → j < 64 → Chained parts (j + 1) (set (set chains j (get_or chains s 0)) s (j + 1))
chained_turn parts chains j s c e full low =
    let v = get_or chains s 0 in
    let linked = set chains j v in
    let bound = mod-lt (get_or parts j 0) {m = 1024} (omega arith) in
    let fit : s < length linked = omega (arith, length-set chains j v, bound) in record {
      heads = λ z. by_cases (ℕ_discrete (slot_of z) s)
          (λ q. ap (λ (x : ℕ). get_or (set linked s (j + 1)) x 0) q ∙ get_or-set_same linked s (j + 1) 0 fit ∙ add-one j
          ∙ sym (ap (λ (n : ℕ). last_in parts n (slot_of z)) (add-one j) ∙ last_here parts j (slot_of z) (sym e ∙ sym q)))
          (λ q. get_or-set_other linked s (slot_of z) (j + 1) 0 q ∙ get_or-set_other chains j (slot_of z) v 0 (λ k. omega arith) ∙ c.heads z
          ∙ sym (ap (λ (n : ℕ). last_in parts n (slot_of z)) (add-one j) ∙ last_other parts j (slot_of z) (λ k. q (sym k ∙ sym e))));
      links = λ k l. get_or-set_other linked s k (j + 1) 0 (λ q. omega arith)
          ∙ by_cases (ℕ_discrete k j)
          (λ q. ap (λ (x : ℕ). get_or linked x 0) q ∙ get_or-set_same chains j v 0 (omega arith) ∙ ap (λ (x : ℕ). get_or chains x 0) e
          ∙ c.heads (get_or parts j 0)
          ∙ ap (λ (x : ℕ). last_in parts x (slot_of (get_or parts x 0))) (sym q))
          (λ q. get_or-set_other chains j k v 0 q ∙ c.links k (omega arith));
    }
