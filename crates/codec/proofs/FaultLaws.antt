-- A word of the W bytes is accepted, or it fails one of read's three checks of a word; `fault_of` says which and where (Req 02).
--   Outcome, outcome                      which of the four it is, and that it is one of them
--   fault_pad, fault_unsent, fault_root   what `fault_of` says in the last three
--   not_pad, not_unsent, not_root         a readable word fails none
--   readable_where                        and a word that fails none is readable
-- Assumes nothing.
use mathlib.Core.Path.{◌≡◌, refl, ap, ap₂, ◌∙◌, subst}
use mathlib.Core.Logic.{◌≢◌, ◌↔◌, ⊎_elim}
use mathlib.Core.Bool.{Bool, true, false, cond}
use Prim.Native.Nat.{ℕ, suc, ◌+◌, ◌-◌, ◌*◌, ◌/◌, ◌^◌, ◌<◌, ◌≤◌}
use native.Mathlib.Nat.{le_trans, eq-zero-or-pos, lt_of_not-le}
use native.Mathlib.Decide.{dec_le}
use native.Mathlib.Omega.{arith}
use lib.Pow.{pow_mono}
use lib.Dec.{T, ltb, ltb→lt, lt→ltb}
use Rattle.field.specs.Field.{◌⊕◌, length_of}
use Rattle.field.specs.Lowest.{Lowest, lowest_of}
use Rattle.field.proofs.TestLaws.{is_true, is_false, dec_t}
use Rattle.field.proofs.XorLaws.{xor_zero}
use Rattle.field.proofs.FieldLaws.{laws}
use Rattle.field.proofs.LowestLaws.{lowest_is, lowest_cases, lowest_cong}
use Rattle.codes.specs.Code.{Known}
use Rattle.codes.specs.Codeword.{bit_of, value_at, Codeword}
use Rattle.codes.proofs.WordLaws.{bit_shift, bit_high, below_div, high_below}
use Rattle.codes.proofs.LowestOne.{none_from}
use Rattle.codes.proofs.GeneratorRight.{at_bits}
use Rattle.codec.specs.GivenBack.{says, fault_at}
use Rattle.codec.specs.Read.{Readable, UnsentFault, RootFault}
use Rattle.codec.specs.Called.{fault_of}

-- bit n is the last of n + 1
pad_one : (n w : ℕ) → w < 2 ^ suc n → ¬ w < 2 ^ n → bit_of w n ≡ 1
pad_one n w h f =
    let small : w / 2 ^ n < 2 ^ 1 = high_below w n 1 (subst (λ (x : ℕ). w < 2 ^ x) (omega arith) h) in
    ⊎_elim (λ (z : w / 2 ^ n ≡ 0). absurd (f (below_div w n z))) (λ (l : 0 < w / 2 ^ n). bit_shift w n ∙ omega arith)
    (eq-zero-or-pos (w / 2 ^ n))

pad_zero : (n w : ℕ) → w < 2 ^ suc n → bit_of w n ≡ 0 → w < 2 ^ n
pad_zero n w h z = none_from w n (suc n) (omega arith) h (λ p l k. let e : p ≡ n = omega arith in ap (bit_of w) e ∙ z)

module _ (m t s w : ℕ) where
  abbrev n : ℕ
  n = length_of m

  abbrev sent : ℕ
  sent = n - s

  -- the lowest unsent position that holds a 1, and the lowest power at which the word is not zero
  abbrev position : ℕ
  position = lowest_of sent s (bit_of w)

  abbrev power : ℕ
  power = lowest_of 1 (2 * t) (value_at m (bit_of w))

  picked : (a b : Bool) → ltb w (2 ^ n) ≡ a → ltb w (2 ^ sent) ≡ b
      → fault_of m t s w ≡ cond a (cond b (fault_at 10 power) (fault_at 9 position)) (says 8 0)
  unfolding fault_of
  picked a b p q = ap₂ (λ (x y : Bool). cond x (cond y (fault_at 10 power) (fault_at 9 position)) (says 8 0)) p q

  within : (k : ℕ) → w < 2 ^ k → ltb w (2 ^ k) ≡ true
  within k l = is_true (ltb w (2 ^ k)) (lt→ltb w (2 ^ k) l)

  beyond : (k : ℕ) → ¬ w < 2 ^ k → ltb w (2 ^ k) ≡ false
  beyond k f = is_false (ltb w (2 ^ k)) (λ l. f (ltb→lt w (2 ^ k) l))

  pub fault_pad : ¬ w < 2 ^ n → fault_of m t s w ≡ says 8 0
  fault_pad f = picked false _ (beyond n f) refl

  -- whatever is not 0 at p is at least 2 ^ p
  pub not_below : (k p : ℕ) → k ≤ p → bit_of w p ≢ 0 → ¬ w < 2 ^ k
  not_below k p l f h = f (bit_high w k p h l)

  -- however far the search for p goes
  pub fault_unsent : (r p : ℕ) → s ≤ n → w < 2 ^ n → Lowest sent r (bit_of w) p → fault_of m t s w ≡ fault_at 9 p
  fault_unsent r p fits l h =
      picked true false (within n l) (beyond sent (not_below sent p h.low h.nonzero))
      ∙ ap (fault_at 9) (lowest_is (bit_of w) sent s p
      (record { low = h.low; high = below (dec_le n p); nonzero = h.nonzero; lower = h.lower }))
    where
      -- what is not 0 is one of the n bits
      below : Dec (n ≤ p) → p < sent + s
      below (yes k) = absurd (h.nonzero (bit_high w n p l k))
      below (no k) = let q : p < n = lt_of_not-le k in omega arith

  pub fault_root : s ≤ n → w < 2 ^ sent → fault_of m t s w ≡ fault_at 10 power
  fault_root fits l = picked true true (within n (le_trans l (pow_mono {i = sent} {j = n} (omega arith)))) (within sent l)

  -- a codeword that is taken off changes no value at a root
  pub power_left : Known m t → (c : ℕ) → Codeword m t c → lowest_of 1 (2 * t) (value_at m (bit_of (w ⊕ c))) ≡ power
  power_left k c h =
      lowest_cong 1 (2 * t) (value_at m (bit_of (w ⊕ c))) (value_at m (bit_of w))
      (λ e a b. at_bits m (laws m k.m_low k.m_high) w c e ∙ ap (λ (u : ℕ). value_at m (bit_of w) e ⊕ u) (h.roots e a b)
      ∙ xor_zero (value_at m (bit_of w) e))

  pub data Outcome : Type 0 where
    accepted : Readable m t s w → Outcome
    pad : bit_of w n ≡ 1 → Outcome
    unsent : UnsentFault m s w position → Outcome
    root : RootFault m t s w power → Outcome

  -- a readable word fails no check
  module _ (r : Readable m t s w) where
    pub not_pad : bit_of w n ≢ 1
    not_pad e = let z : bit_of w n ≡ 0 = bit_high w sent n r.unsent (omega arith) in omega arith

    pub not_unsent : (p : ℕ) → ¬ UnsentFault m s w p
    not_unsent p f = not_below sent p f.lowest.low f.lowest.nonzero r.unsent

    pub not_root : (e : ℕ) → ¬ RootFault m t s w e
    not_root e f = f.lowest.nonzero (r.codeword.roots e f.lowest.low f.lowest.high)

  module _ (fits : s ≤ n) (wide : w < 2 ^ suc n) where
    pub pad_clear : bit_of w n ≡ 0 → w < 2 ^ n
    pad_clear = pad_zero n w wide

    rooted : w < 2 ^ n → w < 2 ^ sent → Outcome
    rooted l h =
        ⊎_elim (λ z. accepted (record { codeword = record { bits = l; roots = z }; unsent = h }))
        (λ k. root (record { clear = λ p a. bit_high w sent p h a; lowest = k }))
        (lowest_cases (value_at m (bit_of w)) 1 (2 * t))

    searched : w < 2 ^ n → Outcome
    searched l =
        ⊎_elim (λ z. rooted l (none_from w sent n (omega arith) l (λ p a b. z p a (omega arith))))
        (λ k. unsent (record { pad = omega (arith, bit_high w n n l (omega arith)); lowest = k }))
        (lowest_cases (bit_of w) sent s)

    pub outcome : Outcome
    outcome = go (dec_t (ltb w (2 ^ n)))
      where
        go : Dec (T (ltb w (2 ^ n))) → Outcome
        go (yes l) = searched (ltb→lt w (2 ^ n) l)
        go (no f) = pad (pad_one n w wide (λ l. f (lt→ltb w (2 ^ n) l)))

    pub readable_where : Readable m t s w
        ↔ ((bit_of w n ≢ 1) × ((p : ℕ) → ¬ UnsentFault m s w p) × ((e : ℕ) → ¬ RootFault m t s w e))
    readable_where = (λ r. (not_pad r, not_unsent r, not_root r), λ f. go f outcome)
      where
        go : (bit_of w n ≢ 1) × ((p : ℕ) → ¬ UnsentFault m s w p) × ((e : ℕ) → ¬ RootFault m t s w e) → Outcome → Readable m t s w
        go f (accepted r) = r
        go f (pad e) = absurd (f.0 e)
        go f (unsent u) = absurd (f.1 _ u)
        go f (root u) = absurd (f.2 _ u)
