-- Receiving one value after the other: the hard decisions from the last down, the reliabilities from the first up.
--   HardsFrom, hards_more   the hard decisions from p on are in; after a turn more
--   hards_lt, next_fits     their word leaves room for one more, and fits with it
--   FirstIn                 the reliabilities of the first p values are in
--   none_in, one_more_in    they are at the start, and after a turn more
--   all_in                  the reliabilities are those of all positions once all values are in
--   received                the values are received with both
-- Assumes nothing.
use mathlib.Core.Path.{◌≡◌, sym, ap, ap₂, ◌∙◌}
use mathlib.Core.Logic.{◌≢◌, ⊎_elim, by_cases}
use mathlib.Core.List.{List}
use Prim.Native.Nat.{ℕ, ◌+◌, ◌-◌, ◌*◌, ◌^◌, ◌<◌, ◌≤◌}
use native.Mathlib.Nat.{eq-or-lt_of_le}
use native.Mathlib.Decide.{dec_lt, ℕ_discrete}
use native.Mathlib.Omega.{arith}
use lib.IntN.{ℤ, pos, negsuc, nat_abs}
use lib.ListN.{length, get_or, set, replicate, length-set, length-replicate, get_or-replicate}
use lib.Seq.{get_or-set_same, get_or-set_other}
use Rattle.std.proofs.lemmas.List.{get_or_default}
use Rattle.codes.specs.Codeword.{word_of}
use Rattle.soft.specs.Value.{soft_at, hard_of, hard, reliability}
use Rattle.soft.proofs.ValueLaws.{hard_unsent, reliability_unsent}
use Rattle.received.specs.Receives.{Receives}
use Rattle.received.specs.Inner.Reliabilities.{Reliabilities}
use Rattle.codes.proofs.WordSteps.{word_from, word_from_more, word_from_lt, word_longer}

hard_of_bit : (v : ℤ) → hard_of v < 2
hard_of_bit (pos n) = omega arith
hard_of_bit (negsuc n) = omega arith

hard_bit : (soft : List ℤ) (p : ℕ) → hard soft p < 2
unfolding hard
hard_bit soft p = hard_of_bit (soft_at soft p)

module _ (soft : List ℤ) where
  -- what a value that was received is to the definitions
  hard_sent : (p : ℕ) (v : ℤ) → p < length soft → v ≡ get_or soft p (pos 0) → hard_of v ≡ hard soft p
  unfolding hard soft_at
  hard_sent p v l e = ap hard_of (e ∙ get_or_default soft p (pos 0) (pos 127) l)

  reliability_sent : (p : ℕ) (v : ℤ) → p < length soft → v ≡ get_or soft p (pos 0) → nat_abs v ≡ reliability soft p
  unfolding reliability soft_at
  reliability_sent p v l e = ap nat_abs (e ∙ get_or_default soft p (pos 0) (pos 127) l)

  -- the hard decisions from p on are in
  abbrev pub HardsFrom : ℕ → ℕ → Type 0
  HardsFrom p hards = (p ≤ length soft) × (hards ≡ word_from (length soft) (hard soft) p)

  module _ (p hards : ℕ) (before : HardsFrom p hards) where
    pub hards_lt : length soft ≤ 63 → hards < 2 ^ 63
    hards_lt room = omega (arith, before.1, word_from_lt (length soft) (hard soft) (λ k l. hard_bit soft k) room p before.0)

    module _ (v : ℤ) (h : ℕ) (some : 0 < p) (here : v ≡ get_or soft (p - 1) (pos 0)) (bit : h ≡ hard_of v) where
      pub next_fits : length soft ≤ 63 → hards * 2 + h < 2 ^ 64
      next_fits room = omega (arith, hards_lt room, bit, hard_of_bit v)

      pub hards_more : HardsFrom (p - 1) (hards * 2 + h)
      hards_more =
          let e : p ≡ p - 1 + 1 = omega arith in (
            omega (arith, before.0),
            ap₂ (λ (x y : ℕ). x * 2 + y) (before.1 ∙ ap (word_from (length soft) (hard soft)) e)
                (bit ∙ hard_sent (p - 1) v (omega (arith, before.0)) here)
                ∙ sym (word_from_more (length soft) (hard soft) (p - 1) (omega (arith, before.0))),
          )

  -- the reliabilities of the first p values are in, and the positions from p on are as if unsent
  pub record FirstIn (p : ℕ) (values : List ℕ) : Type 0 where
    pub at : p ≤ length soft
    pub size : length values ≡ 63
    pub sent : (k : ℕ) → k < p → get_or values k 0 ≡ reliability soft k
    pub unsent : (k : ℕ) → p ≤ k → k < 63 → get_or values k 0 ≡ 127
    pub small : (k : ℕ) → k < 63 → get_or values k 0 ≤ 128

  pub none_in : FirstIn 0 (replicate 63 127)
  none_in = record {
    at = omega arith;
    size = length-replicate {A = ℕ} 63 127;
    sent = λ k l. absurd (omega arith);
    unsent = λ k h l. get_or-replicate 63 k 127 0 l;
    small = λ k l. omega (arith, get_or-replicate {A = ℕ} 63 k 127 0 l);
  }

  module _ (p : ℕ) (values : List ℕ) (before : FirstIn p values) where
    pub one_more_in : (v : ℤ) (x : ℕ) → p < length soft → p < 63 → v ≡ get_or soft p (pos 0) → (x ≡ nat_abs v) × (x ≤ 128)
        → FirstIn (p + 1) (set values p x)
    one_more_in v x inside room here s = record {
      at = omega arith;
      size = length-set values p x ∙ before.size;
      sent = λ k l. ⊎_elim
          (λ (q : k ≡ p). rw q (same ∙ s.0 ∙ reliability_sent p v inside here))
          (λ (q : k < p). other k (λ z. omega arith) ∙ before.sent k q)
          (eq-or-lt_of_le {n = k} {m = p} (omega arith));
      unsent = λ k g l. other k (λ z. omega arith) ∙ before.unsent k (omega arith) l;
      small = λ k l. by_cases (ℕ_discrete k p)
          (λ (q : k ≡ p). rw (q, same) s.1)
          (λ q. rw (other k q) (before.small k l));
    }
      where
        same : get_or (set values p x) p 0 ≡ x
        same = get_or-set_same values p x 0 (omega (arith, before.size))

        other : (k : ℕ) → k ≢ p → get_or (set values p x) k 0 ≡ get_or values k 0
        other k n = get_or-set_other values p k x 0 n

    pub all_in : length soft ≤ p → Reliabilities soft values
    all_in end k l = (
      by_cases (dec_lt k p) (λ b. before.sent k b)
          (λ b. before.unsent k (omega arith) l ∙ sym (reliability_unsent soft k (omega (arith, before.at)))),
      before.small k l,
    )

  pub received : (hards : ℕ) (values : List ℕ) → hards ≡ word_of (length soft) (hard soft) → Reliabilities soft values
      → Receives soft (record { hards = hards; reliability = values })
  received hards values h r = record {
    hards = λ n l. h ∙ sym (word_longer n (length soft) (hard soft) l (hard_unsent soft));
    reliabilities = λ k l. (r k l).0;
    small = λ k l. (r k l).1;
  }
