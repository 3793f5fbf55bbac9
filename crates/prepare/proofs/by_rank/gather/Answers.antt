-- `by_rank::gather` meets its contract. The loop's invariant: what the ranks from i on have is in its places. Assumes nothing.
use mathlib.Core.Path.{◌≡◌, refl, sym, ap, ap₂, ◌∙◌}
use mathlib.Core.Logic.{by_cases}
use mathlib.Core.List.{List}
use Prim.Native.Nat.{ℕ, ◌+◌, ◌-◌, ◌*◌, ◌/◌, ◌%◌, ◌^◌, ◌<◌, ◌≤◌}
use native.Mathlib.Decide.{ℕ_discrete}
use native.Mathlib.Omega.{arith}
use lib.ListN.{get_or, set, length-set}
use lib.Seq.{get_or-set_same, get_or-set_other}
use Rattle.codes.proofs.WordLaws.{bit_shift, bit_lt}
use Rattle.codes.proofs.WordSteps.{word_from, word_from_none, word_from_all, word_from_more, word_from_lt}
use Rattle.ranks.specs.Places.{place_in}
use Rattle.ranks.specs.declared.Position.{Position}
use Rattle.prepare.specs.Inner.ByRank.{ranked}
use Rattle.prepare.proofs.by_rank.gather.Invariants.{From, bit_at, value_at}
use Rattle.prepare.proofs.by_rank.gather.Goals as goal
use Rattle.prepare.proofs.by_rank.gather.Goals.{In-loop-i}

from_more : (n : ℕ) (F : ℕ → ℕ) (i : ℕ) (l : List ℕ) → 0 < i → i ≤ n → n ≤ 63 → From n F i l → From n F (i - 1) (set l (i - 1) (F (i - 1)))
from_more n F i l pos le fit f = record {
  full = length-set l (i - 1) (F (i - 1)) ∙ f.full;
  right = λ j lj ln.
      by_cases (ℕ_discrete j (i - 1))
      (λ same. ap (λ (u : ℕ). get_or (set l (i - 1) (F (i - 1))) u 0) same ∙ get_or-set_same l (i - 1) (F (i - 1)) 0 (omega (arith, f.full))
      ∙ ap F (sym same))
      (λ other. get_or-set_other l (i - 1) j (F (i - 1)) 0 other ∙ f.right j (omega arith) ln);
}

-- one bit more in front
next : (word n : ℕ) (order : List Position) (bits i : ℕ) → 0 < i → i ≤ n → bits ≡ word_from n (bit_at word order) i
    → bits * 2 + word / 2 ^ place_in order (i - 1) % 2 ≡ word_from n (bit_at word order) (i - 1)
next word n order bits i pos l e =
    let back : i ≡ i - 1 + 1 = omega arith in
    ap₂ (λ (x y : ℕ). x * 2 + y) (e ∙ ap (word_from n (bit_at word order)) back) (sym (bit_shift word (place_in order (i - 1))))
    ∙ sym (word_from_more n (bit_at word order) (i - 1) (omega arith))

next_fits : (word n : ℕ) (order : List Position) (bits i : ℕ) → 0 < i → i ≤ n → n ≤ 63 → bits ≡ word_from n (bit_at word order) i
    → bits * 2 + word / 2 ^ place_in order (i - 1) % 2 < 2 ^ 63
next_fits word n order bits i pos l fit e =
    let r = next word n order bits i pos l e in
    omega (arith, word_from_lt n (bit_at word order) (λ p _. bit_lt word (place_in order p)) fit (i - 1) (omega arith))

-- the position of the rank in hand
placed : (c : In-loop-i) → place_in c.args.order.now (c.loop-i.i - 1) < 63
placed c = c.requires.1 (c.loop-i.i - 1) (omega arith)

fits : (c : In-loop-i)
    → c.loop-i.bits * 2 + c.args.hards / 2 ^ place_in c.args.order.now
    (c.loop-i.i - 1) % 2 < 2 ^ 63
fits c =
    let a = c.args in
    let l = c.loop-i in
    next_fits a.hards a.n a.order.now l.bits l.i (omega arith) (omega arith) (omega arith) l.invariant.2

pub loop-i-init : goal.loop-i-init
loop-i-init c =
    let a = c.args in (
      omega arith,
      record { full = refl; right = λ j l k. absurd (omega arith) },
      sym (word_from_none a.n (bit_at a.hards a.order.now)),
    )

pub bounds-reliability-position : goal.bounds-reliability-position
bounds-reliability-position c = omega (arith, placed (goal.at.bounds-reliability-position c).In-loop-i)

pub overflow_mul-bits : goal.overflow_mul-bits
overflow_mul-bits c = omega (arith, fits (goal.at.overflow_mul-bits c).In-loop-i)

pub overflow_shr-bits : goal.overflow_shr-bits
overflow_shr-bits c = omega (arith, placed (goal.at.overflow_shr-bits c).In-loop-i)

pub overflow_add-bits : goal.overflow_add-bits
overflow_add-bits c = omega (arith, fits (goal.at.overflow_add-bits c).In-loop-i)

pub loop-i-preserved : goal.loop-i-preserved
loop-i-preserved c =
    let a = c.args in
    let l = c.loop-i in (
      omega arith,
      from_more a.n (value_at a.reliability.now a.order.now) l.i l.weight (omega arith) (omega arith) (omega arith) l.invariant.1,
      next a.hards a.n a.order.now l.bits l.i (omega arith) (omega arith) l.invariant.2,
    )

pub returns : goal.returns
unfolding ranked
returns c =
    let a = c.args in
    let l = c.loop-i in
    let e : l.i ≡ 0 = omega arith in
    record {
      weight = λ i li. l.invariant.1.right i (omega arith) li;
      bits = l.invariant.2 ∙ ap (word_from a.n (bit_at a.hards a.order.now)) e ∙ word_from_all a.n (bit_at a.hards a.order.now);
    }
