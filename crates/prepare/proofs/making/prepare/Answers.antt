-- `making::prepare` meets its contract: what the inner functions ensure are the parts of a prepared word. Assumes nothing.
use mathlib.Core.Path.{◌≡◌, refl, ap, ◌∙◌}
use mathlib.Core.List.{List}
use Prim.Native.Nat.{ℕ, ◌-◌, ◌*◌, ◌/◌, ◌^◌, ◌<◌, ◌≤◌}
use native.Mathlib.Omega.{arith}
use lib.ListN.{length}
use Rattle.field.specs.Field.{length_of}
use Rattle.codes.proofs.WordLaws.{word_lt}
use Rattle.codes.proofs.ShapeLaws.{length_small, roots_fit}
use Rattle.words.specs.Packing.{unpacked}
use Rattle.soft.specs.Value.{hard}
use Rattle.search.proofs.BestIsNearest.{hard_lt}
use Rattle.search.specs.Plan.{Fits, Prepares}
use Rattle.prepare.proofs.BytesLaws.{unpacked_bytes}
use Rattle.prepare.proofs.RankLaws.{sides_lt}
use Rattle.prepare.proofs.PreparedWord.{places_each, Fields, plan_with, word_prepared}
use Rattle.prepare.proofs.making.prepare.Goals as goal
use Rattle.prepare.proofs.making.prepare.Goals.{After-to_le_bytes}

abbrev fields : After-to_le_bytes → Fields
fields c = record {
  size = c.reliable_size-size.result;
  rows = c.length-n.result - c.reliable_size-size.result;
  hards = c.to_le_bytes.result;
  sides = c.gather-bits.result.bits / 2 ^ c.reliable_size-size.result;
  base = c.row_sums-base.result;
  order = c.order_of-order.result;
  weight = c.gather-bits.result.weight;
  symbols = c.symbol_table-symbols.result;
}

pub receive-hards-requires : goal.receive-hards-requires
receive-hards-requires c = omega (arith, length_small c.args.m (omega arith) (omega arith))

pub order_of-order-requires : goal.order_of-order-requires
order_of-order-requires c = omega (arith, length_small c.args.m (omega arith) (omega arith))

pub gather-bits-requires : goal.gather-bits-requires
gather-bits-requires c =
    (omega (arith, length_small c.args.m (omega arith) (omega arith)), λ i l. c.order_of-order.ensures.small i)

pub symbol_table-symbols-requires : goal.symbol_table-symbols-requires
symbol_table-symbols-requires c =
    let m = c.args.m in
    let known = c.requires.0 in
    let n = c.length-n in
    let size = c.reliable_size-size in
    let received = c.receive-hards in
    let order = c.order_of-order in
    let e : n.result ≡ length_of m = rw c.from.ensures at n.ensures.length in
    let f = size.ensures in
    let fit = roots_fit m c.args.t known in
    record {
      m_low = known.m_low;
      m_high = known.m_high;
      few = omega (arith, known.t_high);
      long = e;
      all = omega arith;
      each = places_each m n.result known.m_low known.m_high e c.args.soft.now received.result received.ensures
          order.result order.ensures;
    }

pub overflow_cast-result-3 : goal.overflow_cast-result-3
overflow_cast-result-3 c =
    let fit = roots_fit c.args.m c.args.t c.requires.0 in
    let n = c.length-n.result in
    let size = c.reliable_size-size.result in
    let e = c.length-n.ensures.length in
    let f = c.reliable_size-size.ensures in
    let ranks = c.gather-bits in
    let hards = c.receive-hards.result.hards in
    let order = c.order_of-order.result in
    let few = sides_lt n size hards order (omega arith) (omega (arith, c.requires.0.t_high)) in
    record { fits = omega (arith, few, ap (λ (u : ℕ). u / 2 ^ size) ranks.ensures.bits) }

-- the hard decisions are a word
hards_fit : (c : After-to_le_bytes) → c.receive-hards.result.hards < 2 ^ 64
hards_fit c =
    let soft = c.args.soft.now in
    let few : length soft ≤ 63 = omega (arith, c.requires.1, length_small c.args.m (omega arith) (omega arith)) in
    omega (arith, c.receive-hards.ensures.hards 63 few, word_lt 63 (hard soft) (λ q _. hard_lt soft q))

-- the parts make a prepared word
made : (c : After-to_le_bytes) → let p = plan_with (fields c) in
    Prepares c.args.m 1 (2 * c.args.t) c.args.soft.now p × Fits p
made c =
    let m = c.args.m in
    let t = c.args.t in
    let n = c.length-n in
    let e : n.result ≡ length_of m = rw c.from.ensures at n.ensures.length in
    word_prepared m t c.requires.0 n.result e c.args.soft.now c.requires.1 c.receive-hards.result c.receive-hards.ensures
    c.gather-bits.result (fields c)
    (record {
      size = rw (c.from.ensures, c.from-2.ensures) at c.reliable_size-size.ensures;
      rows = omega (arith, n.ensures.length, c.reliable_size-size.ensures, roots_fit m t c.requires.0);
      hards = ap (λ (l : List ℕ). unpacked l 8) c.to_le_bytes.ensures ∙ unpacked_bytes _ (hards_fit c);
      order = c.order_of-order.ensures;
      ranks = c.gather-bits.ensures;
      weight = refl;
      sides = refl;
      symbols = c.symbol_table-symbols.ensures;
      base = c.row_sums-base.ensures;
    })

pub invariant_of-result : goal.invariant_of-result
invariant_of-result c = record { fits = (made (goal.at.invariant_of-result c).After-to_le_bytes).1 }

pub returns : goal.returns
returns c = made (goal.at.returns c).After-to_le_bytes
