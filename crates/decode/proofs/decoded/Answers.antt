-- `decode::decoded` meets its contract: laws over named places of the code, then its goals. Assumes nothing.
use mathlib.Core.Path.{◌≡◌, sym, ap, subst}
use mathlib.Core.Bool.{true, not}
use Rattle.std.specs.Prelude.{Option, Some}
use mathlib.Core.List.{List}
use Prim.Native.Nat.{ℕ, ◌*◌}
use native.Mathlib.Omega.{arith}
use lib.ListN.{length}
use Rattle.words.specs.Packing.{bytes_of, written}
use Rattle.frame.proofs.RefusalLaws.{DecodePassed}
use Rattle.search.specs.Plan.{Prepares}
use Rattle.prepare.specs.PlanOf.{plan_of}
use Rattle.candidates.specs.As.{as_best, weighed_or_zero}
use Rattle.candidates.specs.declared.best.Candidate.{Candidate}
use Rattle.decode.specs.Decode.{DecodeAnswers}
use Rattle.decode.proofs.DecodeLaws.{decode_checked, decode_finds_none, decode_finds}
use Rattle.decode.proofs.decoded.Goals as goal
use Rattle.decode.proofs.decoded.Goals.{After-search-best, In_ok-shortened, After-prepare-prepared}

-- what the checks leave, where they are passed
passed : (c : In_ok-shortened) → let a = c.args in DecodePassed a.m a.t a.s a.order (length a.soft.now) (length a.buf.now)
passed c = let a = c.args in decode_checked a.m a.t a.s a.order a.soft.now a.buf.now (sym c.in_ok-shortened.ensures.number)

pub prepare-prepared-requires : goal.prepare-prepared-requires
prepare-prepared-requires c =
    let shortened = c.in_ok-shortened in (
      shortened.shortened.code.known,
      rw shortened.ensures.code.m_is (omega (arith, (passed (goal.at.prepare-prepared-requires c).In_ok-shortened).count)),
    )

pub overflow_cast-order : goal.overflow_cast-order
overflow_cast-order c = omega (arith, (passed (goal.at.overflow_cast-order c).In_ok-shortened).low)

pub search-best-requires : goal.search-best-requires
search-best-requires c = (passed (goal.at.search-best-requires c).In_ok-shortened).low

-- the word is prepared for m and t
prepared : (c : After-search-best) → let a = c.args in Prepares a.m 1 (2 * a.t) a.soft.now (plan_of c.prepare-prepared.result)
prepared c =
    let code = c.in_ok-shortened.ensures.code in
    rw (code.m_is, code.t_is) at c.prepare-prepared.ensures.0

-- after the search: no candidate is found, or the best is
pub returns-in_default : goal.returns-in_default
returns-in_default c =
    let a = c.args in
    let none : not (as_best c.search-best.result).found ≡ true = rw c.in_default.is in
    decode_finds_none a.m a.t a.s a.order a.soft.now a.buf.now (sym c.in_ok-shortened.ensures.number)
    (plan_of c.prepare-prepared.result) (prepared (goal.at.returns-in_default c).After-search-best) (as_best c.search-best.result)
    c.search-best.ensures none

finds : (c : After-search-best) (x : Candidate) → c.search-best.result.nearest ≡ Some x → let a = c.args in
    (after : List ℕ) → after ≡ written a.m x.word a.buf.now
    → DecodeAnswers a.m a.t a.s a.order a.soft.now a.buf.now
    (record { refusal = 0; distance = x.distance; flips = x.flips; candidates = c.search-best.result.count }) after
finds c x e after =
    let a = c.args in
    let best = c.search-best.result in
    let P : Option Candidate → Type 0 = λ o. let y = weighed_or_zero o in
    after ≡ written a.m y.word a.buf.now → DecodeAnswers a.m a.t a.s a.order a.soft.now a.buf.now
    (record { refusal = 0; distance = y.distance; flips = y.flips; candidates = best.count }) after in
    subst P e
    (decode_finds a.m a.t a.s a.order a.soft.now a.buf.now (sym c.in_ok-shortened.ensures.number)
    (plan_of c.prepare-prepared.result) (prepared c) (as_best best) c.search-best.ensures (rw e) after)

pub put_word-requires : goal.put_word-requires
put_word-requires c =
    let room = (passed (goal.at.put_word-requires c).In_ok-shortened).room in
    omega (arith, c.bytes-width.ensures.bytes, ap bytes_of c.in_ok-shortened.ensures.code.m_is, room)

pub returns : goal.returns
unfolding written
returns c =
    let code = c.in_ok-shortened.ensures.code in
    finds (goal.at.returns c).After-search-best c.in-Some.nearest c.in-Some.is _
    (rw (c.bytes-width.ensures.bytes, code.m_is) at c.put_word.ensures)
