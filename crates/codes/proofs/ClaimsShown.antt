-- The claims of specs/Claims, each under its name. Assumes nothing.
use mathlib.Core.Path.{◌≡◌, sym, ap, ap₂, ◌∙◌, subst}
use Prim.Native.Nat.{ℕ, ◌-◌, ◌*◌, ◌/◌, ◌%◌, ◌^◌, ◌<◌}
use mathlib.Core.Logic.{◌↔◌}
use mathlib.Core.List.{List, [], ◌∷◌}
use native.Mathlib.Decide.{ℕ_discrete}
use native.Mathlib.Omega.{arith}
use Rattle.field.specs.Field.{times, inverse_of, alpha_to, length_of}
use Rattle.field.specs.Laws.{Laws}
use Rattle.field.proofs.FieldLaws.{laws}
use Rattle.field.proofs.RingLaws.{inverse_only, times_zero}
use Rattle.codes.specs.Code.{dimension_of, parity_of, generator_of}
use Rattle.codes.specs.Codeword.{bit_of, value_at, Codeword}
use Rattle.codes.specs.Lagrange.{others, quotients, cell}
use Rattle.codes.specs.Generator.{multiple, systematic}
use Rattle.codes.specs.Claims.{GeneratorsAreRight, OneWordForEachMessage, CodewordsAreApart, PlacesFixAWord, CellsAreThePapers}
use Rattle.codes.specs.Claims.{CellsAreShort, FaultyPowersAreOdd}
use Rattle.codes.proofs.WordLaws.{bit_lt}
use Rattle.codes.proofs.RootLaws.{one_lt}
use Rattle.codes.proofs.Conjugates.{at_double}
use Rattle.codes.proofs.LagrangeLaws.{roots→lagrange, lagrange→roots}
use Rattle.codes.proofs.ShortForm.{cell_is_short}
use Rattle.codes.proofs.ShapeLaws.{parity_full}
use Rattle.codes.proofs.GeneratorRight.{good, exactly}
use Rattle.codes.proofs.SystematicWord.{systematic_high, systematic_codeword, codeword_high}
use Rattle.codes.proofs.CodewordsApart.{codewords_apart}

pub generators_are_right : GeneratorsAreRight
generators_are_right m t k w =
    let e : length_of m - parity_of m t ≡ dimension_of m t = omega (arith, parity_full m t k) in
    let h = exactly m 1 (2 * t) (parity_of m t) (generator_of m t) (laws m k.m_low k.m_high) (good m t k) w in
    subst (λ (d : ℕ). Codeword m t w ↔ ((q : ℕ) × (q < 2 ^ d) × (w ≡ multiple d q (generator_of m t)))) e
    (λ c. h.0 (c.bits, c.roots), λ q. let c = h.1 q in record { bits = c.0; roots = c.1 })

pub one_word_for_each_message : OneWordForEachMessage
one_word_for_each_message m t M k h = (
  systematic_codeword m t M k h,
  systematic_high m t M k h,
  λ w c e. codeword_high m t k w (systematic m t M) c (systematic_codeword m t M k h) (e ∙ sym (systematic_high m t M k h)),
)

pub codewords_are_apart : CodewordsAreApart
codewords_are_apart m t k w v hw hv n = omega (arith, codewords_apart m (laws m k.m_low k.m_high) 1 (2 * t) w v hw hv n)

pub places_fix_a_word : PlacesFixAWord
places_fix_a_word m b r l h first fit R all c word = (
  roots→lagrange m (laws m l h) b (1 - b) (omega arith) R (length_of m - r) r c all (omega arith) word,
  lagrange→roots m (laws m l h) b (1 - b) (omega arith) R (length_of m - r) r c all (omega arith) word,
)

-- 1 is its own inverse
inverse_of_one : (m : ℕ) (F : Laws m) → inverse_of m 1 ≡ 1
inverse_of_one m F = sym (inverse_only m F 1 1 (one_lt m F) (one_lt m F) (λ e. omega arith) (F.one 1 (one_lt m F)))

quotients_lt : (m : ℕ) (F : Laws m) (x y : ℕ) (vs : List ℕ) → quotients m x y vs < 2 ^ m
unfolding quotients
quotients_lt m F x y [] = one_lt m F
quotients_lt m F x y (v ∷ vs) = F.times_lt _ _

pub cells_are_the_papers : CellsAreThePapers
unfolding cell
cells_are_the_papers m l h R k j p =
    let F = laws m l h in
    let z : p * 0 ≡ 0 = omega arith in
    let y : R j * 0 ≡ 0 = omega arith in
    let q = quotients m (alpha_to m p) (alpha_to m (R j)) (others (λ i. alpha_to m (R i)) k j) in
    ap (λ (u : ℕ). times m u q)
    (ap₂ (λ (u v : ℕ). times m (alpha_to m u) (inverse_of m (alpha_to m v))) z y
    ∙ ap₂ (λ (u v : ℕ). times m u (inverse_of m v)) F.pw_zero F.pw_zero ∙ ap (times m 1) (inverse_of_one m F) ∙ F.one 1 (one_lt m F))
    ∙ F.comm 1 q ∙ F.one q (quotients_lt m F (alpha_to m p) (alpha_to m (R j)) (others (λ i. alpha_to m (R i)) k j))

pub cells_are_short : CellsAreShort
cells_are_short m b r l h first fit R all j o hj ho = cell_is_short m (laws m l h) b r first R all fit j o hj ho

pub faulty_powers_are_odd : FaultyPowersAreOdd
faulty_powers_are_odd m l h w r e k = go (ℕ_discrete (e % 2) 0)
  where
    -- an even power is twice a lower one, at which the value is 0
    even : e % 2 ≡ 0 → value_at m (bit_of w) e ≡ 0
    even z =
        let F = laws m l h in
        let first = k.low in
        let twice : e ≡ e / 2 * 2 = omega arith in
        ap (value_at m (bit_of w)) twice ∙ at_double m F (bit_of w) (bit_lt w) (e / 2)
        ∙ ap (λ (u : ℕ). times m u u) (k.lower (e / 2) (omega arith) (omega arith)) ∙ times_zero m F 0

    go : Dec (e % 2 ≡ 0) → e % 2 ≡ 1
    go (yes z) = absurd (k.nonzero (even z))
    go (no z) = omega arith
