-- The fields for m = 4, 5, 6 are lawful: what depends on m is six computed tests. Assumes nothing.
use mathlib.Core.Path.{◌≡◌, refl, sym, ap, ◌∙◌, subst}
use mathlib.Core.Logic.{◌≢◌}
use mathlib.Core.Bool.{true, false}
use Prim.Native.Nat.{ℕ, zero, suc, ◌+◌, ◌-◌, ◌*◌, ◌/◌, ◌%◌, ◌^◌, ◌<◌, ◌≤◌}
use native.Mathlib.Nat.{mod-lt, mod-eq_of_lt, suc-add, zero-add}
use native.Mathlib.Omega.{arith}
use lib.Pow.{pow_pos}
use lib.Dec.{T, eqb, eqb→eq, ltb, ltb→lt}
use Rattle.field.specs.Below.{all, last_of}
use Rattle.field.specs.Field.{◌⊕◌, bit_times, times_alpha, shift_add, times, alpha_to, reduction, modulus, inverse_of, length_of}
use Rattle.field.specs.Laws.{Laws, FieldsAreLawful}
use Rattle.field.proofs.TestLaws.{agree, last_none, last_lt}
use Rattle.field.proofs.XorLaws.{xor_zero, xor_self, xor_lt, xor_mod}
use Rattle.field.proofs.ProductLaws.{bit_times_lt, shift_xor, shift_alpha, shift_shift, shift_low}

-- short names, in this section
module _ (m : ℕ) where
  abbrev up : ℕ → ℕ
  up = times_alpha m

  abbrev scan : ℕ → ℕ → ℕ → ℕ
  scan = shift_add m

  abbrev mul : ℕ → ℕ → ℕ
  mul = times m

  abbrev pow : ℕ → ℕ
  pow = alpha_to m

  -- the place of x among the powers, from the i-th on, which is v
  unfoldable seek : ℕ → ℕ → ℕ → ℕ → ℕ
  seek zero i v x = 0
  seek (suc k) i v x = elim (eqb v x) [ true ↦ i | false ↦ seek k (suc i) (up v) x ]

  -- what is computed for each field
  record Tests : Type 0 where
    fits : T (ltb (reduction m) (2 ^ m))
    large : T (ltb 1 (2 ^ m))
    unit : T (all (2 ^ m) (λ x. eqb (scan m x 1) x))
    inverse : T (all (2 ^ m - 1) (λ x. eqb (mul (suc x) (inverse_of m (suc x))) 1))
    logs : T (all (2 ^ m - 1) (λ i. eqb (seek (2 ^ m) 0 1 (pow i)) i))
    round : T (eqb (pow (2 ^ m - 1)) 1)

  module _ (t : Tests) where
    one_lt : 1 < 2 ^ m
    one_lt = ltb→lt 1 (2 ^ m) t.large

    step_lt : (y : ℕ) → up y < 2 ^ m
    unfolding times_alpha
    step_lt y =
        xor_lt m (y * 2 % 2 ^ m) (bit_times (y / 2 ^ (m - 1) % 2) (reduction m)) (mod-lt (y * 2) (pow_pos m))
        (bit_times_lt m (y / 2 ^ (m - 1) % 2) (reduction m) (ltb→lt (reduction m) (2 ^ m) t.fits))

    shift_lt : (k x y : ℕ) → y < 2 ^ m → scan k x y < 2 ^ m
    unfolding shift_add
    shift_lt zero x y h = pow_pos m
    shift_lt (suc k) x y h =
        xor_lt m (bit_times (x % 2) y) (scan k (x / 2) (up y)) (bit_times_lt m (x % 2) y h) (shift_lt k (x / 2) (up y) (step_lt y))

    mul_lt : (x y : ℕ) → mul x y < 2 ^ m
    unfolding times
    mul_lt x y = shift_lt m x (y % 2 ^ m) (mod-lt y (pow_pos m))

    shift_one : (x : ℕ) → scan m x 1 ≡ x % 2 ^ m
    shift_one x = sym (shift_low m m x 1) ∙ agree (2 ^ m) (λ x. scan m x 1) (λ x. x) t.unit (x % 2 ^ m) (mod-lt x (pow_pos m))

    mul_comm : (x y : ℕ) → mul x y ≡ mul y x
    unfolding times
    mul_comm x y = ap (scan m x) (sym (shift_one y)) ∙ shift_shift m m m x y 1 ∙ ap (scan m y) (shift_one x)

    mul_mul : (x y z : ℕ) → mul x (mul y z) ≡ scan m x (scan m y (z % 2 ^ m))
    unfolding times
    mul_mul x y z = ap (scan m x) (mod-eq_of_lt (mul_lt y z))

    mul_left : (x y z : ℕ) → mul x (mul y z) ≡ mul y (mul x z)
    mul_left x y z = mul_mul x y z ∙ shift_shift m m m x y (z % 2 ^ m) ∙ sym (mul_mul y x z)

    mul_assoc : (x y z : ℕ) → mul (mul x y) z ≡ mul x (mul y z)
    mul_assoc x y z = mul_comm (mul x y) z ∙ mul_left z x y ∙ ap (mul x) (mul_comm z y)

    mul_xor : (x y z : ℕ) → mul x (y ⊕ z) ≡ mul x y ⊕ mul x z
    unfolding times
    mul_xor x y z = ap (scan m x) (xor_mod y z m) ∙ shift_xor m m x (y % 2 ^ m) (z % 2 ^ m)

    mul_one : (x : ℕ) → x < 2 ^ m → mul x 1 ≡ x
    unfolding times
    mul_one x h = ap (scan m x) (mod-eq_of_lt one_lt) ∙ shift_one x ∙ mod-eq_of_lt h

    pow-lt : (i : ℕ) → pow i < 2 ^ m
    unfolding alpha_to
    pow-lt zero = one_lt
    pow-lt (suc i) = step_lt (pow i)

    mul_up : (x y : ℕ) → y < 2 ^ m → mul x (up y) ≡ up (mul x y)
    unfolding times
    mul_up x y h = ap (scan m x) (mod-eq_of_lt (step_lt y)) ∙ shift_alpha m m x y ∙ ap (λ (u : ℕ). up (scan m x u)) (sym (mod-eq_of_lt h))

    mul_next : (i y : ℕ) → up (mul (pow i) y) ≡ mul (pow (suc i)) y
    unfolding alpha_to
    mul_next i y = ap up (mul_comm (pow i) y) ∙ sym (mul_up y (pow i) (pow-lt i)) ∙ mul_comm y (up (pow i))

    pow-add : (i j : ℕ) → pow (i + j) ≡ mul (pow i) (pow j)
    unfolding alpha_to
    pow-add zero j = ap pow (zero-add j) ∙ sym (mul_comm 1 (pow j) ∙ mul_one (pow j) (pow-lt j))
    pow-add (suc i) j = ap pow (suc-add i j) ∙ ap up (pow-add i j) ∙ mul_next i (pow j)

    inverted : (x : ℕ) → x < 2 ^ m → x ≢ 0 → mul x (inverse_of m x) ≡ 1
    inverted zero h ne = absurd (ne refl)
    inverted (suc x) h ne = agree (2 ^ m - 1) (λ x. mul (suc x) (inverse_of m (suc x))) (λ x. 1) t.inverse x (omega arith)

    log_pow : (i : ℕ) → i < 2 ^ m - 1 → seek (2 ^ m) 0 1 (pow i) ≡ i
    log_pow = agree (2 ^ m - 1) (λ i. seek (2 ^ m) 0 1 (pow i)) (λ i. i) t.logs

    mul_zero : (x : ℕ) → mul x 0 ≡ 0
    mul_zero x = ap (mul x) (sym (xor_zero 0)) ∙ mul_xor x 0 0 ∙ xor_self (mul x 0)

    inverted_zero : inverse_of m 0 ≡ 0
    unfolding inverse_of
    inverted_zero =
        last_none (2 ^ m) (λ y. eqb (mul 0 y) 1)
        (λ y _ e. let q : ◌≡◌ {A = ℕ} 0 1 = sym (mul_comm 0 y ∙ mul_zero y) ∙ eqb→eq (mul 0 y) 1 e in omega arith)

    inverted_lt : (x : ℕ) → inverse_of m x < 2 ^ m
    unfolding inverse_of
    inverted_lt x = last_lt (2 ^ m) (λ y. eqb (mul x y) 1) (pow_pos m)

    lawful : Laws m
    unfolding alpha_to length_of
    lawful = record {
      comm = mul_comm;
      assoc = mul_assoc;
      over_xor = mul_xor;
      times_lt = mul_lt;
      one = mul_one;
      inverse = inverted;
      inverse_zero = inverted_zero;
      inverse_lt = inverted_lt;
      pw_zero = refl;
      pw_add = pow-add;
      pw_inj = λ i j hi hj e. sym (log_pow i hi) ∙ ap (seek (2 ^ m) 0 1) e ∙ log_pow j hj;
      pw_n = eqb→eq (pow (2 ^ m - 1)) 1 t.round;
      n_pos = omega (arith, one_lt);
    }

-- the tests, computed
tests4 : Tests 4
unfolding modulus reduction last_of inverse_of ◌⊕◌ bit_times times_alpha shift_add times alpha_to seek
tests4 = record { fits = tt; large = tt; unit = tt; inverse = tt; logs = tt; round = tt }

tests5 : Tests 5
unfolding modulus reduction last_of inverse_of ◌⊕◌ bit_times times_alpha shift_add times alpha_to seek
tests5 = record { fits = tt; large = tt; unit = tt; inverse = tt; logs = tt; round = tt }

tests6 : Tests 6
unfolding modulus reduction last_of inverse_of ◌⊕◌ bit_times times_alpha shift_add times alpha_to seek
tests6 = record { fits = tt; large = tt; unit = tt; inverse = tt; logs = tt; round = tt }

tests : (k : ℕ) → k < 3 → Tests (4 + k)
tests zero h = tests4
tests (suc zero) h = tests5
tests (suc (suc zero)) h = tests6
tests (suc (suc (suc k))) h = absurd (omega arith)

pub laws : FieldsAreLawful
laws m l h = subst Laws (omega arith) (lawful (4 + (m - 4)) (tests (m - 4) (omega arith)))

pub alpha_lt : (m y : ℕ) → 4 ≤ m → m ≤ 6 → times_alpha m y < 2 ^ m
alpha_lt m y l h = subst (λ (x : ℕ). times_alpha x y < 2 ^ x) (omega arith) (step_lt (4 + (m - 4)) (tests (m - 4) (omega arith)) y)

pub power_next : (m i y : ℕ) → 4 ≤ m → m ≤ 6 → times_alpha m (times m (alpha_to m i) y) ≡ times m (alpha_to m (suc i)) y
power_next m i y l h =
    subst (λ (k : ℕ). times_alpha k (times k (alpha_to k i) y) ≡ times k (alpha_to k (suc i)) y) (omega arith)
    (mul_next (4 + (m - 4)) (tests (m - 4) (omega arith)) i y)
