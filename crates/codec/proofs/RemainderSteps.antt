-- The remainder as a loop takes it, a place at a time from the top: of what is left and its sum with the generator, the smaller.
--   smaller_there, smaller_not   the sum with a word whose top place is n is smaller where a coefficient is there, else it is not
--   Dividing                     what holds at each turn: nothing is left from the place d + i up, and the remainder is the same
--   dividing                     it holds at the start
--   divided_on                   and after a turn more, whether the generator is taken off or not
--   divided                      at the end what is left is the remainder
-- Assumes nothing.
use mathlib.Core.Path.{◌≡◌, refl, sym, ap, subst, ◌∙◌}
use mathlib.Core.Logic.{◌⊎◌, inl, inr, ⊎_elim}
use Prim.Native.Nat.{ℕ, zero, suc, min, ◌+◌, ◌*◌, ◌/◌, ◌%◌, ◌^◌, ◌<◌, ◌≤◌}
use native.Mathlib.Nat.{pow-suc, mul_assoc, mul-div_cancel, mul-div-mul_right}
use native.Mathlib.Nat.{div-lt_iff_lt-mul, le-div_iff_mul-le, min-eq_left, min-eq_right}
use native.Mathlib.Omega.{arith}
use Rattle.std.proofs.lemmas.Bool.{cases_lt}
use lib.Bits as B
use lib.Pow.{pow-add, pow_pos, shl_exact}
use Rattle.field.specs.Field.{◌⊕◌, bit_times}
use Rattle.field.proofs.XorLaws.{xor_zero}
use Rattle.codes.specs.Generator.{remainder_by}
use Rattle.codes.proofs.WordLaws.{bit_shift, below_div, top_lt}

one_up : (x n : ℕ) → x / 2 ^ n ≡ 1 → 2 ^ n ≤ x
one_up x n e = let h : 1 * 2 ^ n ≤ x = (le-div_iff_mul-le (pow_pos n)).0 (omega arith) in omega arith

two_digits : (x : ℕ) → x < 2 → (x ≡ 0) ⊎ (x ≡ 1)
two_digits zero l = inl refl
two_digits (suc zero) l = inr refl
two_digits (suc (suc x)) l = absurd (omega arith)

module _ (n a b : ℕ) (small : a < 2 * 2 ^ n) (one : b / 2 ^ n ≡ 1) where
  digit : (a / 2 ^ n ≡ 0) ⊎ (a / 2 ^ n ≡ 1)
  digit = two_digits (a / 2 ^ n) ((div-lt_iff_lt-mul (pow_pos n)).1 small)

  sum_digit : (x : ℕ) → a / 2 ^ n ≡ x → (a ⊕ b) / 2 ^ n ≡ x ⊕ 1
  unfolding ◌⊕◌
  sum_digit x e = B.xor_shr a b n ∙ ap (λ (y : ℕ). B.bit_xor y (b / 2 ^ n)) e ∙ ap (B.bit_xor x) one

  -- without a coefficient the sum has it, and with one it has not
  sum_larger : a / 2 ^ n ≡ 0 → a < a ⊕ b
  unfolding ◌⊕◌
  sum_larger e = omega (arith, below_div a n e, one_up (a ⊕ b) n (sum_digit 0 e))

  sum_lower : a / 2 ^ n ≡ 1 → a ⊕ b < 2 ^ n
  unfolding ◌⊕◌
  sum_lower e = below_div (a ⊕ b) n (sum_digit 1 e)

  smaller_there : a ⊕ b < a → (a / 2 ^ n ≡ 1) × (a ⊕ b < 2 ^ n)
  smaller_there h = ⊎_elim (λ e. absurd (omega (arith, sum_larger e))) (λ e. (e, sum_lower e)) digit

  smaller_not : a ≤ a ⊕ b → (a / 2 ^ n ≡ 0) × (a < 2 ^ n)
  smaller_not h = ⊎_elim (λ e. (e, below_div a n e)) (λ e. absurd (omega (arith, sum_lower e, one_up a n e))) digit

module _ (d g : ℕ) where
  remainder_turn : (j c x : ℕ) → c / 2 ^ (d + j) ≡ x → x < 2 → remainder_by d g (suc j) c ≡ remainder_by d g j (c ⊕ bit_times x (g * 2 ^ j))
  unfolding remainder_by
  remainder_turn j c x e l =
      let f : c / 2 ^ (d + j) % 2 ≡ x = omega arith in
      ap (λ (b : ℕ). remainder_by d g j (c ⊕ bit_times b (g * 2 ^ j))) (bit_shift c (d + j) ∙ f)

  remainder_there : (j c : ℕ) → c / 2 ^ (d + j) ≡ 1 → remainder_by d g (suc j) c ≡ remainder_by d g j (c ⊕ g * 2 ^ j)
  unfolding bit_times
  remainder_there j c e = remainder_turn j c 1 e (omega arith)

  remainder_not : (j c : ℕ) → c / 2 ^ (d + j) ≡ 0 → remainder_by d g (suc j) c ≡ remainder_by d g j c
  unfolding bit_times
  remainder_not j c e = remainder_turn j c 0 e (omega arith) ∙ ap (remainder_by d g j) (xor_zero c)

  module _ (k c : ℕ) where
    pub record Dividing (i left moved : ℕ) : Type 0 where
      pub at : i ≤ k
      pub small : left < 2 ^ (d + i)
      pub generator : moved ≡ g * 2 ^ i
      pub same : remainder_by d g i left ≡ remainder_by d g k c

    module _ (one : g / 2 ^ d ≡ 1) where
      pub dividing : d + k ≤ 63 → c < 2 ^ (d + k) → Dividing k c (g * 2 ^ k % 2 ^ 64)
      dividing room low = record {
        at = omega arith;
        small = low;
        generator = shl_exact {a = g} (suc d) k 64 (top_lt g d one) (omega arith);
        same = refl;
      }

      module _ (j left moved : ℕ) (before : Dividing (suc j) left moved) where
        moved_down : moved / 2 ≡ g * 2 ^ j
        moved_down =
            ap (λ (x : ℕ). x / 2) (before.generator ∙ ap (λ (x : ℕ). g * x) (pow-suc 2 j) ∙ sym (mul_assoc g (2 ^ j) 2))
            ∙ mul-div_cancel (g * 2 ^ j) (omega arith)

        -- the generator's highest coefficient is at the place d + j
        moved_one : moved / 2 / 2 ^ (d + j) ≡ 1
        moved_one =
            ap (λ (x : ℕ). x / 2 ^ (d + j)) moved_down ∙ ap (λ (x : ℕ). g * 2 ^ j / x) (pow-add 2 d j)
            ∙ mul-div-mul_right g (2 ^ d) (pow_pos j) ∙ one

        left_small : left < 2 * 2 ^ (d + j)
        left_small =
            let e : d + suc j ≡ suc (d + j) = omega arith in
            omega (arith, before.small, ap (λ (x : ℕ). 2 ^ x) e, pow-suc 2 (d + j))

        turned : (x : ℕ) → x < 2 ^ (d + j) → remainder_by d g (suc j) left ≡ remainder_by d g j x → Dividing j x (moved / 2)
        turned x small e =
            record { at = omega (arith, before.at); small = small; generator = moved_down; same = sym e ∙ before.same }

        taken_off : left ⊕ moved / 2 < left → Dividing j (left ⊕ moved / 2) (moved / 2)
        taken_off h =
            let t = smaller_there (d + j) left (moved / 2) left_small moved_one h in
            turned (left ⊕ moved / 2) t.1
            (remainder_there j left t.0 ∙ ap (λ (x : ℕ). remainder_by d g j (left ⊕ x)) (sym moved_down))

        let_be : left ≤ left ⊕ moved / 2 → Dividing j left (moved / 2)
        let_be h =
            let t = smaller_not (d + j) left (moved / 2) left_small moved_one h in
            turned left t.1 (remainder_not j left t.0)

        pub divided_on : Dividing j (min left (left ⊕ moved / 2)) (moved / 2)
        divided_on =
            ⊎_elim (λ h. subst (λ (x : ℕ). Dividing j x (moved / 2)) (sym (min-eq_right (omega arith))) (taken_off h))
            (λ h. subst (λ (x : ℕ). Dividing j x (moved / 2)) (sym (min-eq_left h)) (let_be h)) (cases_lt (left ⊕ moved / 2) left)

    pub divided : (left moved : ℕ) → Dividing 0 left moved → left ≡ remainder_by d g k c
    unfolding remainder_by
    divided left moved end = end.same
