-- A list of checks in two parts: the second part counts where the first gives 0.
--   passed_on                                `?` passes on the number of the error that it found
--   numbered checks                          no check of the list has the number 0
--   first_given, code_given, header_given    the number of a refusal of the first part is the whole list's
--   first_passed, code_clear, header_clear   the second part's, where the first gives 0
-- Assumes nothing.
use mathlib.Core.Path.{◌≡◌, refl, sym, ap, ◌∙◌}
use mathlib.Core.Bool.{Bool, true, false, cond, ◌&&◌}
use mathlib.Core.List.{List, [], ◌∷◌, ◌++◌}
use Prim.Native.Nat.{ℕ, ◌<◌}
use native.Mathlib.Omega.{arith}
use borrow.Author.Tests.{ne_eqb}
use lib.Dec.{T, ltb, ltb→lt, eqb}
use Rattle.field.proofs.TestLaws.{and_left, and_right}
use Rattle.std.specs.Prelude.{Result, Ok, Err, IsErrAnd}
use Rattle.frame.specs.declared.refusal.Refusal.{Refusal}
use Rattle.frame.specs.declared.refusal.Refusal.TheVariants.{UnknownCode, TooShort, HighOrder, WrongCount, SmallBuffer}
use Rattle.frame.specs.declared.refusal.Refusal.TheVariants.{NoCandidate, LargeMessage, PadBit, UnsentBit, MissingRoot}
use Rattle.frame.specs.Numbers.{number, number_of}
use Rattle.frame.specs.Refusal.{Check, unknown_code, too_short, high_order, first_met, code_refusal, header_refusal}

-- an error that `?` passes on keeps its number
pub passed_on : {T : Type 0} (r : Result T Refusal) (e : Refusal) → IsErrAnd r (λ d. d ≡ e) → number_of r ≡ number e
passed_on (Ok x) e h = absurd h
passed_on (Err d) e h = ap number h

-- no refusal has the number 0
pub number_above : (r : Refusal) → 0 < number r
number_above UnknownCode = omega arith
number_above TooShort = omega arith
number_above HighOrder = omega arith
number_above WrongCount = omega arith
number_above SmallBuffer = omega arith
number_above NoCandidate = omega arith
number_above LargeMessage = omega arith
number_above PadBit = omega arith
number_above UnsentBit = omega arith
number_above MissingRoot = omega arith

abbrev pub numbered : List Check → Bool
numbered [] = true
numbered (c ∷ cs) = ltb 0 c.1 && numbered cs

module _ (ys : List Check) where
  first_append : (xs : List Check) → T (numbered xs) → first_met (xs ++ ys) ≡ cond (eqb (first_met xs) 0) (first_met ys) (first_met xs)
  first_append [] n = refl
  first_append (x ∷ xs) n =
      go x.0 x.1 (and_left (ltb 0 x.1) (numbered xs) n) (first_append xs (and_right (ltb 0 x.1) (numbered xs) n))
    where
      go : (b : Bool) (k : ℕ) → T (ltb 0 k) → first_met (xs ++ ys) ≡ cond (eqb (first_met xs) 0) (first_met ys) (first_met xs)
          → cond b k (first_met (xs ++ ys)) ≡ cond (eqb (cond b k (first_met xs)) 0) (first_met ys) (cond b k (first_met xs))
      go true k l e = let h = ltb→lt 0 k l in simp (ne_eqb k 0 (λ z. omega arith))
      go false k l e = e

  pub first_given : (xs : List Check) → T (numbered xs) → (e : Refusal) → number e ≡ first_met xs → number e ≡ first_met (xs ++ ys)
  first_given xs n e p =
      let h = number_above e in
      let t : eqb (number e) 0 ≡ false = ne_eqb (number e) 0 (λ z. omega arith) in
      sym (first_append xs n ∙ rw (← p, t))

  pub first_passed : (xs : List Check) → T (numbered xs) → {r : ℕ} → first_met xs ≡ 0 → r ≡ first_met ys → r ≡ first_met (xs ++ ys)
  first_passed xs n p e = e ∙ sym (first_append xs n ∙ rw p)

-- a call's checks, whatever follows the two with which every call begins
module _ (m t s : ℕ) (later : List Check) where
  pub code_given : (e : Refusal) → number e ≡ code_refusal m t s → number e ≡ first_met (unknown_code m t ∷ too_short m t s ∷ later)
  unfolding code_refusal
  code_given e p = first_given later (unknown_code m t ∷ too_short m t s ∷ []) tt e p

  pub code_clear : {r : ℕ} → code_refusal m t s ≡ 0 → r ≡ first_met later → r ≡ first_met (unknown_code m t ∷ too_short m t s ∷ later)
  unfolding code_refusal
  code_clear p e = first_passed later (unknown_code m t ∷ too_short m t s ∷ []) tt p e

-- and whatever follows the three that a header decides
module _ (m t s order : ℕ) (later : List Check) where
  pub header_given : (e : Refusal) → number e ≡ header_refusal m t s order
      → number e ≡ first_met (unknown_code m t ∷ too_short m t s ∷ high_order order ∷ later)
  unfolding header_refusal
  header_given e p = first_given later (unknown_code m t ∷ too_short m t s ∷ high_order order ∷ []) tt e p

  pub header_clear : {r : ℕ} → header_refusal m t s order ≡ 0 → r ≡ first_met later
      → r ≡ first_met (unknown_code m t ∷ too_short m t s ∷ high_order order ∷ later)
  unfolding header_refusal
  header_clear p e = first_passed later (unknown_code m t ∷ too_short m t s ∷ high_order order ∷ []) tt p e
