-- A size and a sign as a value of eight bits, by way of sixteen.
--   size_held, no_size          the size, as a number of sixteen bits, and where it is none
--   plus_held, minus_held       its sign, in sixteen bits
--   valued_by, valued_none      the value, where it fits eight bits and where the size is none
--   value_fits                  an item's value fits eight bits
-- Assumes nothing.
use mathlib.Core.Path.{◌≡◌, sym, ap, subst, ◌∙◌}
use mathlib.Core.Bool.{Bool, true, false, cond}
use mathlib.Core.List.{List}
use Prim.Native.Nat.{ℕ, zero, suc, ◌≤◌}
use native.Mathlib.Nat.{lt_of_not-le}
use native.Mathlib.Omega.{arith}
use borrow.Author.Tests.{le-leb, lt-leb}
use lib.Dec.{leb, leb→le}
use lib.IntN.{ℤ, pos, neg_ℤ, ◌-ℤ◌, +ℤ_idl}
use mir.Syntax.{w8, w16}
use mir.Val.{SFits, to_z, of_z}
use mir.ValLaws.{to_z-of_z}
use Rattle.std.specs.Prelude.{Option, Some, None, Result, Ok, Err}
use Rattle.std.specs.Result.{OkIff, result_ok}
use Rattle.field.proofs.TestLaws.{and_right}
use Rattle.items.specs.Line.{is_number, number_of}
use Rattle.items.specs.Number.{negative, after_minus}
use Rattle.items.specs.declared.Number.{Number}
use Rattle.items.proofs.DigitLaws.{is_so}
use Rattle.input_lines.specs.WordLine.{is_value, signed, value_of}
use Rattle.input_lines.proofs.NumberLaws.{valued}

pub record Held (n : ℕ) (size : ℤ) : Type 0 where
  pub fits : SFits w16 (pos n)
  pub same : size ≡ pos n

pub size_held : {E : Type 0} (n : ℕ) (size : ℤ) (r : Result ℤ E) → Some size ≡ result_ok r → OkIff r (SFits w16 (pos n)) (pos n)
    → Held n size
size_held n size (Ok x) e h = record { fits = h.0; same = cc }
size_held n size (Err x) e h = cc

pub no_size : {E : Type 0} (n : ℕ) (r : Result ℤ E) → ◌≡◌ {A = Option ℤ} None (result_ok r) → OkIff r (SFits w16 (pos n)) (pos n)
    → SFits w16 (pos n) → ⊥
no_size n (Ok x) e h f = cc
no_size n (Err x) e h f = h f

module _ (n : ℕ) (size : ℤ) (h : Held n size) where
  pub plus_held : to_z w16 (of_z w16 size) ≡ pos n
  plus_held = rw h.same (to_z-of_z w16 (pos n) h.fits)

  pub minus_held : to_z w16 (of_z w16 (pos 0 -ℤ to_z w16 (of_z w16 size))) ≡ neg_ℤ (pos n)
  minus_held = rw (plus_held, +ℤ_idl (neg_ℤ (pos n))) (to_z-of_z w16 (neg_ℤ (pos n)) (fits n h.fits))
    where
      fits : (n : ℕ) → SFits w16 (pos n) → SFits w16 (neg_ℤ (pos n))
      fits zero f = f
      fits (suc n) f = record { sfits = omega (arith, f.sfits) }

-- a size with a sign is a value exactly where it fits eight bits
within_fits : (minus : Bool) (n : ℕ) → n ≤ cond minus 128 127 → SFits w8 (signed minus n)
within_fits true zero h = record { sfits = omega arith }
within_fits true (suc n) h = record { sfits = omega arith }
within_fits false n h = record { sfits = omega arith }

fits_within : (minus : Bool) (n : ℕ) → SFits w8 (signed minus n) → n ≤ cond minus 128 127
fits_within true zero h = omega arith
fits_within true (suc n) h = omega (arith, h.sfits)
fits_within false n h = omega (arith, h.sfits)

pub valued_by : {E : Type 0} (n : Number) (z : ℤ) (r : Result ℤ E) → z ≡ signed n.minus n.size → OkIff r (SFits w8 z) z
    → result_ok r ≡ valued (Some n)
valued_by n z (Ok x) e h =
    rw (le-leb n.size (cond n.minus 128 127) (fits_within n.minus n.size (subst (SFits w8) e h.0))) (ap Some (h.1 ∙ e))
valued_by n z (Err x) e h =
    rw (lt-leb n.size (cond n.minus 128 127) (lt_of_not-le (λ l. h (subst (SFits w8) (sym e) (within_fits n.minus n.size l)))))

-- and none where it does not fit sixteen
pub valued_none : (n : Number) → (SFits w16 (pos n.size) → ⊥) → valued (Some n) ≡ None
valued_none n f = go n.minus
  where
    go : (minus : Bool) → cond (leb n.size (cond minus 128 127)) (Some (signed minus n.size)) None ≡ None
    go true = rw (lt-leb n.size 128 (lt_of_not-le (λ l. f (record { sfits = omega arith }))))
    go false = rw (lt-leb n.size 127 (lt_of_not-le (λ l. f (record { sfits = omega arith }))))

pub value_fits : (item : List ℕ) → is_value item ≡ true → SFits w8 (value_of item)
unfolding is_value value_of
value_fits item e =
    within_fits (negative item) (number_of (after_minus item))
    (leb→le (number_of (after_minus item)) (cond (negative item) 128 127)
    (and_right (is_number (after_minus item)) (leb (number_of (after_minus item)) (cond (negative item) 128 127)) (is_so e)))
