-- Stretches of a block with no newline: sixteen bytes at a time are passed over, and then the first newline is looked for. Assumes nothing.
use Rattle.std.proofs.Common.{◌≡◌, refl, sym, ◌∙◌, ap, Bool, true, false, true≢false, ◌==◌, ◌||◌, Option, None, Some, unwrap_or, arith}
use Rattle.std.proofs.Common.{ℕ, zero, suc, ◌+◌, ◌-◌, ◌*◌, ◌/◌, ◌<◌, ◌≤◌}
use Rattle.std.proofs.Common.{List, [], ◌∷◌, length, get_or, take, drop, length-take, length-drop}
use mathlib.Core.Logic.{by_cases}
use native.Mathlib.Decide.{dec_lt}
use Rattle.std.specs.List.{fold, position}
use Rattle.std.specs.Simd.{first_chunks}
use Rattle.std.proofs.lemmas.Grind.{common_steps}
use Rattle.std.proofs.lemmas.List.{get_or-drop, get_or-take, drop-drop}
use Rattle.std.proofs.lemmas.List.Quantifiers.{position-Some}
use Rattle.std.proofs.lemmas.List.Sums.{fails_before_first}
use Rattle.output_lines.specs.Text.{newline}
use Rattle.stream.specs.Inner.Found.{Clear, Found, newline_among}

-- before the place that `position` gives, or the end where it gives none, no element passes
module _ {X : Type 0} (p : X → Bool) (xs : List X) where
  fails_before : (r : Option ℕ) → r ≡ position p xs → (k : ℕ) (d : X) → k < unwrap_or r (length xs) → p (get_or xs k d) ≡ false
  fails_before (Some i) e k d h = (position-Some p xs i d (sym e)).2 k h
  fails_before None e k d h = fails_before_first p xs k d (grind (arith, common_steps))

  within_length : (r : Option ℕ) → r ≡ position p xs → X → unwrap_or r (length xs) ≤ length xs
  within_length (Some i) e d = omega (arith, (position-Some p xs i d (sym e)).0)
  within_length None e d = omega arith

-- where the fold is false, no byte is a newline
none_among : (near : Bool) (bytes : List ℕ) → fold (λ near b. near || b == newline) near bytes ≡ false
    → (near ≡ false) × ((k : ℕ) → k < length bytes → get_or bytes k 0 ≡ newline → ⊥)
none_among near [] e = (e, λ k h q. absurd (omega arith))
none_among true (b ∷ bytes) e = absurd (true≢false (none_among true bytes e).0)
none_among false (b ∷ bytes) e =
    let later = none_among (b == newline) bytes e in
    (refl, λ k h q. grind (arith, common_steps, later.0, later.1 (k - 1)))

-- the sixteen bytes at an index
chunk_at : (n k : ℕ) (bytes : List ℕ) → k < n → get_or (first_chunks 16 n bytes) k [] ≡ take 16 (drop (16 * k) bytes)
chunk_at zero k bytes h = absurd (omega arith)
chunk_at (suc n) zero bytes h = refl
chunk_at (suc n) (suc k) bytes h =
    let e : 16 + 16 * k ≡ 16 * suc k = omega arith in
    chunk_at n k (drop 16 bytes) (omega arith) ∙ ap (take 16) (drop-drop (16 * k) 16 bytes ∙ ap (λ (i : ℕ). drop i bytes) e)

-- what is behind a place, as the code lends it
abbrev behind : ℕ → List ℕ → List ℕ
behind from block = take (length block - from) (drop from block)

length_behind : (from : ℕ) (block : List ℕ) → length (behind from block) ≡ length block - from
length_behind from block = omega (arith, length-take (length block - from) (drop from block), length-drop from block)

-- a byte of what is lent
part_at : (size from : ℕ) (block : List ℕ) (k : ℕ) → from ≤ k → k < from + size
    → get_or (take size (drop from block)) (k - from) 0 ≡ get_or block k 0
part_at size from block k l h = grind (arith, get_or-take, get_or-drop)

-- no byte of the sixteens before the first with a newline is one
module _ (bytes : List ℕ) (sixteens : List (List ℕ)) (s : sixteens ≡ first_chunks 16 (length bytes / 16) bytes)
    (l : length sixteens ≡ length bytes / 16) (near : Option ℕ) (e : near ≡ position newline_among sixteens) (n : ℕ)
    (u : n ≡ unwrap_or near (length sixteens)) where
  passed_within : 16 * n ≤ length bytes
  passed_within = omega (arith, u, l, within_length newline_among sixteens near e [])

  clear_passed : Clear bytes 0 (16 * n)
  clear_passed k _ h there =
      let q : ℕ = k / 16 in
      let at : q < length bytes / 16 = omega (arith, passed_within) in
      let chunk : get_or sixteens q [] ≡ take 16 (drop (16 * q) bytes) =
      ap (λ (c : List (List ℕ)). get_or c q []) s ∙ chunk_at (length bytes / 16) q bytes at
      in
      let fails : newline_among (take 16 (drop (16 * q) bytes)) ≡ false =
      ap newline_among (sym chunk) ∙ fails_before newline_among sixteens near e q [] (omega (arith, u))
      in
      let within : k - 16 * q < length (take 16 (drop (16 * q) bytes)) =
      omega (arith, length-take 16 (drop (16 * q) bytes), length-drop (16 * q) bytes, passed_within)
      in
      (none_among false (take 16 (drop (16 * q) bytes)) fails).1 (k - 16 * q) within
      (part_at 16 (16 * q) bytes k (omega arith) (omega arith) ∙ there)

-- behind the sixteens that are passed over, the first in what is left is the first
module _ (block : List ℕ) (from : ℕ) (start : from ≤ length block) (sixteens : List (List ℕ))
    (s : sixteens ≡ first_chunks 16 (length (behind from block) / 16) (behind from block))
    (l : length sixteens ≡ length (behind from block) / 16) (near : Option ℕ) (e : near ≡ position newline_among sixteens) (n : ℕ)
    (u : n ≡ unwrap_or near (length sixteens)) (r : Option ℕ)
    (f : r ≡ position (λ b. b == newline) (behind (from + 16 * n) block)) where
  passed : from + 16 * n ≤ length block
  passed = omega (arith, passed_within (behind from block) sixteens s l near e n u, length_behind from block)

  -- none before the first, or before the end where there is none
  clear_up_to : (end : ℕ) → end ≡ from + 16 * n + unwrap_or r (length (behind (from + 16 * n) block)) → Clear block from end
  clear_up_to end v k lower upper there =
      let left = length_behind (from + 16 * n) block in
      let within : k < length block =
      omega (arith, passed, left, within_length (λ b. b == newline) (behind (from + 16 * n) block) r f 0)
      in
      by_cases (dec_lt k (from + 16 * n))
      (λ a.
      clear_passed (behind from block) sixteens s l near e n u (k - from) (omega arith) (omega arith)
      (part_at (length block - from) from block k lower (omega arith) ∙ there))
      (λ a.
      let fails = fails_before (λ b. b == newline) (behind (from + 16 * n) block) r f (k - (from + 16 * n)) 0 (omega arith) in
      let at = part_at (length block - (from + 16 * n)) (from + 16 * n) block k (omega arith) (omega arith) in
      grind (arith, common_steps))

  pub found_none : r ≡ None → Found block from (length block)
  found_none q =
      record {
        after = start;
        within = omega arith;
        none = clear_up_to (length block) (rw q (omega (arith, passed, length_behind (from + 16 * n) block)));
        here = λ h. absurd (omega arith);
      }

  pub found_some : (i : ℕ) → r ≡ Some i → Found block from (from + 16 * n + i) × (from + 16 * n + i < length block)
  found_some i q =
      let at = position-Some (λ b. b == newline) (behind (from + 16 * n) block) i 0 (sym f ∙ q) in
      let within : from + 16 * n + i < length block = omega (arith, at.0, length_behind (from + 16 * n) block) in
      let at_some = part_at (length block - (from + 16 * n)) (from + 16 * n) block (from + 16 * n + i) (omega arith) (omega arith) in (
        record {
          after = omega arith;
          within = omega arith;
          none = clear_up_to (from + 16 * n + i) (rw q refl);
          here = λ h. grind (arith, common_steps, at.1, at_some);
        },
        within,
      )
