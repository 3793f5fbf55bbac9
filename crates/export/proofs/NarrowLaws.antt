-- A number that does not fit 16 bits is refused as the largest one that fits is, so an answer for the narrowed numbers is the
-- answer for the numbers themselves.
--   by_size         a fact of a number and of what it is narrowed to, from its two cases
--   narrow_same     a number that some check lets pass is not changed
--   checks_alike    the checks of any call give the same number
--   encode_narrow, read_narrow, decode_narrow   each call gives the same answer
-- Assumes nothing.
use mathlib.Core.Path.{◌≡◌, refl, sym, ap, subst, ◌∙◌}
use mathlib.Core.Bool.{Bool, true, false, cond}
use mathlib.Core.List.{List, [], ◌∷◌}
use Prim.Native.Nat.{ℕ, ◌<◌, ◌≤◌}
use native.Mathlib.Nat.{lt_of_not-le}
use native.Mathlib.Omega.{arith}
use lib.Dec.{T, leb, leb→le, le→leb}
use lib.IntN.{ℤ}
use lib.ListN.{length}
use Rattle.field.proofs.TestLaws.{dec_t}
use Rattle.codes.specs.Code.{Known, dimension_of}
use Rattle.codes.proofs.ShapeLaws.{dimension_small}
use Rattle.frame.specs.Refusal.{Check, first_met, unknown_code, too_short, high_order, wrong_count, small_buffer, large_message}
use Rattle.frame.specs.Refusal.{encode_refusal, read_refusal, decode_refusal}
use Rattle.frame.proofs.RefusalLaws.{known_by, encode_passed, read_passed, decode_passed}
use Rattle.frame.proofs.RefusalSteps.{at_1, at_2, at_3}
use Rattle.codec.specs.Encode.{EncodeAnswers}
use Rattle.codec.specs.Read.{ReadAnswers}
use Rattle.codec.specs.GivenBack.{says}
use Rattle.codec.specs.declared.Reading.{Reading}
use Rattle.decode.specs.Decode.{DecodeAnswers}
use Rattle.decode.specs.Call.{refusing}
use Rattle.decode.specs.declared.Decoding.{Decoding}
use Rattle.export.specs.Inner.Narrow.{Narrows}

by_size : (P : ℕ → ℕ → Type 0) {x r : ℕ} → Narrows x r → P x x → (65535 ≤ x → 65535 ≤ r → P x r) → P x r
by_size P {x} {r} n small large = go (dec_t (leb x 65535))
  where
    go : Dec (T (leb x 65535)) → P x r
    go (yes h) = subst (P x) (sym (n.same (leb→le x 65535 h))) small
    go (no h) =
        let l : 65535 < x = lt_of_not-le (λ k. h (le→leb x 65535 k)) in
        large (omega arith) (omega (arith, n.large l))

narrow_same : {x r : ℕ} → Narrows x r → r < 65535 → r ≡ x
narrow_same n = by_size (λ x r. r < 65535 → r ≡ x) n (λ l. refl) (λ a b l. omega arith)

-- what the rows after the first come to counts for a known code alone
known_then : (b : Bool) {x y : ℕ} → (◌≡◌ {A = ℕ} (cond b 1 0) 0 → x ≡ y) → cond b 1 x ≡ cond b 1 y
known_then true h = refl
known_then false h = h refl

-- the rows with which every call begins, and then its others
abbrev checks : (ℕ → ℕ → ℕ → List Check) → ℕ → ℕ → ℕ → ℕ
checks others m t s = first_met (unknown_code m t ∷ too_short m t s ∷ others m t s)

module _ {m t s m₁ t₁ s₁ : ℕ} (on-m : Narrows m m₁) (on-t : Narrows t t₁) (on-s : Narrows s s₁) where
  checks_alike : (others : ℕ → ℕ → ℕ → List Check) → checks others m₁ t₁ s₁ ≡ checks others m t s
  checks_alike others =
      by_size (λ x r. checks others r t₁ s₁ ≡ checks others x t s) on-m
      (by_size (λ x r. checks others m r s₁ ≡ checks others m x s) on-t
      (by_size (λ x r. checks others m t r ≡ checks others m t x) on-s refl (λ a b. short a b))
      (λ a b. at_1 m t₁ _ (λ k. omega (arith, k.t_high)) ∙ sym (at_1 m t _ (λ k. omega (arith, k.t_high)))))
      (λ a b. at_1 m₁ t₁ _ (λ k. omega (arith, k.m_high)) ∙ sym (at_1 m t _ (λ k. omega (arith, k.m_high))))
    where
      short : 65535 ≤ s → 65535 ≤ s₁ → checks others m t s₁ ≡ checks others m t s
      short a b =
          known_then (unknown_code m t).0 (λ e.
          let d = dimension_small m t (known_by m t 0 e) in
          at_2 m t s₁ _ (omega arith) ∙ sym (at_2 m t s _ (omega arith)))

  -- what holds of the narrowed numbers of a code holds of the numbers
  code_same : (P : ℕ → ℕ → ℕ → Type 0) → Known m₁ t₁ → s₁ < dimension_of m₁ t₁ → P m₁ t₁ s₁ → P m t s
  code_same P k l p =
      let d = dimension_small m₁ t₁ k in
      subst (λ (x : ℕ). P x t s) (narrow_same on-m (omega arith))
      (subst (λ (x : ℕ). P m₁ x s) (narrow_same on-t (omega arith))
      (subst (P m₁ t₁) (narrow_same on-s (omega arith)) p))

  module _ (message : ℕ) (before : List ℕ) where
    encode_alike : encode_refusal m₁ t₁ s₁ message (length before) ≡ encode_refusal m t s message (length before)
    unfolding encode_refusal
    encode_alike = checks_alike (λ x y z. large_message x y z message ∷ small_buffer x (length before) ∷ [])

    pub encode_narrow : {answer : ℕ} {after : List ℕ} → EncodeAnswers m₁ t₁ s₁ message before answer after
        → EncodeAnswers m t s message before answer after
    encode_narrow (EncodeAnswers.refused n e k) = EncodeAnswers.refused (λ z. n (encode_alike ∙ z)) (e ∙ encode_alike) k
    encode_narrow {answer} {after} (EncodeAnswers.encoded z e w) =
        let p = encode_passed m₁ t₁ s₁ message (length before) z in
        code_same (λ x y u. EncodeAnswers x y u message before answer after) p.known p.short (EncodeAnswers.encoded z e w)

  module _ (bytes : List ℕ) where
    read_alike : read_refusal m₁ t₁ s₁ (length bytes) ≡ read_refusal m t s (length bytes)
    unfolding read_refusal
    read_alike = checks_alike (λ x y z. small_buffer x (length bytes) ∷ [])

    read_taken : {answer : Reading} → read_refusal m₁ t₁ s₁ (length bytes) ≡ 0 → ReadAnswers m₁ t₁ s₁ bytes answer
        → ReadAnswers m t s bytes answer
    read_taken {answer} z a =
        let p = read_passed m₁ t₁ s₁ (length bytes) z in
        code_same (λ x y u. ReadAnswers x y u bytes answer) p.known p.short a

    pub read_narrow : {answer : Reading} → ReadAnswers m₁ t₁ s₁ bytes answer → ReadAnswers m t s bytes answer
    read_narrow (ReadAnswers.refused n e) = ReadAnswers.refused (λ z. n (read_alike ∙ z)) (e ∙ ap (λ (N : ℕ). says N 0) read_alike)
    read_narrow (ReadAnswers.padded z f e) = read_taken z (ReadAnswers.padded z f e)
    read_narrow (ReadAnswers.unsent z p f e) = read_taken z (ReadAnswers.unsent z p f e)
    read_narrow (ReadAnswers.missing_root z p f e) = read_taken z (ReadAnswers.missing_root z p f e)
    read_narrow (ReadAnswers.taken z f e) = read_taken z (ReadAnswers.taken z f e)

  module _ {order order₁ : ℕ} (on-order : Narrows order order₁) (soft : List ℤ) (before : List ℕ) where
    decode_alike : decode_refusal m₁ t₁ s₁ order₁ (length soft) (length before) ≡ decode_refusal m t s order (length soft) (length before)
    unfolding decode_refusal
    decode_alike =
        checks_alike (λ x y z. high_order order₁ ∷ wrong_count x z (length soft) ∷ small_buffer x (length before) ∷ [])
        ∙ by_size (λ x r. decode_refusal m t s r (length soft) (length before) ≡ decode_refusal m t s x (length soft) (length before))
        on-order refl
        (λ a b. ap (λ (x : ℕ). cond (unknown_code m t).0 1 (cond (too_short m t s).0 2 x))
        (at_3 order₁ _ (omega arith) ∙ sym (at_3 order _ (omega arith))))

    decode_taken : {answer : Decoding} {after : List ℕ} → decode_refusal m₁ t₁ s₁ order₁ (length soft) (length before) ≡ 0
        → DecodeAnswers m₁ t₁ s₁ order₁ soft before answer after → DecodeAnswers m t s order soft before answer after
    decode_taken {answer} {after} z a =
        let p = decode_passed m₁ t₁ s₁ order₁ (length soft) (length before) z in
        let l = p.low in
        subst (λ (o : ℕ). DecodeAnswers m t s o soft before answer after) (narrow_same on-order (omega arith))
        (code_same (λ x y u. DecodeAnswers x y u order₁ soft before answer after) p.known p.short a)

    pub decode_narrow : {answer : Decoding} {after : List ℕ} → DecodeAnswers m₁ t₁ s₁ order₁ soft before answer after
        → DecodeAnswers m t s order soft before answer after
    decode_narrow (DecodeAnswers.refused n r) =
        DecodeAnswers.refused (λ z. n (decode_alike ∙ z)) (record { says = r.says ∙ ap refusing decode_alike; keeps = r.keeps })
    decode_narrow (DecodeAnswers.nothing z f r) = decode_taken z (DecodeAnswers.nothing z f r)
    decode_narrow (DecodeAnswers.decoded z d) = decode_taken z (DecodeAnswers.decoded z d)
