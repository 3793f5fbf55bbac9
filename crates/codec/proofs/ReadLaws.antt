-- What read comes to: `reading_after 0` says what its record permits of a word, and what the code finds in a word is what it says, given
-- what its callees say.
--   reading_taken, reading_pad, reading_unsent, reading_root   what it says, by what the word is
--   found_pad, found_unsent, found_other                       and by what the code finds, in the order in which it looks
--   found_root, found_message                                  and by what is left of the word alone
--   word_answers_lem, read_refuses                             its record permits that
-- Assumes nothing.
use mathlib.Core.Path.{◌≡◌, sym, ap, ◌∙◌, subst}
use mathlib.Core.Logic.{◌≢◌, ⊎_elim}
use mathlib.Core.Bool.{Bool, cond}
use mathlib.Core.List.{List}
use Prim.Native.Nat.{ℕ, suc, ◌+◌, ◌-◌, ◌*◌, ◌/◌, ◌^◌, ◌<◌, ◌≤◌}
use native.Mathlib.Nat.{le_trans, div-eq_of_lt}
use native.Mathlib.Omega.{arith}
use lib.Pow.{pow_mono}
use lib.Dec.{ltb, eqb, ltb→lt, lt→ltb, eqb→eq}
use lib.ListN.{length}
use Rattle.field.specs.Field.{◌⊕◌, length_of}
use Rattle.field.specs.Lowest.{Lowest, lowest_of}
use Rattle.field.proofs.TestLaws.{is_true, is_false, and_left, and_right, and_both, eq→eqb}
use Rattle.field.proofs.XorLaws.{xor_lt, xor_self}
use Rattle.field.proofs.LowestLaws.{lowest_is, lowest_cases}
use Rattle.field.proofs.FieldLaws.{laws}
use Rattle.codes.specs.Code.{Known, dimension_of, parity_of}
use Rattle.codes.specs.Codeword.{bit_of, value_at, Codeword}
use Rattle.codes.specs.Generator.{systematic}
use Rattle.codes.proofs.ShapeLaws.{parity_full}
use Rattle.codes.proofs.GeneratorRight.{at_bits}
use Rattle.codes.proofs.WordLaws.{below_div, high_below}
use Rattle.codes.proofs.LowestOne.{none_from}
use Rattle.codes.proofs.SystematicWord.{systematic_high, systematic_codeword, codeword_high}
use Rattle.words.specs.Packing.{word_in}
use Rattle.words.proofs.PackingLaws.{word_in_lt}
use Rattle.frame.specs.Refusal.{read_refusal}
use Rattle.frame.proofs.RefusalLaws.{ReadPassed, read_passed}
use Rattle.codec.specs.GivenBack.{says, fault_at}
use Rattle.codec.specs.Read.{Readable, UnsentFault, RootFault, ReadAnswers}
use Rattle.codec.specs.Called.{readable, fault_of, reading_after}
use Rattle.codec.proofs.FaultLaws.{fault_pad, fault_unsent, fault_root, power_left, not_below, not_pad, not_unsent, not_root, pad_clear}
use Rattle.codec.proofs.FaultLaws.{Outcome, accepted, pad, unsent, root, outcome}

module _ (m t s w : ℕ) (k : Known m t) (short : s < dimension_of m t) where
  abbrev message : ℕ
  message = w / 2 ^ parity_of m t

  abbrev sent : ℕ
  sent = length_of m - s

  fits : s ≤ length_of m
  fits = omega (arith, parity_full m t k)

  -- what is above the parity of a word without an unsent bit is a message
  pub message_lt : w < 2 ^ sent → message < 2 ^ dimension_of m t
  message_lt l =
      high_below w (parity_of m t) (dimension_of m t)
      (subst (λ (x : ℕ). w < 2 ^ x) (omega (arith, parity_full m t k)) (le_trans l (pow_mono {i = sent} {j = length_of m} (omega arith))))

  -- the word of its message is the word itself exactly where it is a codeword
  pub again_readable : w < 2 ^ sent → systematic m t message ≡ w → Readable m t s w
  again_readable l q = record { codeword = subst (Codeword m t) q (systematic_codeword m t message k (message_lt l)); unsent = l }

  pub readable_again : Readable m t s w → systematic m t message ≡ w
  readable_again r =
      let l = message_lt r.unsent in
      codeword_high m t k (systematic m t message) w (systematic_codeword m t message k l) r.codeword (systematic_high m t message k l)

  pub reading_taken : Readable m t s w → reading_after 0 m t s w ≡ says 0 message
  reading_taken r =
      ap (λ (b : Bool). cond b (says 0 message) (fault_of m t s w)) (is_true (readable m t s w)
      (and_both (ltb w (2 ^ sent)) (eqb (systematic m t message) w) (lt→ltb w (2 ^ sent) r.unsent) (eq→eqb _ _ (readable_again r))))

  pub reading_faulty : ¬ Readable m t s w → reading_after 0 m t s w ≡ fault_of m t s w
  reading_faulty f =
      ap (λ (b : Bool). cond b (says 0 message) (fault_of m t s w)) (is_false (readable m t s w)
      (λ h. f (again_readable (ltb→lt w (2 ^ sent) (and_left (ltb w (2 ^ sent)) (eqb (systematic m t message) w) h))
      (eqb→eq _ _ (and_right (ltb w (2 ^ sent)) (eqb (systematic m t message) w) h)))))

  -- a pad bit that is 1; then an unsent bit; both are looked for in what stands above
  pub found_pad : 0 < w / 2 ^ length_of m → reading_after 0 m t s w ≡ says 8 0
  found_pad h =
      let over : ¬ w < 2 ^ length_of m = λ l. omega (arith, div-eq_of_lt l) in
      reading_faulty (λ r. over (le_trans r.unsent (pow_mono {i = sent} {j = length_of m} (omega arith)))) ∙ fault_pad m t s w over

  pub found_unsent : w / 2 ^ length_of m ≤ 0 → 0 < w / 2 ^ sent → (p : ℕ) → Lowest sent 64 (bit_of w) p
      → reading_after 0 m t s w ≡ fault_at 9 p
  found_unsent l h p at =
      reading_faulty (λ r. omega (arith, div-eq_of_lt r.unsent))
      ∙ fault_unsent m t s w 64 p fits (below_div w (length_of m) (omega arith)) at

  -- then, where the word of its message is another, a root, in what is left when that is taken off: it is the lowest of the word too
  module _ (none : w / 2 ^ sent ≤ 0) where
    abbrev f : ℕ → ℕ
    f = value_at m (bit_of w)

    abbrev left : ℕ
    left = w ⊕ systematic m t message

    below : w < 2 ^ sent
    below = below_div w sent (omega arith)

    within : w < 2 ^ length_of m
    within = le_trans below (pow_mono {i = sent} {j = length_of m} (omega arith))

    pub found_message_lt : message < 2 ^ dimension_of m t
    found_message_lt = message_lt below

    taken_off : Codeword m t (systematic m t message)
    taken_off = systematic_codeword m t message k found_message_lt

    pub found_left_lt : left < 2 ^ length_of m
    found_left_lt = xor_lt (length_of m) w (systematic m t message) within taken_off.bits

    power_is : lowest_of 1 (2 * t) (value_at m (bit_of left)) ≡ lowest_of 1 (2 * t) f
    power_is = power_left m t s w k (systematic m t message) taken_off

    pub found_other : systematic m t message ≢ w → reading_after 0 m t s w ≡ fault_at 10 (lowest_of 1 (2 * t) (value_at m (bit_of left)))
    found_other n = reading_faulty (λ r. n (readable_again r)) ∙ fault_root m t s w fits below ∙ ap (fault_at 10) (sym power_is)

    -- and by what is left alone: its lowest root at fault, or none
    pub found_root : (e : ℕ) → Lowest 1 (2 * t) (value_at m (bit_of left)) e → reading_after 0 m t s w ≡ fault_at 10 e
    found_root e h =
        found_other (λ q. h.nonzero (at_bits m (laws m k.m_low k.m_high) w (systematic m t message) e
        ∙ ap (λ (c : ℕ). f e ⊕ value_at m (bit_of c) e) q ∙ xor_self (f e)))
        ∙ ap (fault_at 10) (lowest_is (value_at m (bit_of left)) 1 (2 * t) e h)

    pub found_message : lowest_of 1 (2 * t) (value_at m (bit_of left)) ≡ 1 + 2 * t → reading_after 0 m t s w ≡ says 0 message
    found_message e =
        ⊎_elim (λ z. reading_taken (record { codeword = record { bits = within; roots = z }; unsent = below }))
        (λ u. let high = u.high in absurd (omega (arith, power_is))) (lowest_cases f 1 (2 * t))

  module _ (wide : w < 2 ^ suc (length_of m)) where
    pub reading_pad : bit_of w (length_of m) ≡ 1 → reading_after 0 m t s w ≡ says 8 0
    reading_pad e =
        reading_faulty (λ r. not_pad m t s w r e)
        ∙ fault_pad m t s w (not_below m t s w (length_of m) (length_of m) (omega arith) (λ z. omega arith))

    pub reading_unsent : (p : ℕ) → UnsentFault m s w p → reading_after 0 m t s w ≡ fault_at 9 p
    reading_unsent p u =
        reading_faulty (λ r. not_unsent m t s w r p u) ∙ fault_unsent m t s w s p fits (pad_clear m t s w fits wide u.pad) u.lowest

    pub reading_root : (e : ℕ) → RootFault m t s w e → reading_after 0 m t s w ≡ fault_at 10 e
    reading_root e u =
        let l = none_from w sent (suc (length_of m)) (omega arith) wide (λ p a _. u.clear p a) in
        reading_faulty (λ r. not_root m t s w r e u) ∙ fault_root m t s w fits l
        ∙ ap (fault_at 10) (lowest_is (value_at m (bit_of w)) 1 (2 * t) e u.lowest)

module _ (m t s : ℕ) (bytes : List ℕ) where
  abbrev word : ℕ
  word = word_in m bytes

  module _ (e : read_refusal m t s (length bytes) ≡ 0) where
    pub passed : ReadPassed m t s (length bytes)
    passed = read_passed m t s (length bytes) e

    pub word_wide : word < 2 ^ suc (length_of m)
    word_wide = word_in_lt m bytes passed.known.m_low passed.known.m_high

    -- the word's reading, by what it is
    pub word_answers_lem : ReadAnswers m t s bytes (reading_after 0 m t s word)
    word_answers_lem = go (outcome m t s word (fits m t s word passed.known passed.short) word_wide)
      where
        go : Outcome m t s word → ReadAnswers m t s bytes (reading_after 0 m t s word)
        go (accepted r) = ReadAnswers.taken e r (reading_taken m t s word passed.known passed.short r)
        go (pad u) = ReadAnswers.padded e u (reading_pad m t s word passed.known passed.short word_wide u)
        go (unsent u) = ReadAnswers.unsent e _ u (reading_unsent m t s word passed.known passed.short word_wide _ u)
        go (root u) = ReadAnswers.missing_root e _ u (reading_root m t s word passed.known passed.short word_wide _ u)

  module _ (N : ℕ) (e : N ≡ read_refusal m t s (length bytes)) where
    pub read_refuses : 0 < N → ReadAnswers m t s bytes (says N 0)
    read_refuses h = ReadAnswers.refused (λ z. let q : N ≡ 0 = e ∙ z in omega arith) (ap (λ (x : ℕ). says x 0) e)
