-- The five versions that have to be rejected: none meets the demand it is held against, by a settled example. No settled example has
-- another word than zero sent with a margin, so the zero word falls under demand 3 by the word 04 60, sent without an error.
-- Assumes nothing.
use mathlib.Core.Path.{◌≡◌, refl, sym, ap, ◌∙◌}
use mathlib.Core.List.{List}
use Prim.Native.Nat.{ℕ, ◌<◌}
use native.Mathlib.Omega.{arith}
use lib.ListN.{get_or}
use Rattle.decode.specs.Call.{Call, Result, checks_of}
use Rattle.decode.specs.Called.{result_of}
use Rattle.demands.specs.Calls.{Calls}
use Rattle.demands.specs.Decodes.{Returns}
use Rattle.demands.specs.Demand2.{Demand2}
use Rattle.demands.specs.Demand3.{wrong_sum, right_sum, Sent, Demand3}
use Rattle.settled.specs.SettledCalls.{calling, clean, fifth, tied}
use Rattle.demands.specs.Rejected.{RefusesAll, ZeroWord, WritesNothing, UnflippedOnly, InventsCount, Rejected}
use Rattle.demands.specs.Rejected.{WrongVersionsAreRejected}
use Rattle.demands.specs.Wrong.{WrongVersionsExist}
use Rattle.demands.proofs.DemandsAreContracts.{decodes_one}
use Rattle.settled.proofs.SettledWords.{passes_0, passes_1, zero_bytes, other_bytes}
use Rattle.demands.proofs.SentWords.{other, sent_clean, margin_clean, sent_fifth, margin_fifth, sent_other, margin_other}
use Rattle.settled.proofs.SettledShown.{p5, p6, p8, p8_one, p9, p10}

-- what demand 2 makes of a call
forced : (x : Calls) → Demand2 x → (c : Call) (y : Result) → checks_of c ≡ 0 → result_of c ≡ y → x.decode c ≡ y
forced x h c y e q = decodes_one c (x.decode c) (h.decode c e) e ∙ q

-- and of its buffer
forced_after : (x : Calls) → Demand2 x → (c : Call) (y : Result) → checks_of c ≡ 0 → result_of c ≡ y → (x.decode c).after ≡ y.after
forced_after x h c y e q = ap (λ (z : Result). z.after) (forced x h c y e q)

-- what demand 3 makes of a call
returned : (x : Calls) → Demand3 x → (c : Call) (w : ℕ) → checks_of c ≡ 0 → Sent c w → wrong_sum c w < right_sum c w
    → Returns c w (x.decode c)
returned x h c w e s l = (h c e w s (omega (arith, l))).0

-- two buffers that differ in the first byte
unequal : (l k : List ℕ) (x y : ℕ) → get_or l 0 0 ≡ x → get_or k 0 0 ≡ y → (x ≡ y → ⊥) → l ≡ k → ⊥
unequal l k x y p q n e = n (sym p ∙ ap (λ (z : List ℕ). get_or z 0 0) e ∙ q)

refuses_all_2 : Rejected RefusesAll Demand2
refuses_all_2 x r h =
    r (calling 0 clean) (ap (λ (y : Result). y.answer.refusal) (forced x h (calling 0 clean) _ (passes_0 clean refl) p5))

refuses_all_3 : Rejected RefusesAll Demand3
refuses_all_3 x r h = r (calling 0 clean) (returned x h (calling 0 clean) 0 (passes_0 clean refl) sent_clean margin_clean).refusal

zero_word_2 : Rejected ZeroWord Demand2
zero_word_2 x z h =
    unequal _ _ 0 4 refl refl (λ e. omega arith)
    (sym zero_bytes ∙ sym (z (calling 0 tied) (passes_0 tied refl)) ∙ forced_after x h (calling 0 tied) _ (passes_0 tied refl) p9)

zero_word_3 : Rejected ZeroWord Demand3
zero_word_3 x z h =
    unequal _ _ 0 4 refl refl (λ e. omega arith)
    (sym zero_bytes ∙ sym (z (calling 0 other) (passes_0 other refl))
    ∙ (returned x h (calling 0 other) 0x6004 (passes_0 other refl) sent_other margin_other).writes ∙ other_bytes)

writes_nothing_2 : Rejected WritesNothing Demand2
writes_nothing_2 x z h =
    unequal _ _ 255 0 refl refl (λ e. omega arith)
    (sym (z (calling 0 clean)) ∙ forced_after x h (calling 0 clean) _ (passes_0 clean refl) p5)

unflipped_only_2 : Rejected UnflippedOnly Demand2
unflipped_only_2 x z h =
    unequal _ _ 4 0 refl refl (λ e. omega arith)
    (sym (z (calling 1 tied) (passes_1 tied refl) ∙ ap (λ (y : Result). y.after) p9)
    ∙ forced_after x h (calling 1 tied) _ (passes_1 tied refl) p10)

unflipped_only_3 : Rejected UnflippedOnly Demand3
unflipped_only_3 x z h =
    unequal _ _ 255 0 refl refl (λ e. omega arith)
    (sym (z (calling 1 fifth) (passes_1 fifth refl) ∙ ap (λ (y : Result). y.after) p8)
    ∙ (returned x h (calling 1 fifth) 0 (passes_1 fifth refl) sent_fifth margin_fifth).writes ∙ zero_bytes)

invents_count_2 : Rejected InventsCount Demand2
invents_count_2 x z h =
    let a = forced x h (calling 1 clean) _ (passes_1 clean refl) p6 in
    let b = forced x h (calling 1 fifth) _ (passes_1 fifth refl) p8_one in
    let e : ◌≡◌ {A = ℕ} 2 4 = sym (ap (λ (y : Result). y.answer.candidates) a)
    ∙ z (calling 1 clean) (calling 1 fifth) refl refl refl refl (ap (λ (y : Result). y.answer.refusal) a)
    (ap (λ (y : Result). y.answer.refusal) b)
    ∙ ap (λ (y : Result). y.answer.candidates) b in
    omega arith

pub rejected_shown : WrongVersionsAreRejected
rejected_shown = record {
  refuses_all = (refuses_all_2, refuses_all_3);
  zero_word = (zero_word_2, zero_word_3);
  writes_nothing = writes_nothing_2;
  unflipped_only = (unflipped_only_2, unflipped_only_3);
  invents_count = invents_count_2;
}

pub wrong_exist : WrongVersionsExist
wrong_exist = (λ c e. omega arith, λ c e. refl, λ c. refl, λ c e. refl, λ c e _ _ _ _ _ _. refl)
