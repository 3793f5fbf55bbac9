-- `codec::message::message_of` meets its contract. Assumes nothing.
use mathlib.Core.Path.{◌≡◌, ap, sym, subst, ◌∙◌}
use Prim.Native.Nat.{ℕ, ◌/◌, ◌^◌, ◌<◌, ◌≤◌}
use Rattle.field.specs.Field.{◌⊕◌}
use Rattle.field.specs.Lowest.{Lowest}
use Rattle.codes.specs.Code.{parity_of}
use Rattle.codes.specs.Codeword.{bit_of}
use Rattle.codes.specs.Generator.{systematic}
use Rattle.codec.specs.GivenBack.{fault_at}
use Rattle.codec.proofs.ReadLaws.{found_pad, found_unsent, found_message_lt, found_left_lt, found_other}
use Rattle.codec.proofs.message.message_of.Goals as goal

-- no bit above those that are sent, or some
none : (w : ℕ) {n k : ℕ} → n ≡ k → w / 2 ^ n ≤ 0 → w / 2 ^ k ≤ 0
none w e = subst (λ (i : ℕ). w / 2 ^ i ≤ 0) e

some : (w : ℕ) {n k : ℕ} → n ≡ k → 0 < w / 2 ^ n → 0 < w / 2 ^ k
some w e = subst (λ (i : ℕ). 0 < w / 2 ^ i) e

-- the codeword with the word's message
again : (m t w : ℕ) {n x : ℕ} → n ≡ parity_of m t → x ≡ systematic m t (w / 2 ^ n) → x ≡ systematic m t (w / 2 ^ parity_of m t)
again m t w e q = q ∙ ap (λ (i : ℕ). systematic m t (w / 2 ^ i)) e

pub returns-then-word-length-gt0 : goal.returns-then-word-length-gt0
returns-then-word-length-gt0 c =
    let x = c.args.short in
    let w = c.args.word in
    sym (found_pad x.code.m x.code.t x.s w x.code.known x.short (some w c.length.ensures.length c.if-word-length-gt0.true))

pub returns-then-word-sent-gt0 : goal.returns-then-word-sent-gt0
returns-then-word-sent-gt0 c =
    let x = c.args.short in
    let w = c.args.word in
    let l = c.lowest_one in
    sym (found_unsent x.code.m x.code.t x.s w x.code.known x.short (none w c.length.ensures.length c.if-word-length-gt0.false)
    (some w c.sent-sent.ensures.sent c.if-word-sent-gt0.true) l.result
    (subst (λ (i : ℕ). Lowest i 64 (bit_of w) l.result) c.sent-sent.ensures.sent l.ensures))

pub word_of-coded-requires : goal.word_of-coded-requires
word_of-coded-requires c =
    let x = c.args.short in
    let w = c.args.word in (
      x.code.known,
      rw c.parity.ensures.parity
          (found_message_lt x.code.m x.code.t x.s w x.code.known x.short (none w c.sent-sent.ensures.sent c.if-word-sent-gt0.false)),
    )

pub lowest_power-power-requires : goal.lowest_power-power-requires
unfolding ◌⊕◌
lowest_power-power-requires c =
    let x = c.args.short in
    let w = c.args.word in
    let k = x.code.known in (
      k.m_low,
      k.m_high,
      k.t_high,
      rw (again x.code.m x.code.t w c.parity.ensures.parity c.word_of-coded.ensures)
          (found_left_lt x.code.m x.code.t x.s w k x.short (none w c.sent-sent.ensures.sent c.if-word-sent-gt0.false)),
    )

pub returns : goal.returns
unfolding ◌⊕◌
returns c =
    let x = c.args.short in
    let w = c.args.word in
    let e = again x.code.m x.code.t w c.parity.ensures.parity c.word_of-coded.ensures in
    ap (fault_at 10) (rw e at c.lowest_power-power.ensures)
    ∙ sym (found_other x.code.m x.code.t x.s w x.code.known x.short (none w c.sent-sent.ensures.sent c.if-word-sent-gt0.false)
    (λ q. c.if-coded-word.false (e ∙ q)))
