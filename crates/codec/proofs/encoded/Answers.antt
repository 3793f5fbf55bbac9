-- `codec::encoded` meets its contract. Assumes nothing.
use mathlib.Core.Path.{ap, ap₂, ◌∙◌}
use mathlib.Core.List.{◌++◌}
use Prim.Native.Nat.{ℕ}
use native.Mathlib.Omega.{arith}
use lib.ListN.{length, drop}
use Rattle.codes.specs.Generator.{systematic}
use Rattle.words.specs.Packing.{bytes_of, packed, written}
use Rattle.frame.proofs.RefusalLaws.{EncodePassed}
use Rattle.codec.proofs.EncodeLaws.{encode_checked, encode_small, encode_writes}
use Rattle.codec.proofs.encoded.Goals as goal
use Rattle.codec.proofs.encoded.Goals.{In_ok-code}

-- what the checks leave
passed : (c : In_ok-code) → let a = c.args in EncodePassed a.m a.t a.s a.message (length a.buf.now)
passed c = let a = c.args in encode_checked a.m a.t a.s a.message a.buf.now 0 c.in_ok-code.ensures.number (omega arith)

pub word_of-requires : goal.word_of-requires
word_of-requires c =
    let a = c.args in
    let is = c.in_ok-code.ensures.code in
    let code = c.in_ok-code.field-0.code in (
      code.known,
      rw (is.m_is, is.t_is) (encode_small a.m a.t a.s a.message a.buf.now 0 c.in_ok-code.ensures.number (omega arith)),
    )

pub put_word-requires : goal.put_word-requires
put_word-requires c =
    omega (
      arith,
      c.bytes.ensures.bytes,
      ap bytes_of c.in_ok-code.ensures.code.m_is,
      (passed (goal.at.put_word-requires c).In_ok-code).room,
    )

pub returns : goal.returns
unfolding written
returns c =
    let a = c.args in
    let is = c.in_ok-code.ensures.code in
    let w = c.word_of in
    encode_writes a.m a.t a.s a.message a.buf.now 0 c.in_ok-code.ensures.number (omega arith) w.result _
    (w.ensures ∙ ap₂ (λ (x y : ℕ). systematic x y a.message) is.m_is is.t_is)
    (c.put_word.ensures ∙ ap (λ (n : ℕ). packed w.result n ++ drop n a.buf.now) (c.bytes.ensures.bytes ∙ ap bytes_of is.m_is))
