-- `codec::message_in` meets its contract. Assumes nothing.
use mathlib.Core.Path.{◌≡◌, ap, sym, ◌∙◌}
use native.Mathlib.Omega.{arith}
use Rattle.words.specs.Packing.{bytes_of, unpacked, word_in}
use Rattle.frame.specs.Numbers.{number}
use Rattle.frame.proofs.FirstLaws.{number_above}
use Rattle.codec.proofs.ReadLaws.{passed}
use Rattle.codec.proofs.CalledLaws.{checked, checks_refused, passed_on}
use Rattle.codec.proofs.message_in.Goals as goal

pub returns-in_err-short : goal.returns-in_err-short
returns-in_err-short c =
    let a = c.args in
    let e = c.in_err-short.field-0.0 in
    passed_on c.from_residual.result e c.from_residual.ensures.1
    ∙ sym (checks_refused a.m a.t a.s a.bytes.now (number e) (number_above e) (sym c.in_err-short.ensures.number))

pub word_in-requires : goal.word_in-requires
word_in-requires c =
    let a = c.args in
    let short = c.in_ok-short.ensures in (
      c.bytes.ensures.within,
      omega (arith, c.bytes.ensures.bytes, ap bytes_of short.code.m_is, (passed a.m a.t a.s a.bytes.now (sym short.number)).room),
    )

pub returns : goal.returns
returns c =
    let a = c.args in
    let short = c.in_ok-short.ensures in
    let word : c.word_in.result ≡ word_in a.m a.bytes.now = c.word_in.ensures
    ∙ ap (unpacked a.bytes.now) (c.bytes.ensures.bytes ∙ ap bytes_of short.code.m_is) in
    rw (short.code.m_is, short.code.t_is, short.code.s_is, word) at c.message_of.ensures
    ∙ sym (checked a.m a.t a.s a.bytes.now 0 (sym short.number))
