-- `lines::answer::answer_word` meets its contract: whatever decode gives is the one result of its call. Assumes nothing.
use mathlib.Core.Path.{◌≡◌, sym, ap, ◌∙◌}
use Prim.Native.Nat.{ℕ}
use native.Mathlib.Omega.{arith}
use lib.ListN.{length-take}
use Rattle.words.specs.Packing.{bytes_of}
use Rattle.lines.proofs.AnswerLaws.{decoded_known, answers_line, answers_refused, answers_ok}
use Rattle.lines.proofs.answer.answer_word.Goals as goal
use Rattle.lines.proofs.answer.answer_word.Goals.{In_default-new}
use Rattle.lines.proofs.answer.answer_word.Goals.{in_default-new-via-in-Some-new+else-decoding-eq0, in_default-new-via-in_default-new}

pub returns-in_default : goal.returns-in_default
returns-in_default c = rw (answers_line c.args.h c.args.text.now (sym c.in_default.ensures.holds)) c.put_line.ensures

pub put_ok-requires : goal.put_ok-requires
put_ok-requires c =
    (omega (arith, c.bytes.ensures.within, length-take c.bytes.result c.decode-decoding.new.buf), c.requires)

pub returns-in-Some-new : goal.returns-in-Some-new
returns-in-Some-new c =
    let d = c.decode-decoding in
    let a = c.args in
    let width = c.bytes.ensures.bytes ∙ ap bytes_of c.in-Some-new.ensures.some.0 in
    rw (answers_ok a.h a.text.now _ (sym c.in-Some.ensures.holds) d.result _ d.ensures c.if-decoding-eq0.true, ← width) c.put_ok.ensures

-- a header that names no code is refused
refused : (c : In_default-new) → ◌≡◌ {A = ℕ} c.decode-decoding.result.refusal 0 → ⊥
refused c z = elim c.in_default-new.branch [
  | in_default-new-via-in-Some-new+else-decoding-eq0 w ↦ w.if-decoding-eq0.false z
  | in_default-new-via-in_default-new w ↦ w.in_default-new.ensures.none (decoded_known c.decode-decoding.ensures z)
]

pub returns-in_default-new : goal.returns-in_default-new
returns-in_default-new c =
    let d = c.decode-decoding in
    let a = c.args in
    rw (answers_refused a.h a.text.now _ (sym c.in-Some.ensures.holds) d.result _ d.ensures
    (refused (goal.at.returns-in_default-new c).In_default-new)) c.put_refused.ensures
