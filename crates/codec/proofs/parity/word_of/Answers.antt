-- `codec::parity::word_of` meets its contract: the message moved up, and its remainder. Assumes nothing.
use mathlib.Core.Path.{◌≡◌, ap, ap₂, sym, ◌∙◌, subst}
use Prim.Native.Nat.{ℕ, ◌+◌, ◌*◌, ◌%◌, ◌^◌, ◌<◌}
use Rattle.field.specs.Field.{◌⊕◌}
use Rattle.codes.specs.Code.{dimension_of, parity_of, generator_of}
use Rattle.codes.specs.Generator.{remainder_by}
use Rattle.codec.proofs.EncodeLaws.{message_moved, moved_lt, systematic_is}
use Rattle.codec.proofs.parity.word_of.Goals as goal
use Rattle.codec.proofs.parity.word_of.Goals.{After-parity_bits}

-- the message moved up, as the code does it
moved : (c : After-parity_bits)
    → c.before.args.message * 2 ^ c.parity_bits.result % 2 ^ 64 ≡ c.before.args.message * 2 ^ parity_of c.before.args.m
    c.before.args.t
moved c =
    let a = c.before.args in
    ap (λ (x : ℕ). a.message * 2 ^ x % 2 ^ 64) c.parity_bits.ensures.0
    ∙ message_moved a.m a.t a.message c.before.requires.0 c.before.requires.1

pub remainder-requires : goal.remainder-requires
remainder-requires c =
    let a = c.args in
    subst (λ (x : ℕ). x < 2 ^ (parity_of a.m a.t + dimension_of a.m a.t)) (sym (moved (goal.at.remainder-requires c).After-parity_bits))
    (moved_lt a.m a.t a.message c.requires.0 c.requires.1)

pub returns : goal.returns
unfolding ◌⊕◌
returns c =
    let a = c.args in
    let e = moved (goal.at.returns c).After-parity_bits in
    ap₂ ◌⊕◌ e (c.remainder.ensures ∙ ap (remainder_by (parity_of a.m a.t) (generator_of a.m a.t) (dimension_of a.m a.t)) e)
    ∙ systematic_is a.m a.t a.message
