-- The functions that are compiled, `encode`, `read` and `decode`: what the contract that each is proved to meet (`.Met`) asks of a caller
-- and tells it (`.Reads`) is that it asks nothing and gives back what ours gives. a is the arguments in the order of the parameters, r
-- the result, e the arguments at the exit.
--   EncodeIsOurs, ReadIsOurs, DecodeIsOurs   the claims, here since they name generated modules; encode_is_ours, ..: their proofs
-- Assumes nothing.
use mathlib.Core.Path.{◌≡◌}
use contract.Lifetimes.{Lfts}
use denote.Triple.Clauses.{AtExit}
use borrow.Fn.Kinds.{Dens, res_t, ended_of}
use Rattle.codec.proofs.CodecOneAnswer.{encode_one_answer, read_one_answer}
use Rattle.codec.proofs.encode.Kinds as encode-kinds
use Rattle.codec.proofs.encode.Reads as encode-reads
use Rattle.codec.proofs.read.Kinds as read-kinds
use Rattle.codec.proofs.read.Reads as read-reads
use Rattle.decode.specs.Call.{Call, Result}
use Rattle.decode.proofs.CalledLaws.{answers_as_result}
use Rattle.decode.proofs.decode.Kinds as decode-kinds
use Rattle.decode.proofs.decode.Reads as decode-reads
use Rattle.codec.specs.GivenBack.{Encoding}
use Rattle.demands.specs.Ours.{ours}
use Rattle.codec.proofs.CalledLaws.{encoding_answers, reading_answers}

abbrev pub EncodeIsOurs : Type 0
EncodeIsOurs = (κs : Lfts 1) (a : Dens κs encode-kinds.ps)
    → encode-reads.Asked κs a
    × ((r : (res_t encode-kinds.r κs).Denot) (e : AtExit (ended_of 1 encode-kinds.ps encode-kinds.r) κs) → encode-reads.Learnt κs a r e
    → ◌≡◌ {A = Encoding} (record { answer = r; after = e.1.1.1.1.0.now })
    (ours.encode a.0 a.1.0 a.1.1.0 a.1.1.1.0 a.1.1.1.1.0.now))

abbrev pub ReadIsOurs : Type 0
ReadIsOurs = (κs : Lfts 1) (a : Dens κs read-kinds.ps)
    → read-reads.Asked κs a
    × ((r : (res_t read-kinds.r κs).Denot) (e : AtExit (ended_of 1 read-kinds.ps read-kinds.r) κs) → read-reads.Learnt κs a r e
    → r ≡ ours.read a.0 a.1.0 a.1.1.0 a.1.1.1.0.now)

-- the call that decode's arguments are
abbrev pub called : (κs : Lfts 2) → Dens κs decode-kinds.ps → Call
called κs a = record {
  m = a.0;
  t = a.1.0;
  s = a.1.1.0;
  order = a.1.1.1.0;
  soft = a.1.1.1.1.0.now;
  before = a.1.1.1.1.1.0.now;
}

abbrev pub DecodeIsOurs : Type 0
DecodeIsOurs = (κs : Lfts 2) (a : Dens κs decode-kinds.ps)
    → decode-reads.Asked κs a
    × ((r : (res_t decode-kinds.r κs).Denot) (e : AtExit (ended_of 2 decode-kinds.ps decode-kinds.r) κs) → decode-reads.Learnt κs a r e
    → ◌≡◌ {A = Result} (record { answer = r; after = e.1.1.1.1.1.0.now }) (ours.decode (called κs a)))

pub encode_is_ours : EncodeIsOurs
encode_is_ours κs a = (
  tt,
  λ r e h. let p = encode_one_answer _ _ _ _ _ _ _ _ _ h
      (encoding_answers a.0 a.1.0 a.1.1.0 a.1.1.1.0 a.1.1.1.1.0.now) in
      λ i. record { answer = p.0 i; after = p.1 i },
)

pub read_is_ours : ReadIsOurs
read_is_ours κs a = (tt, λ r e h. read_one_answer _ _ _ _ _ _ h (reading_answers a.0 a.1.0 a.1.1.0 a.1.1.1.0.now))

pub decode_is_ours : DecodeIsOurs
decode_is_ours κs a = (tt, λ r e h. answers_as_result (called κs a) (record { answer = r; after = e.1.1.1.1.1.0.now }) h)
