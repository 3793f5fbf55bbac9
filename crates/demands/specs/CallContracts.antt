-- The contracts of the three calls, of any encoder, reader and decoder whatever.
--   Contracts x   every answer of the three is what its call's contract permits
-- Assumes nothing.
use Rattle.std.specs.Prelude.{List, ℕ}
use Rattle.codec.specs.Encode.{EncodeAnswers}
use Rattle.codec.specs.Read.{ReadAnswers}
use Rattle.decode.specs.Decode.{DecodeAnswers}
use Rattle.decode.specs.Call.{Call}
use Rattle.demands.specs.Calls.{Calls}

pub record Contracts (x : Calls) : Type 0 where
  pub encode : (m t s message : ℕ) (before : List ℕ)
      → EncodeAnswers m t s message before (x.encode m t s message before).answer (x.encode m t s message before).after
  pub read : (m t s : ℕ) (bytes : List ℕ) → ReadAnswers m t s bytes (x.read m t s bytes)
  pub decode : (c : Call) → DecodeAnswers c.m c.t c.s c.order c.soft c.before (x.decode c).answer (x.decode c).after
