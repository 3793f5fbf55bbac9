-- Read this first: the customer's three demands. A demand is made of any encoder, reader and decoder whatever (Calls) and stands in the
-- customer's words in a file of its own: Demand1 (every input gets an answer that the papers fix), Demand2 (words, messages, the nearest
-- codeword, the count), Demand3 (what was sent comes back). What is claimed of them is in Claims.
--   Demands x   the three demands
-- Assumes nothing.
use Rattle.demands.specs.Calls.{Calls}
use Rattle.demands.specs.Demand1.{Demand1}
use Rattle.demands.specs.Demand2.{Demand2}
use Rattle.demands.specs.Demand3.{Demand3}

pub record Demands (x : Calls) : Type 0 where
  pub first : Demand1 x
  pub second : Demand2 x
  pub third : Demand3 x
