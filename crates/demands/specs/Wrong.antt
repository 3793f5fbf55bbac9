-- A function of each kind that has to be rejected (Rejected), so that none of the kinds is empty. The refuser and the zeroer know nothing
-- of the codes; the others have the right answer at hand and spoil one thing.
-- Assumes nothing.
use Rattle.words.specs.Packing.{written}
use Rattle.decode.specs.Call.{refused_with}
use Rattle.decode.specs.Called.{result_of}
use Rattle.demands.specs.Calls.{Decoder}
use Rattle.demands.specs.Rejected.{RefusesAll, ZeroWord, WritesNothing, UnflippedOnly, InventsCount, unflipped}

abbrev pub refuser : Decoder
refuser c = refused_with 1 c

abbrev pub zeroer : Decoder
zeroer c = record {
  answer = record { refusal = 0; distance = 0; flips = 0; candidates = 1 };
  after = written c.m 0 c.before;
}

abbrev pub silent : Decoder
silent c = record { answer = (result_of c).answer; after = c.before }

-- all that order c would answer is claimed, and the word is that of order 0
abbrev pub claimer : Decoder
claimer c = record { answer = (result_of c).answer; after = (result_of (unflipped c)).after }

-- 14 patterns, m=4, t=1, order 1, in every answer
abbrev pub inventor : Decoder
inventor c = record {
  answer = record {
    refusal = (result_of c).answer.refusal;
    distance = (result_of c).answer.distance;
    flips = (result_of c).answer.flips;
    candidates = 14;
  };
  after = (result_of c).after;
}

abbrev pub WrongVersionsExist : Type 0
WrongVersionsExist = RefusesAll refuser × ZeroWord zeroer × WritesNothing silent × UnflippedOnly claimer × InventsCount inventor
