-- "These versions have to be rejected" (document 01, "How tightly the calls are bound"), each as a property of a decoder, whatever else it
-- does; Wrong has a function of each kind.
--   RefusesAll, ZeroWord, WritesNothing, UnflippedOnly, InventsCount   the five
--   Rejected Wrong Demand      no calls with a decoder of that kind meet that demand
--   WrongVersionsAreRejected   the claim
-- Assumes nothing.
use Rattle.std.specs.Prelude.{◌≡◌, ◌≢◌}
use Rattle.words.specs.Packing.{written}
use Rattle.decode.specs.Call.{Call, checks_of}
use Rattle.decode.specs.Called.{result_of}
use Rattle.demands.specs.Calls.{Decoder, Calls}
use Rattle.demands.specs.Demand2.{Demand2}
use Rattle.demands.specs.Demand3.{Demand3}

-- "one that refuses everything"
abbrev pub RefusesAll : Decoder → Type 0
RefusesAll d = (c : Call) → (d c).answer.refusal ≢ 0

-- "one that always gives the zero word"
abbrev pub ZeroWord : Decoder → Type 0
ZeroWord d = (c : Call) → checks_of c ≡ 0 → (d c).after ≡ written c.m 0 c.before

-- "one that writes nothing"
abbrev pub WritesNothing : Decoder → Type 0
WritesNothing d = (c : Call) → (d c).after ≡ c.before

abbrev pub unflipped : Call → Call
unflipped c = record { m = c.m; t = c.t; s = c.s; order = 0; soft = c.soft; before = c.before }

-- "one that tries the unflipped pattern and only claims the rest": it leaves in the buffer what order 0 leaves there
abbrev pub UnflippedOnly : Decoder → Type 0
UnflippedOnly d = (c : Call) → checks_of c ≡ 0 → (d c).after ≡ (result_of (unflipped c)).after

-- "one that invents the candidate count": its count is the same whatever values are received, as a constant or a number of patterns is. An
-- invented count that varies with the values is ruled out by NothingElseMeetsThem (Claims)
abbrev pub InventsCount : Decoder → Type 0
InventsCount d = (c e : Call) → c.m ≡ e.m → c.t ≡ e.t → c.s ≡ e.s → c.order ≡ e.order
    → (d c).answer.refusal ≡ 0 → (d e).answer.refusal ≡ 0 → (d c).answer.candidates ≡ (d e).answer.candidates

abbrev pub Rejected : (Decoder → Type 0) → (Calls → Type 0) → Type 0
Rejected Wrong Demand = (x : Calls) → Wrong x.decode → Demand x → ⊥

-- "(demands 2 and 3 both) .. (2) .. (2, by P10; 3 where a reliable bit is wrong) .. (2, the count being of existing codewords)"
pub record WrongVersionsAreRejected : Type 0 where
  pub refuses_all : Rejected RefusesAll Demand2 × Rejected RefusesAll Demand3
  pub zero_word : Rejected ZeroWord Demand2 × Rejected ZeroWord Demand3
  pub writes_nothing : Rejected WritesNothing Demand2
  pub unflipped_only : Rejected UnflippedOnly Demand2 × Rejected UnflippedOnly Demand3
  pub invents_count : Rejected InventsCount Demand2
