-- What is claimed of the demands. Each claim is proved under its name in proofs/Theorems, which goes on to the compiled functions: they
-- give back what ours give. Rejected has the versions that must not pass, OneAnswer that the contracts permit one answer, SaysWhere which
-- check of a word read failed, and settled/specs the paper's examples.
--   ContractsMeetDemands     whatever keeps the contracts of encode, read and decode meets the demands
--   OursMeetDemands          the functions that the three calls compute meet them
--   DemandsAreContracts      and what meets demands 1 and 2 keeps the contracts: the demands ask no less
--   NothingElseMeetsThem     so it gives what ours give
--   SecondGivesThird         demand 3 asks nothing further of a decoder: demand 2 implies it
--   EqualityIsNotPromised    in demand 3 "less than" cannot be "at most"
--   HardSlicedWordsAreRead   with an order of t or more a hard-sliced word with at most t wrong bits comes back: why a header of three
--                            numbers means order t (Req 01)
-- Assumes nothing.
use Rattle.std.specs.Prelude.{◌≡◌, List, ℕ, ◌≤◌}
use Rattle.decode.specs.Call.{Call, checks_of}
use Rattle.settled.specs.SettledCalls.{calling, tied}
use Rattle.demands.specs.Calls.{Calls}
use Rattle.demands.specs.CallContracts.{Contracts}
use Rattle.demands.specs.Demand1.{Demand1}
use Rattle.demands.specs.Decodes.{Returns}
use Rattle.demands.specs.Demand2.{Demand2}
use Rattle.demands.specs.Demand3.{Demand3, AtEquality}
use Rattle.demands.specs.Demands.{Demands}
use Rattle.demands.specs.HardSliced.{HardSliced}
use Rattle.demands.specs.Ours.{ours}

abbrev pub ContractsMeetDemands : Type 0
ContractsMeetDemands = (x : Calls) → Contracts x → Demands x

abbrev pub OursMeetDemands : Type 0
OursMeetDemands = Demands ours

abbrev pub DemandsAreContracts : Type 0
DemandsAreContracts = (x : Calls) → Demand1 x → Demand2 x → Contracts x

abbrev pub NothingElseMeetsThem : Type 0
NothingElseMeetsThem = (x : Calls) → Demand1 x → Demand2 x
    → ((m t s message : ℕ) (before : List ℕ) → x.encode m t s message before ≡ ours.encode m t s message before)
    × ((m t s : ℕ) (bytes : List ℕ) → x.read m t s bytes ≡ ours.read m t s bytes)
    × ((c : Call) → x.decode c ≡ ours.decode c)

abbrev pub SecondGivesThird : Type 0
SecondGivesThird = (x : Calls) → Demand2 x → Demand3 x

-- P10: m=4, t=1, s=0, order 1, sent 04 60, values 10 but -10 at position 2 and 5 at 13 and 14. Both sums are 10, and the zero word, as
-- near and lower, comes back
abbrev pub EqualityIsNotPromised : Type 0
EqualityIsNotPromised = AtEquality (calling 1 tied) 0x6004 0

-- Req 01: "With t=2 or 3" order 1 "leaves a hard-sliced word with two wrong bits unread." Demand 3's corollary: of e wrong bits, e at most
-- t, the sum is e v, and the 2t+1-e smallest at the right bits sum to (2t+1-e) v or more
abbrev pub HardSlicedWordsAreRead : Type 0
HardSlicedWordsAreRead = (x : Calls) → Demand2 x → (c : Call) → checks_of c ≡ 0 → c.t ≤ c.order → (v w : ℕ) → HardSliced c v w
    → Returns c w (x.decode c) × ((u : ℕ) → Returns c u (x.decode c) → u ≡ w)
