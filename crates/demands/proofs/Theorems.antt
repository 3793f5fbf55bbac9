-- Every claim by its name, with what proves it: the checked table of theorems, from the demands through the compiled functions down to the
-- fields and codes. Assumes nothing.
use mathlib.Core.List.{List}
use Prim.Native.Nat.{ℕ}
use lib.IntN.{ℤ}
use Rattle.field.specs.Laws.{FieldsAreLawful}
use Rattle.field.proofs.FieldLaws.{laws}
use Rattle.codes.specs.Claims.{GeneratorsAreRight, OneWordForEachMessage, CodewordsAreApart, PlacesFixAWord, CellsAreThePapers}
use Rattle.codes.specs.Claims.{CellsAreShort, FaultyPowersAreOdd}
use Rattle.codes.proofs.ClaimsShown as codes
use Rattle.soft.specs.Claims.{SortedByRank, FirstAreReliable, DistancesAreSmall}
use Rattle.soft.proofs.OrderLaws as order
use Rattle.soft.proofs.DistanceLaws as distance
use Rattle.search.specs.Claims.{PatternsAreCounted, PatternsAreBinomials, EveryCandidateHasOnePattern, BinaryPatternsAreCandidates}
use Rattle.search.specs.Claims.{BestIsNearest, CandidatesAreCounted, NothingIsMissed}
use Rattle.search.proofs.ClaimsShown as search-shown
use Rattle.sent.specs.Claims.{SmallestAreLeast, OthersAreFarther, SentIsNearest}
use Rattle.sent.proofs.ClaimsShown as sent-shown
use Rattle.words.proofs.PackedBits.{packed_bit, unpacked_bit}
use Rattle.codec.proofs.CodecOneAnswer as codec
use Rattle.codec.proofs.RoundTrip as trip
use Rattle.codec.proofs.encode.Statement as encode-stated
use Rattle.codec.proofs.encode.Met as encode-met
use Rattle.codec.proofs.read.Statement as read-stated
use Rattle.codec.proofs.read.Met as read-met
use Rattle.decode.proofs.DecodeOneAnswer as decode
use Rattle.decode.proofs.decode.Statement as decode-stated
use Rattle.decode.proofs.decode.Met as decode-met
use Rattle.gf.proofs.inverse.Statement as inverse-stated
use Rattle.gf.proofs.inverse.Met as inverse-met
use Rattle.export.proofs.ToldOneAnswer as told
use Rattle.export.proofs.malligovu_encode.Statement as c-encode-stated
use Rattle.export.proofs.malligovu_encode.Met as c-encode-met
use Rattle.export.proofs.malligovu_read.Statement as c-read-stated
use Rattle.export.proofs.malligovu_read.Met as c-read-met
use Rattle.export.proofs.malligovu_fault.Statement as c-fault-stated
use Rattle.export.proofs.malligovu_fault.Met as c-fault-met
use Rattle.export.proofs.malligovu_decode.Statement as c-decode-stated
use Rattle.export.proofs.malligovu_decode.Met as c-decode-met
use Rattle.stream.proofs.step.Statement as step-stated
use Rattle.stream.proofs.step.Met as step-met
use Rattle.stream.proofs.end.Statement as end-stated
use Rattle.stream.proofs.end.Met as end-met
use Rattle.lines.specs.Claims.{BlocksDoNotMatter, AnsweredAtOnce, NothingAfterTheEnd, NothingIsGuessed, UnfinishedLinesWait}
use Rattle.lines.specs.Claims.{OrderLeftOut}
use Rattle.lines.proofs.ClaimsShown as program-shown
use Rattle.demands.specs.Claims.{ContractsMeetDemands, OursMeetDemands, DemandsAreContracts, NothingElseMeetsThem, SecondGivesThird}
use Rattle.demands.specs.Claims.{EqualityIsNotPromised, HardSlicedWordsAreRead}
use Rattle.demands.specs.Ours.{ours}
use Rattle.demands.specs.Rejected.{WrongVersionsAreRejected}
use Rattle.demands.specs.Wrong.{WrongVersionsExist}
use Rattle.settled.specs.Settled.{settled, Each}
use Rattle.demands.specs.OneAnswer.{EncodeHasOneAnswer, ReadHasOneAnswer, DecodeHasOneAnswer, DecodeTellsOneAnswer}
use Rattle.demands.specs.OneAnswer.{ReadTellsOneAnswer, FaultTellsOneAnswer}
use Rattle.demands.specs.Packed.{BitsArePacked, BitsAreUnpacked}
use Rattle.demands.specs.BringsBack.{ReadBringsBack, EncodeWritesAgain}
use Rattle.demands.specs.SaysWhere.{ReadSaysWhere, ReadableWhereNoFault, DecodedIsReadOrUnsent, FaultGoesWithRead}
use Rattle.demands.proofs.ContractsMeetDemands.{meets_first, meets_second, ours_answer}
use Rattle.demands.proofs.DemandsAreContracts.{contracts_kept, encode_as_ours, read_as_ours, decode_as_ours}
use Rattle.demands.proofs.SaysWhereShown as where-shown
use Rattle.demands.proofs.SecondGivesThird as third
use Rattle.demands.proofs.HardSlicedRead as hard-sliced
use Rattle.demands.proofs.CompiledCalls as compiled
use Rattle.demands.proofs.CompiledCalls.{EncodeIsOurs, ReadIsOurs, DecodeIsOurs}
use Rattle.demands.proofs.AtEquality.{equality_shown}
use Rattle.demands.proofs.RejectedShown as wrong
use Rattle.settled.proofs.SettledShown as shown
use Rattle.settled.specs.WholeExample.{WholeExample}
use Rattle.settled.specs.OrderExample.{OrderOneIsWrong}
use Rattle.settled.proofs.WholeExampleShown as whole

-- the demands: whatever keeps the contracts meets them, ours do, and nothing else does
pub second_gives_third : SecondGivesThird
second_gives_third = third.second_gives_third

pub contracts_meet_demands : ContractsMeetDemands
contracts_meet_demands x h = record { first = meets_first x h; second = meets_second x h; third = second_gives_third x (meets_second x h) }

pub ours_meet_demands : OursMeetDemands
ours_meet_demands = contracts_meet_demands ours ours_answer

pub demands_are_contracts : DemandsAreContracts
demands_are_contracts = contracts_kept

pub nothing_else_meets_them : NothingElseMeetsThem
nothing_else_meets_them x first second = (encode_as_ours x first second, read_as_ours x first second, decode_as_ours x first second)

pub equality_is_not_promised : EqualityIsNotPromised
equality_is_not_promised = equality_shown

pub hard_sliced_words_are_read : HardSlicedWordsAreRead
hard_sliced_words_are_read = hard-sliced.hard_sliced_words_are_read

-- the compiled functions meet their contracts, and so ask nothing and give back what ours give
pub encode_meets_its_contract : {M : Type 1} → encode-stated.statement M
encode_meets_its_contract = encode-met.met

pub read_meets_its_contract : {M : Type 1} → read-stated.statement M
read_meets_its_contract = read-met.met

pub decode_meets_its_contract : {M : Type 1} → decode-stated.statement M
decode_meets_its_contract = decode-met.met

pub encode_is_ours : EncodeIsOurs
encode_is_ours = compiled.encode_is_ours

pub read_is_ours : ReadIsOurs
read_is_ours = compiled.read_is_ours

pub decode_is_ours : DecodeIsOurs
decode_is_ours = compiled.decode_is_ours

-- the wrong versions and the settled examples
pub wrong_versions_are_rejected : WrongVersionsAreRejected
wrong_versions_are_rejected = wrong.rejected_shown

pub wrong_versions_exist : WrongVersionsExist
wrong_versions_exist = wrong.wrong_exist

pub settled_examples : Each settled
settled_examples = shown.settled_shown

pub whole_example : WholeExample
whole_example = whole.whole_example

pub order_one_is_wrong : OrderOneIsWrong
order_one_is_wrong = whole.order_one_is_wrong

-- the functions for C hosts, which export_c exports with the same clauses, meet their contracts
pub c_encode_meets_its_contract : {M : Type 1} → c-encode-stated.statement M
c_encode_meets_its_contract = c-encode-met.met

pub c_read_meets_its_contract : {M : Type 1} → c-read-stated.statement M
c_read_meets_its_contract = c-read-met.met

pub c_fault_meets_its_contract : {M : Type 1} → c-fault-stated.statement M
c_fault_meets_its_contract = c-fault-met.met

pub c_decode_meets_its_contract : {M : Type 1} → c-decode-stated.statement M
c_decode_meets_its_contract = c-decode-met.met

-- the fields and the codes
pub inverse_meets_its_contract : {M : Type 1} → inverse-stated.statement M
inverse_meets_its_contract = inverse-met.met

pub fields_are_lawful : FieldsAreLawful
fields_are_lawful = laws

pub generators_are_right : GeneratorsAreRight
generators_are_right = codes.generators_are_right

pub one_word_for_each_message : OneWordForEachMessage
one_word_for_each_message = codes.one_word_for_each_message

pub codewords_are_apart : CodewordsAreApart
codewords_are_apart = codes.codewords_are_apart

pub places_fix_a_word : PlacesFixAWord
places_fix_a_word = codes.places_fix_a_word

pub cells_are_the_papers : CellsAreThePapers
cells_are_the_papers = codes.cells_are_the_papers

pub cells_are_short : CellsAreShort
cells_are_short = codes.cells_are_short

pub faulty_powers_are_odd : FaultyPowersAreOdd
faulty_powers_are_odd = codes.faulty_powers_are_odd

-- the order of positions, and distances
pub sorted_by_rank : SortedByRank
sorted_by_rank = order.rank_at

pub first_are_reliable : FirstAreReliable
first_are_reliable = order.reliable_says

pub distances_are_small : DistancesAreSmall
distances_are_small = distance.distance_at_most

-- the search
pub patterns_are_counted : PatternsAreCounted
patterns_are_counted = search-shown.patterns_are_counted

pub patterns_are_binomials : PatternsAreBinomials
patterns_are_binomials = search-shown.patterns_are_binomials

module _ (m b r tau : ℕ) (soft : List ℤ) (R : ℕ → ℕ) where
  pub every_candidate_has_one_pattern : EveryCandidateHasOnePattern m b r tau soft R
  every_candidate_has_one_pattern = search-shown.every_candidate_has_one_pattern m b r tau soft R

  pub binary_patterns_are_candidates : BinaryPatternsAreCandidates m b r tau soft R
  binary_patterns_are_candidates = search-shown.binary_patterns_are_candidates m b r tau soft R

  pub best_is_nearest : BestIsNearest m b r tau soft R
  best_is_nearest = search-shown.best_is_nearest m b r tau soft R

  pub candidates_are_counted : CandidatesAreCounted m b r tau soft R
  candidates_are_counted = search-shown.candidates_are_counted m b r tau soft R

  pub nothing_is_missed : NothingIsMissed m b r tau soft R
  nothing_is_missed = search-shown.nothing_is_missed m b r tau soft R

-- a word that was sent
pub smallest_are_least : SmallestAreLeast
smallest_are_least = sent-shown.smallest_are_least

module _ (m b r tau : ℕ) (soft : List ℤ) (c : ℕ) where
  pub others_are_farther : OthersAreFarther m b r tau soft c
  others_are_farther = sent-shown.others_are_farther m b r tau soft c

  pub sent_is_nearest : SentIsNearest m b r tau soft c
  sent_is_nearest = sent-shown.sent_is_nearest m b r tau soft c

-- the calls' contracts
pub bits_are_packed : BitsArePacked
bits_are_packed = packed_bit

pub bits_are_unpacked : BitsAreUnpacked
bits_are_unpacked = unpacked_bit

pub encode_has_one_answer : EncodeHasOneAnswer
encode_has_one_answer = codec.encode_one_answer

pub read_has_one_answer : ReadHasOneAnswer
read_has_one_answer = codec.read_one_answer

pub decode_has_one_answer : DecodeHasOneAnswer
decode_has_one_answer = decode.decode_one_answer

pub decode_tells_one_answer : DecodeTellsOneAnswer
decode_tells_one_answer = told.decode_told_one

pub read_tells_one_answer : ReadTellsOneAnswer
read_tells_one_answer = told.read_told_one

pub fault_tells_one_answer : FaultTellsOneAnswer
fault_tells_one_answer = told.fault_told_one

pub read_says_where : ReadSaysWhere
read_says_where = where-shown.read_says_where

pub readable_where_no_fault : ReadableWhereNoFault
readable_where_no_fault = where-shown.readable_where_no_fault

pub decoded_is_read_or_unsent : DecodedIsReadOrUnsent
decoded_is_read_or_unsent = where-shown.decoded_is_read_or_unsent

pub fault_goes_with_read : FaultGoesWithRead
fault_goes_with_read = where-shown.fault_goes_with_read

pub read_brings_back : ReadBringsBack
read_brings_back = trip.encode_then_read

pub encode_writes_again : EncodeWritesAgain
encode_writes_again = trip.read_then_encode

-- the program: its step over a block and its end meet their contracts, and what follows for whole inputs
pub step_meets_its_contract : {M : Type 1} → step-stated.statement M
step_meets_its_contract = step-met.met

pub end_meets_its_contract : {M : Type 1} → end-stated.statement M
end_meets_its_contract = end-met.met

pub blocks_do_not_matter : BlocksDoNotMatter
blocks_do_not_matter = program-shown.blocks_do_not_matter

pub answered_at_once : AnsweredAtOnce
answered_at_once = program-shown.answered_at_once

pub nothing_after_the_end : NothingAfterTheEnd
nothing_after_the_end = program-shown.nothing_after_the_end

pub nothing_is_guessed : NothingIsGuessed
nothing_is_guessed = program-shown.nothing_is_guessed

pub unfinished_lines_wait : UnfinishedLinesWait
unfinished_lines_wait = program-shown.unfinished_lines_wait

pub order_left_out : OrderLeftOut
order_left_out = program-shown.order_left_out
