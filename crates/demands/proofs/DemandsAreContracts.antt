-- What meets demands 1 and 2 keeps the contracts, and so gives what ours give. Which case of a contract an input has is read off ours.
-- Assumes nothing.
use mathlib.Core.Path.{◌≡◌, refl, ap}
use mathlib.Core.Logic.{◌≢◌}
use mathlib.Core.List.{List}
use Prim.Native.Nat.{ℕ, ◌+◌, ◌-◌, ◌*◌, ◌<◌, ◌≤◌}
use native.Mathlib.Omega.{arith}
use lib.ListN.{length}
use Rattle.field.specs.Field.{length_of}
use Rattle.field.proofs.LowestLaws.{lowest_by}
use Rattle.codes.specs.Codeword.{bit_of, value_at}
use Rattle.codes.proofs.ShapeLaws.{parity_full}
use Rattle.codes.proofs.WordLaws.{bit_lt}
use Rattle.words.specs.Packing.{word_in}
use Rattle.frame.specs.Refusal.{read_refusal}
use Rattle.frame.proofs.RefusalLaws.{read_passed}
use Rattle.codec.specs.Encode.{EncodeAnswers, refused, encoded}
use Rattle.codec.specs.Read.{UnsentFault, RootFault, ReadAnswers}
use Rattle.codec.proofs.CodecOneAnswer.{encode_one_answer, read_one_answer}
use Rattle.decode.specs.Decode.{Refused, DecodeAnswers}
use Rattle.decode.specs.Call.{Call, Result, checks_of, refused_with}
use Rattle.decode.specs.Called.{result_of}
use Rattle.decode.proofs.CalledLaws.{Answers, result_answers, answers_as_result}
use Rattle.codec.specs.GivenBack.{fault_at, Encoding}
use Rattle.codec.specs.declared.Reading.{Reading}
use Rattle.demands.specs.Calls.{Calls}
use Rattle.demands.specs.CallContracts.{Contracts}
use Rattle.demands.specs.Demand1.{Demand1}
use Rattle.demands.specs.Decodes.{Decodes}
use Rattle.demands.specs.Demand2.{Demand2}
use Rattle.codec.specs.Called.{encoding_of, reading_of}
use Rattle.demands.specs.Ours.{ours}
use Rattle.codec.proofs.CalledLaws.{encoding_answers, reading_answers}
use Rattle.demands.proofs.ContractsMeetDemands.{candidate_among, among_candidate}

refused_as : (c : Call) (y : Result) (N : ℕ) → y ≡ refused_with N c → Refused N c.before y.answer y.after
refused_as c y N e = record { says = ap (λ (z : Result). z.answer) e; keeps = ap (λ (z : Result). z.after) e }

module _ (c : Call) (y : Result) (h : Decodes c y) where
  decodes_as : checks_of c ≡ 0 → Answers c (result_of c) → Answers c y
  decodes_as e (DecodeAnswers.refused n k) = absurd (n e)
  decodes_as e (DecodeAnswers.nothing _ f k) = DecodeAnswers.nothing e f (refused_as c y 6 (h.none (λ w a. f w (among_candidate c w a))))
  decodes_as e (DecodeAnswers.decoded _ k) =
      let u = h.some k.word (candidate_among c k.word k.nearest.candidate) in
      DecodeAnswers.decoded e (record {
        word = u.0;
        nearest = record {
          candidate = among_candidate c u.0 u.1.among;
          least = λ v a. u.1.least v (candidate_among c v a);
          lowest = λ v a e. omega (arith, u.1.lowest v (candidate_among c v a) e);
        };
        refusal = u.2.refusal;
        distance = u.2.distance;
        flips = u.2.flips;
        candidates = record {
          list = u.3.list;
          once = u.3.once;
          members = λ w. (λ a. among_candidate c w ((u.3.members w).0 a), λ a. (u.3.members w).1 (candidate_among c w a));
          number = u.3.number;
        };
        writes = u.2.writes;
      })

  -- the sentence about the decoder leaves one result
  pub decodes_one : checks_of c ≡ 0 → y ≡ result_of c
  decodes_one e = answers_as_result c y (decodes_as e (result_answers c))

module _ (x : Calls) (first : Demand1 x) (second : Demand2 x) where
  encode_keeps : (m t s message : ℕ) (before : List ℕ)
      → EncodeAnswers m t s message before (encoding_of m t s message before).answer (encoding_of m t s message before).after
      → EncodeAnswers m t s message before (x.encode m t s message before).answer (x.encode m t s message before).after
  encode_keeps m t s message before (refused n _ _) =
      let e = (first.encode m t s message before).refused n in
      refused n (ap (λ (y : Encoding). y.answer) e) (ap (λ (y : Encoding). y.after) e)
  encode_keeps m t s message before (encoded e _ _) =
      let u = second.encode m t s message before e in
      encoded e (ap (λ (y : Encoding). y.answer) u.gives) (record {
        word = u.word;
        codeword = u.of.codeword;
        high = u.of.high;
        unsent = u.of.unsent;
        writes = ap (λ (y : Encoding). y.after) u.gives;
      })

  -- of a word with an unsent bit, or a root missing, the demand gives the lowest
  module _ (m t s : ℕ) (bytes : List ℕ) (e : read_refusal m t s (length bytes) ≡ 0) where
    abbrev n : ℕ
    n = length_of m

    abbrev w : ℕ
    w = word_in m bytes

    abbrev y : Reading
    y = x.read m t s bytes

    short : s ≤ n
    short = let k = read_passed m t s (length bytes) e in let l = k.short in omega (arith, parity_full m t k.known)

    unsent_at : bit_of w n ≡ 0 → (p : ℕ) → n - s ≤ p → p < n - s + s → bit_of w p ≢ 0
        → (y ≡ fault_at 9 y.at) × (n - s ≤ y.at) × (bit_of w y.at ≡ 1) × (y.at ≤ p)
    unsent_at z p l h f =
        let r = (second.read m t s bytes e).unsent z p l (omega (arith, short)) (omega (arith, bit_lt w p)) in
        (r.0, r.1, r.2, omega (arith, r.3))

    unsent_keeps : (p : ℕ) → UnsentFault m s w p → ReadAnswers m t s bytes y
    unsent_keeps p u =
        let k = u.lowest in
        let h = k.high in
        let found = unsent_at u.pad p k.low h k.nonzero in
        ReadAnswers.unsent e _ (record {
          pad = u.pad;
          lowest = lowest_by (bit_of w) (n - s) s y.at found.1 (omega (arith, found.3)) (λ z. omega (arith, found.2))
              (λ i l h f. (unsent_at u.pad i l h f).3);
        }) found.0

    root_at : ((p : ℕ) → n - s ≤ p → bit_of w p ≡ 0) → (i : ℕ) → 1 ≤ i → i < 1 + 2 * t → value_at m (bit_of w) i ≢ 0
        → (y ≡ fault_at 10 y.at) × (1 ≤ y.at) × (value_at m (bit_of w) y.at ≢ 0) × (y.at ≤ i)
    root_at z i l h f = let r = (second.read m t s bytes e).root z i l (omega arith) f in (r.0, r.1, r.2, omega (arith, r.3))

    root_keeps : (i : ℕ) → RootFault m t s w i → ReadAnswers m t s bytes y
    root_keeps i u =
        let k = u.lowest in
        let h = k.high in
        let found = root_at u.clear i k.low h k.nonzero in
        ReadAnswers.missing_root e _ (record {
          clear = u.clear;
          lowest = lowest_by (value_at m (bit_of w)) 1 (2 * t) y.at found.1 (omega (arith, found.3)) found.2
              (λ j l h f. (root_at u.clear j l h f).3);
        }) found.0

  read_keeps : (m t s : ℕ) (bytes : List ℕ) → ReadAnswers m t s bytes (reading_of m t s bytes)
      → ReadAnswers m t s bytes (x.read m t s bytes)
  read_keeps m t s bytes (ReadAnswers.refused n _) = ReadAnswers.refused n ((first.read m t s bytes).refused n)
  read_keeps m t s bytes (ReadAnswers.padded e u _) = ReadAnswers.padded e u ((second.read m t s bytes e).pad u)
  read_keeps m t s bytes (ReadAnswers.unsent e p u _) = unsent_keeps m t s bytes e p u
  read_keeps m t s bytes (ReadAnswers.missing_root e i u _) = root_keeps m t s bytes e i u
  read_keeps m t s bytes (ReadAnswers.taken e r _) =
      ReadAnswers.taken e r ((second.read m t s bytes e).some _ (record { codeword = r.codeword; high = refl; unsent = r.unsent }))

  decode_keeps : (c : Call) → Answers c (result_of c) → Answers c (x.decode c)
  decode_keeps c (DecodeAnswers.refused n _) = DecodeAnswers.refused n (refused_as c _ (checks_of c) ((first.decode c).refused n))
  decode_keeps c (DecodeAnswers.nothing e f k) = decodes_as c _ (second.decode c e) e (DecodeAnswers.nothing e f k)
  decode_keeps c (DecodeAnswers.decoded e k) = decodes_as c _ (second.decode c e) e (DecodeAnswers.decoded e k)

  pub contracts_kept : Contracts x
  contracts_kept = record {
    encode = λ m t s message before. encode_keeps m t s message before (encoding_answers m t s message before);
    read = λ m t s bytes. read_keeps m t s bytes (reading_answers m t s bytes);
    decode = λ c. decode_keeps c (result_answers c);
  }

  pub encode_as_ours : (m t s message : ℕ) (before : List ℕ) → x.encode m t s message before ≡ ours.encode m t s message before
  encode_as_ours m t s message before =
      let p = encode_one_answer m t s message before _ _ _ _ (contracts_kept.encode m t s message before)
      (encoding_answers m t s message before) in
      λ i. record { answer = p.0 i; after = p.1 i }

  pub read_as_ours : (m t s : ℕ) (bytes : List ℕ) → x.read m t s bytes ≡ ours.read m t s bytes
  read_as_ours m t s bytes = read_one_answer m t s bytes _ _ (contracts_kept.read m t s bytes) (reading_answers m t s bytes)

  pub decode_as_ours : (c : Call) → x.decode c ≡ ours.decode c
  decode_as_ours c = answers_as_result c (x.decode c) (contracts_kept.decode c)
