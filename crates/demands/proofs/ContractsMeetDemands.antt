-- Whatever keeps the contracts of the three calls meets demands 1 and 2; ours keep them. Assumes nothing.
use mathlib.Core.Path.{◌≡◌, sym, ap, ◌∙◌, subst}
use mathlib.Core.Logic.{inl, inr}
use mathlib.Core.List.{List}
use Prim.Native.Nat.{ℕ, ◌-◌, ◌*◌}
use native.Mathlib.Omega.{arith}
use lib.ListN.{length}
use Rattle.field.specs.Field.{length_of}
use Rattle.field.specs.Lowest.{Lowest}
use Rattle.field.proofs.LowestLaws.{lowest_most}
use Rattle.codes.specs.Codeword.{bit_of, value_at}
use Rattle.codes.proofs.WordLaws.{bit_lt}
use Rattle.codes.proofs.SystematicWord.{codeword_high}
use Rattle.soft.specs.Candidate.{Candidate}
use Rattle.words.specs.Packing.{word_in}
use Rattle.frame.specs.Refusal.{encode_refusal, read_refusal}
use Rattle.frame.proofs.RefusalLaws.{encode_known}
use Rattle.codec.specs.Encode.{EncodeAnswers, refused, encoded}
use Rattle.codec.specs.Read.{ReadAnswers}
use Rattle.codec.specs.GivenBack.{says, fault_at, Encoding}
use Rattle.codec.specs.declared.Reading.{Reading}
use Rattle.codec.proofs.RoundTrip.{encode_then_read}
use Rattle.codec.proofs.CalledLaws.{encoding_answers, reading_answers}
use Rattle.decode.specs.Decode.{Refused, DecodeAnswers}
use Rattle.decode.specs.Call.{Call, Result, checks_of, refused_with}
use Rattle.decode.proofs.CalledLaws.{result_answers}
use Rattle.demands.specs.Calls.{Calls}
use Rattle.demands.specs.CallContracts.{Contracts}
use Rattle.demands.specs.Demand1.{EncodeFixed, ReadFixed, DecodeFixed, Demand1}
use Rattle.demands.specs.Decodes.{Among, Decodes}
use Rattle.demands.specs.Demand2.{Encodes, Reads, Demand2}
use Rattle.demands.specs.Ours.{ours}
use Rattle.demands.proofs.SaysWhereShown.{is_taken, is_padded, is_unsent, is_missing_root, unsent_lowest, root_lowest}

module _ (m t s message : ℕ) (before : List ℕ) (y : Encoding) where
  encode_fixed : EncodeAnswers m t s message before y.answer y.after → EncodeFixed m t s message before y
  encode_fixed (refused n h k) = record { refused = λ _ i. record { answer = h i; after = k i }; passed = λ e. absurd (n e) }
  encode_fixed (encoded e h u) = record { refused = λ n. absurd (n e); passed = λ _. h }

  encode_encodes : encode_refusal m t s message (length before) ≡ 0 → EncodeAnswers m t s message before y.answer y.after
      → Encodes m t s message before y
  encode_encodes e (refused n _ _) = absurd (n e)
  encode_encodes e (encoded _ h u) = record {
    word = u.word;
    of = record { codeword = u.codeword; high = u.high; unsent = u.unsent };
    one =
        λ v k. codeword_high m t (encode_known m t s message (length before) e) v u.word k.codeword u.codeword
        (k.high ∙ sym u.high);
    gives = λ i. record { answer = h i; after = u.writes i };
  }

module _ (m t s : ℕ) (bytes : List ℕ) (y : Reading) where
  -- the place that a refusal gives is the answer's own
  at_fault : (N p : ℕ) → y ≡ fault_at N p → y ≡ fault_at N y.at
  at_fault N p h = h ∙ ap (fault_at N) (sym (ap (λ (z : Reading). z.at) h))

  at_place : (P : ℕ → Type 0) (N p : ℕ) → y ≡ fault_at N p → P p → P y.at
  at_place P N p h = subst P (sym (ap (λ (z : Reading). z.at) h))

  read_fixed : ReadAnswers m t s bytes y → ReadFixed m t s bytes y
  read_fixed (ReadAnswers.refused n h) = record { refused = λ _. h; passed = λ e. absurd (n e) }
  read_fixed (ReadAnswers.padded e f h) = record { refused = λ n. absurd (n e); passed = λ _. inr (inl h) }
  read_fixed (ReadAnswers.unsent e p f h) = record { refused = λ n. absurd (n e); passed = λ _. inr (inr (inl (at_fault 9 p h))) }
  read_fixed (ReadAnswers.missing_root e p f h) = record { refused = λ n. absurd (n e); passed = λ _. inr (inr (inr (at_fault 10 p h))) }
  read_fixed (ReadAnswers.taken e r h) = record { refused = λ n. absurd (n e); passed = λ _. inl (ap (λ (z : Reading). z.refusal) h) }

  -- a word with a fault has a lowest, and that is read's only answer (proofs/SaysWhereShown)
  read_reads : read_refusal m t s (length bytes) ≡ 0 → ReadAnswers m t s bytes y → Reads m t s bytes y
  read_reads e a = record {
    some = λ message k. is_taken m t s bytes y e a (record { codeword = k.codeword; unsent = k.unsent }) ∙ ap (says 0) k.high;
    pad = is_padded m t s bytes y e a;
    unsent = λ z p l h o.
        let k = unsent_lowest m t s bytes e z p l h o in
        let q = is_unsent m t s bytes y e a _ k in
        let u = at_place (Lowest (length_of m - s) s (bit_of (word_in m bytes))) 9 _ q k.lowest in
        let some = u.nonzero in (
          at_fault 9 _ q,
          u.low,
          omega (arith, bit_lt (word_in m bytes) y.at),
          omega (arith, lowest_most (bit_of (word_in m bytes)) (length_of m - s) s y.at u p l (λ f. omega arith)),
        );
    root = λ z i l h n.
        let k = root_lowest m t s bytes z i l h n in
        let q = is_missing_root m t s bytes y e a _ k in
        let u = at_place (Lowest 1 (2 * t) (value_at m (bit_of (word_in m bytes)))) 10 _ q k.lowest in (
          at_fault 10 _ q,
          u.low,
          u.nonzero,
          omega (arith, lowest_most (value_at m (bit_of (word_in m bytes))) 1 (2 * t) y.at u i l n),
        );
  }

module _ (c : Call) where
  pub candidate_among : (w : ℕ) → Candidate c.m 1 (2 * c.t) c.order c.soft w → Among c w
  candidate_among w h = record { codeword = h.codeword; near = h.near }

  pub among_candidate : (w : ℕ) → Among c w → Candidate c.m 1 (2 * c.t) c.order c.soft w
  among_candidate w h = record { codeword = h.codeword; near = h.near }

  module _ (y : Result) where
    refused_whole : (N : ℕ) → Refused N c.before y.answer y.after → y ≡ refused_with N c
    refused_whole N k = λ i. record { answer = k.says i; after = k.keeps i }

    decode_fixed : DecodeAnswers c.m c.t c.s c.order c.soft c.before y.answer y.after → DecodeFixed c y
    decode_fixed (DecodeAnswers.refused n k) = record { refused = λ _. refused_whole _ k; passed = λ e. absurd (n e) }
    decode_fixed (DecodeAnswers.nothing e f k) = record { refused = λ n. absurd (n e); passed = λ _. inr (refused_whole 6 k) }
    decode_fixed (DecodeAnswers.decoded e k) = record { refused = λ n. absurd (n e); passed = λ _. inl k.refusal }

    decode_decodes : checks_of c ≡ 0 → DecodeAnswers c.m c.t c.s c.order c.soft c.before y.answer y.after
        → Decodes c y
    decode_decodes e (DecodeAnswers.refused n k) = absurd (n e)
    decode_decodes e (DecodeAnswers.nothing _ f k) = record {
      none = λ _. refused_whole 6 k;
      some = λ w h. absurd (f w (among_candidate w h));
    }
    decode_decodes e (DecodeAnswers.decoded _ k) = record {
      none = λ n. absurd (n k.word (candidate_among k.word k.nearest.candidate));
      some = λ _ _. (
        k.word,
        record {
          among = candidate_among k.word k.nearest.candidate;
          least = λ v h. k.nearest.least v (among_candidate v h);
          lowest = λ v h e. omega (arith, k.nearest.lowest v (among_candidate v h) e);
        },
        record {
          bits = k.nearest.candidate.codeword.bits;
          refusal = k.refusal;
          distance = k.distance;
          flips = k.flips;
          writes =
              k.writes;
        },
        record {
          list = k.candidates.list;
          once = k.candidates.once;
          members = λ w. (λ h. candidate_among w ((k.candidates.members w).0 h), λ h. (k.candidates.members w).1 (among_candidate w h));
          number = k.candidates.number;
        },
      );
    }

module _ (x : Calls) (h : Contracts x) where
  pub meets_first : Demand1 x
  meets_first = record {
    encode = λ m t s message before. encode_fixed m t s message before _ (h.encode m t s message before);
    read = λ m t s bytes. read_fixed m t s bytes _ (h.read m t s bytes);
    decode = λ c. decode_fixed c _ (h.decode c);
  }

  -- "and the reader brings it back"
  brings_back : (m t s message : ℕ) (before : List ℕ) → encode_refusal m t s message (length before) ≡ 0
      → x.read m t s (x.encode m t s message before).after ≡ says 0 message
  brings_back m t s message before e =
      encode_then_read m t s message before (x.encode m t s message before).after _
      (subst (λ (a : ℕ). EncodeAnswers m t s message before a (x.encode m t s message before).after)
      ((meets_first.encode m t s message before).passed e) (h.encode m t s message before))
      (h.read m t s (x.encode m t s message before).after)

  pub meets_second : Demand2 x
  meets_second = record {
    encode = λ m t s message before e. encode_encodes m t s message before _ e (h.encode m t s message before);
    read = λ m t s bytes e. read_reads m t s bytes _ e (h.read m t s bytes);
    back = brings_back;
    decode = λ c e. decode_decodes c _ e (h.decode c);
  }

-- and ours keep the contracts
pub ours_answer : Contracts ours
ours_answer = record { encode = encoding_answers; read = reading_answers; decode = result_answers }
