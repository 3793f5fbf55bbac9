-- The search by the ranks that are flipped, over a word that is prepared, is the search: all the mathematics between the walk over
-- the patterns and the nearest candidate. It ends with rank_search_is. Assumes nothing.
use mathlib.Core.Path.{◌≡◌, refl, sym, ap, ap₂, ◌∙◌, subst}
use mathlib.Core.Logic.{by_cases}
use mathlib.Core.Bool.{Bool, true, false, not}
use mathlib.Core.List.{List}
use Prim.Native.Nat.{ℕ, zero, suc, ◌+◌, ◌-◌, ◌*◌, ◌^◌, ◌<◌, ◌≤◌}
use native.Mathlib.Decide.{dec_lt}
use native.Mathlib.Omega.{arith}
use lib.Dec.{T, eqb, ltb, ltb→lt}
use lib.IntN.{ℤ}
use lib.Pow.{pow-lt}
use Rattle.field.specs.Below.{all, only, total}
use Rattle.field.specs.Field.{◌⊕◌, xor_sum, times, length_of}
use Rattle.field.specs.Laws.{Laws}
use Rattle.field.proofs.TestLaws.{below, all_cong, ne→not, not_eqb}
use Rattle.field.proofs.TotalLaws.{only_yes, only_no, total_cong}
use Rattle.field.proofs.XorLaws.{xor_zero, zero_xor, xor_self, xor_assoc, xor_comm, xor_lt}
use Rattle.field.proofs.XorSumLaws.{xorsum_cong, xorsum_xor}
use Rattle.field.proofs.RingLaws.{xor_over}
use Rattle.codes.specs.Codeword.{bit_of, word_of}
use Rattle.codes.specs.Lagrange.{AllPlaces, cell, lagrange}
use Rattle.codes.proofs.WordLaws.{bit_lt, bit_xor, bit_high, bit_ext, bit_word, word_lt}
use Rattle.soft.specs.Value.{hard, reliability}
use Rattle.soft.specs.Distance.{differs, soft_distance, flips_of}
use Rattle.soft.proofs.OrderLaws.{in_order}
use Rattle.search.specs.Best.{Best, none, better}
use Rattle.search.specs.Search.{weighed, best_over, symbol, binary, completed, see_if, see_pattern, searched}
use Rattle.search.specs.Plan.{Plan, Prepares}
use Rattle.search.specs.ByRank.{xor_bits, sum_bits, rank_symbol, rank_binary, outside, differing, rank_weighed, seen_if, tried}
use Rattle.search.specs.ByRank.{rank_searched}
use Rattle.search.proofs.SearchSteps.{search_same}
use Rattle.search.proofs.SymbolLaws.{cell_lt, bit_product, kept}
use Rattle.search.proofs.BestIsNearest.{hard_lt}
use Rattle.search.proofs.BitSumLaws.{xor_flip, xor_none}
use Rattle.search.proofs.RankBits.{bit_moved_low, bit_moved, outside_bit, spread_at, spread_lt, sum_bits_total, xor_bits_sum}

-- where bits x and h ⊕ x stand, they differ exactly when x is 1
pub apart_by : (h x w : ℕ) → x < 2 → only (not (eqb (h ⊕ x) h)) w ≡ x * w
apart_by h zero w l = only_no (not (eqb (h ⊕ 0) h)) w (λ t. not_eqb (h ⊕ 0) h t (xor_zero h)) ∙ omega arith
apart_by h (suc zero) w l =
    only_yes (not (eqb (h ⊕ 1) h)) w
    (ne→not (h ⊕ 1) h (λ e. let z : ◌≡◌ {A = ℕ} 1 0 = sym (zero_xor 1) ∙ ap (λ (u : ℕ). u ⊕ 1) (sym (xor_self h)) ∙ xor_assoc h h 1
    ∙ ap (λ (u : ℕ). h ⊕ u) e ∙ xor_self h in omega arith))
    ∙ omega arith
apart_by h (suc (suc x)) w l = absurd (omega arith)

module _ (m b r : ℕ) (soft : List ℤ) (p : Plan) (P : Prepares m b r soft p) (F : Laws m) (first : b ≤ 1) (fit : r ≤ length_of m) where
  abbrev n : ℕ
  n = length_of m

  abbrev K : ℕ
  K = length_of m - r

  abbrev R : ℕ → ℕ
  R = p.place

  all_places : AllPlaces m R
  all_places = P.sorted.order

  apart : (i j : ℕ) → i < n → j < n → R i ≡ R j → i ≡ j
  apart = all_places.places.apart

  hard_bit : (i : ℕ) → i < n → bit_of p.hards (R i) ≡ hard soft (R i)
  hard_bit i l =
      ap (λ (u : ℕ). bit_of u (R i)) P.hards ∙ bit_word n (hard soft) (λ q _. hard_lt soft q) (R i) (all_places.places.inside i l)

  hards_lt : p.hards < 2 ^ n
  hards_lt = subst (λ (u : ℕ). u < 2 ^ n) (sym P.hards) (word_lt n (hard soft) (λ q _. hard_lt soft q))

  -- v is the hard decisions with the ranks of f flipped
  record Flipped (v f : ℕ) : Type 0 where
    word : v ≡ p.hards ⊕ xor_bits (λ i. 2 ^ R i) K f
    low : f < 2 ^ K

  flipped_start : Flipped (word_of n (hard soft)) 0
  flipped_start = record {
    word = sym P.hards ∙ sym (xor_zero p.hards) ∙ ap (λ (u : ℕ). p.hards ⊕ u) (sym (xor_none (λ i. 2 ^ R i) K));
    low = lib.Pow.pow_pos K;
  }

  flipped_more : (v f i : ℕ) → i < K → Flipped v f → Flipped (v ⊕ 2 ^ R i) (f ⊕ 2 ^ i)
  flipped_more v f i l h = record {
    word =
        ap (λ (u : ℕ). u ⊕ 2 ^ R i) h.word ∙ xor_assoc p.hards _ (2 ^ R i)
        ∙ ap (λ (u : ℕ). p.hards ⊕ u) (sym (xor_flip (λ i. 2 ^ R i) K f i l));
    low = xor_lt K f (2 ^ i) h.low (pow-lt l);
  }

  module _ (v f : ℕ) (h : Flipped v f) where
    -- at a reliable rank stands its bit of f on top of the hard decision
    flipped_bit : (j : ℕ) → j < K → bit_of v (R j) ≡ bit_of p.hards (R j) ⊕ bit_of f j
    flipped_bit j l =
        ap (λ (u : ℕ). bit_of u (R j)) h.word ∙ bit_xor p.hards _ (R j)
        ∙ ap (λ (u : ℕ). bit_of p.hards (R j) ⊕ u) (spread_at R K f (λ i j a c. apart i j (omega arith) (omega arith)) j l)

    -- a symbol is the unflipped one and a cell for each flip
    symbol_flipped : (q : ℕ) → symbol m b r R v q ≡ symbol m b r R p.hards q ⊕ xor_bits (λ j. cell m (1 - b) R K j q) K f
    unfolding symbol lagrange
    symbol_flipped q =
        xorsum_cong K _ (λ j. times m (bit_of p.hards (R j)) (cell m (1 - b) R K j q) ⊕ bit_of f j * cell m (1 - b) R K j q)
        (λ j l. ap (λ (u : ℕ). times m u (cell m (1 - b) R K j q)) (flipped_bit j l)
        ∙ xor_over m F (bit_of p.hards (R j)) (bit_of f j) (cell m (1 - b) R K j q)
        ∙ ap (λ (u : ℕ). times m (bit_of p.hards (R j)) (cell m (1 - b) R K j q) ⊕ u)
        (bit_product m F b r R (bit_of f j) (bit_lt f j) (cell m (1 - b) R K j q) (cell_lt m F b r R j q)))
        ∙ xorsum_xor K (λ j. times m (bit_of p.hards (R j)) (cell m (1 - b) R K j q)) (λ j. bit_of f j * cell m (1 - b) R K j q)
        ∙ ap (λ (u : ℕ). xor_sum K (λ j. times m (bit_of p.hards (R j)) (cell m (1 - b) R K j q)) ⊕ u)
        (sym (xor_bits_sum (λ j. cell m (1 - b) R K j q) K f))

    row_symbol : (q : ℕ) → q < r → symbol m b r R v (R (K + q)) ≡ rank_symbol p f q
    unfolding rank_symbol
    row_symbol q l =
        symbol_flipped (R (K + q))
        ∙ ap₂ ◌⊕◌ (sym (P.base q l))
        (xor_bits_sum _ K f ∙ xorsum_cong K _ _ (λ j k. ap (λ (u : ℕ). bit_of f j * u) (sym (P.column q j l k)))
        ∙ sym (xor_bits_sum (p.column q) K f)
        ∙ ap (λ (u : ℕ). xor_bits (p.column q) u f) (sym P.size))

    same_binary : binary m b r R v ≡ rank_binary p f
    unfolding binary rank_binary
    same_binary =
        all_cong r _ _ (λ q l. ap (λ (u : ℕ). ltb u 2) (row_symbol q l))
        ∙ ap (λ (u : ℕ). all u (λ q. ltb (rank_symbol p f q) 2)) (sym P.rows)

    module _ (t : T (rank_binary p f)) where
      abbrev g : ℕ
      g = differing p f

      small : (q : ℕ) → q < r → rank_symbol p f q < 2
      unfolding rank_binary
      small q l = ltb→lt _ 2 (below p.rows (λ q. ltb (rank_symbol p f q) 2) t q (subst (λ (u : ℕ). q < u) (sym P.rows) l))

      parts : g ≡ f ⊕ (outside (rank_symbol p f) r ⊕ p.sides) * 2 ^ K
      unfolding differing
      parts = ap₂ (λ (u w : ℕ). f ⊕ (outside (rank_symbol p f) u ⊕ p.sides) * 2 ^ w) P.rows P.size

      ranks_low : (j : ℕ) → j < K → bit_of g j ≡ bit_of f j
      ranks_low j l =
          ap (λ (u : ℕ). bit_of u j) parts ∙ bit_xor f _ j ∙ ap (λ (u : ℕ). bit_of f j ⊕ u) (bit_moved_low K _ j l) ∙ xor_zero (bit_of f j)

      side_bit : (q : ℕ) → q < r → bit_of p.sides q ≡ hard soft (R (K + q))
      side_bit q l = ap (λ (u : ℕ). bit_of u q) P.sides ∙ bit_word r (λ q. hard soft (R (K + q))) (λ q _. hard_lt soft (R (K + q))) q l

      ranks_high : (q : ℕ) → q < r → bit_of g (K + q) ≡ rank_symbol p f q ⊕ hard soft (R (K + q))
      ranks_high q l =
          ap (λ (u : ℕ). bit_of u (K + q)) parts ∙ bit_xor f _ (K + q)
          ∙ ap₂ ◌⊕◌ (bit_high f K (K + q) h.low (omega arith)) (bit_moved K _ q ∙ bit_xor (outside (rank_symbol p f) r) p.sides q
          ∙ ap₂ ◌⊕◌ (outside_bit (rank_symbol p f) r small q l) (side_bit q l))
          ∙ zero_xor _

      whole : p.size + p.rows ≡ n
      whole = ap₂ ◌+◌ P.size P.rows ∙ omega arith

      abbrev W : ℕ
      W = (rank_weighed p g).word

      word_is : W ≡ p.hards ⊕ xor_bits (λ i. 2 ^ R i) n g
      unfolding rank_weighed
      word_is = ap (λ (u : ℕ). p.hards ⊕ xor_bits (λ i. 2 ^ R i) u g) whole

      word_bit : (i : ℕ) → i < n → bit_of W (R i) ≡ hard soft (R i) ⊕ bit_of g i
      word_bit i l =
          ap (λ (u : ℕ). bit_of u (R i)) word_is ∙ bit_xor p.hards _ (R i) ∙ ap₂ ◌⊕◌ (hard_bit i l) (spread_at R n g apart i l)

      -- every symbol is the word's bit there
      symbol_bit : (i : ℕ) → i < n → symbol m b r R v (R i) ≡ bit_of W (R i)
      symbol_bit i l =
          by_cases (dec_lt i K)
          (λ a. kept m F b r R all_places fit v i a ∙ flipped_bit i a ∙ ap₂ ◌⊕◌ (hard_bit i l) (sym (ranks_low i a)) ∙ sym (word_bit i l))
          (λ a. let e : i ≡ K + (i - K) = omega arith in
          subst (λ (x : ℕ). symbol m b r R v (R x) ≡ bit_of W (R x)) (sym e)
          (row_symbol (i - K) (omega arith)
          ∙ sym (word_bit (K + (i - K)) (omega arith)
          ∙ ap (λ (u : ℕ). hard soft (R (K + (i - K))) ⊕ u) (ranks_high (i - K) (omega arith) ∙ xor_comm _ _)
          ∙ sym (xor_assoc (hard soft (R (K + (i - K)))) _ _) ∙ ap (λ (u : ℕ). u ⊕ rank_symbol p f (i - K)) (xor_self _) ∙ zero_xor _)))

      symbol_at : (q : ℕ) → q < n → symbol m b r R v q ≡ bit_of W q
      symbol_at q l =
          let a = all_places.reached q l in subst (λ (x : ℕ). symbol m b r R v x ≡ bit_of W x) (sym a.2) (symbol_bit a.0 a.1)

      word_lt_n : W < 2 ^ n
      word_lt_n =
          subst (λ (u : ℕ). u < 2 ^ n) (sym word_is) (xor_lt n p.hards _ hards_lt (spread_lt R n n g all_places.places.inside))

      symbol_two : (q : ℕ) → q < n → symbol m b r R v q < 2
      symbol_two q l = subst (λ (u : ℕ). u < 2) (sym (symbol_at q l)) (bit_lt W q)

      completed_is : completed m b r R v ≡ W
      unfolding completed
      completed_is =
          bit_ext (word_of n (symbol m b r R v)) W n (word_lt n (symbol m b r R v) symbol_two) word_lt_n
          (λ q l. bit_word n (symbol m b r R v) symbol_two q l ∙ symbol_at q l)

      -- a sum over the positions where W differs, by ranks
      by_ranks : (G : ℕ → ℕ) → total n (λ q. only (differs soft W q) (G q)) ≡ total n (λ i. bit_of g i * G (R i))
      unfolding differs
      by_ranks G =
          in_order m soft R P.sorted (λ q. only (differs soft W q) (G q))
          ∙ total_cong n _ _ (λ i l. ap (λ (u : ℕ). only (not (eqb u (hard soft (R i)))) (G (R i))) (word_bit i l)
          ∙ apart_by (hard soft (R i)) (bit_of g i) (G (R i)) (bit_lt g i))

      distance_is : soft_distance m soft W ≡ (rank_weighed p g).distance
      unfolding soft_distance rank_weighed
      distance_is =
          by_ranks (reliability soft) ∙ total_cong n _ _ (λ i l. ap (λ (u : ℕ). bit_of g i * u) (sym (P.weight i l)))
          ∙ sym (sum_bits_total p.weight n g) ∙ ap (λ (u : ℕ). sum_bits p.weight u g) (sym whole)

      flips_is : flips_of m soft W ≡ (rank_weighed p g).flips
      unfolding flips_of rank_weighed
      flips_is = by_ranks (λ q. 1) ∙ sym (sum_bits_total (λ i. 1) n g) ∙ ap (λ (u : ℕ). sum_bits (λ i. 1) u g) (sym whole)

      weighed_is : weighed m soft (completed m b r R v) ≡ rank_weighed p g
      weighed_is = ap (weighed m soft) completed_is ∙ (λ i. record { word = W; distance = distance_is i; flips = flips_is i })

    see_same : (t : Bool) (x : Best) → (T t → weighed m soft (completed m b r R v) ≡ rank_weighed p (differing p f))
        → see_if m b r R soft t v x ≡ seen_if t x (rank_weighed p (differing p f))
    see_same true x e = ap (better x) (e tt)
    see_same false x e = refl

    pattern_same : (x : Best) → see_pattern m b r R soft v x ≡ tried p f x
    unfolding tried
    pattern_same x = ap (λ (t : Bool). see_if m b r R soft t v x) same_binary ∙ see_same (rank_binary p f) x weighed_is

  -- the search by ranks is the search
  pub rank_search_is : (tau : ℕ) → rank_searched p tau ≡ searched m b r p.place soft tau
  unfolding rank_searched searched
  rank_search_is tau =
      ap (λ (k : ℕ). best_over (λ i. i) (tried p) k 0 tau 0 none) P.size
      ∙ sym (search_same K R (λ i. i) (see_pattern m b r R soft) (tried p) Flipped (λ v f x h. pattern_same v f h x) flipped_more K 0 tau
      (word_of n (hard soft)) 0 none (omega arith) flipped_start)
