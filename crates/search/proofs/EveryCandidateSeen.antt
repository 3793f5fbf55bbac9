-- The words that the search completes, one list for all patterns: its members are exactly the codewords within reach, and each
-- stands there once.
--   apart_from k i v c     at how many of the k ranks from i on c and v differ
--   Reached k i may v c   c is a codeword, agrees with v on the ranks before i and differs in at most `may` of the next k
--   seen k i may v acc    what the search completes, in front of acc
-- Assumes nothing.
use mathlib.Core.Path.{◌≡◌, refl, sym, ap, ap₂, ◌∙◌, subst}
use mathlib.Core.Logic.{◌≢◌, ◌⊎◌, inl, inr, ⊎_elim, by_cases}
use mathlib.Core.Bool.{Bool, true, false, not}
use mathlib.Core.List.{List, ◌∷◌}
use Prim.Native.Nat.{ℕ, zero, suc, ◌+◌, ◌-◌, ◌^◌, ◌<◌, ◌≤◌}
use native.Mathlib.Nat.{eq-or-lt_of_le, le_of_suc-le-suc}
use native.Mathlib.Decide.{dec_lt, ℕ_discrete}
use native.Mathlib.Omega.{arith}
use lib.Dec.{T, eqb, ltb, ltb→lt, lt→ltb}
use Rattle.field.specs.Below.{only}
use Rattle.field.specs.Field.{◌⊕◌, length_of}
use Rattle.field.specs.Laws.{Laws}
use Rattle.field.proofs.TestLaws.{below, ne→not, not_eqb, all_of}
use Rattle.field.proofs.TotalLaws.{only_yes, only_no}
use Rattle.codes.specs.Codeword.{bit_of, RootsFrom}
use Rattle.codes.specs.Lagrange.{AllPlaces, lagrange}
use Rattle.codes.proofs.WordLaws.{bit_lt, flip_other, flip_same}
use Rattle.codes.proofs.LagrangeLaws.{lagrange_at}
use Rattle.codes.proofs.PlacesFixWord.{fits→binary, binary→fits}
use Rattle.codes.proofs.Conjugates.{bit_elem}
use Rattle.soft.specs.Candidate.{Member, NoRepeats}
use Rattle.search.specs.Search.{symbol, binary, completed}

-- two bits that differ from a third are equal
third : (x y z : ℕ) → x < 2 → y < 2 → z < 2 → x ≢ z → y ≢ z → x ≡ y
third x y z hx hy hz a b = by_cases (ℕ_discrete x y) (λ e. e) (λ n. absurd (go x y z hx hy hz a b n))
  where
    go : (x y z : ℕ) → x < 2 → y < 2 → z < 2 → x ≢ z → y ≢ z → x ≢ y → ⊥
    go zero zero z hx hy hz a b n = n refl
    go zero (suc y) zero hx hy hz a b n = a refl
    go zero (suc y) (suc z) hx hy hz a b n = b (omega arith)
    go (suc x) zero zero hx hy hz a b n = b refl
    go (suc x) zero (suc z) hx hy hz a b n = a (omega arith)
    go (suc x) (suc y) z hx hy hz a b n = n (omega arith)

module _ (R : ℕ → ℕ) where
  -- c and v differ at rank i
  abbrev pub apart : ℕ → ℕ → ℕ → ℕ
  apart i v c = only (not (eqb (bit_of c (R i)) (bit_of v (R i)))) 1

  unfoldable pub apart_from : ℕ → ℕ → ℕ → ℕ → ℕ
  apart_from zero i v c = 0
  apart_from (suc k) i v c = apart i v c + apart_from k (suc i) v c

  apart_same : (i v c : ℕ) → bit_of c (R i) ≡ bit_of v (R i) → apart i v c ≡ 0
  apart_same i v c e = only_no (not (eqb (bit_of c (R i)) (bit_of v (R i)))) 1 (λ t. not_eqb (bit_of c (R i)) (bit_of v (R i)) t e)

  apart_other : (i v c : ℕ) → bit_of c (R i) ≢ bit_of v (R i) → apart i v c ≡ 1
  apart_other i v c n = only_yes (not (eqb (bit_of c (R i)) (bit_of v (R i)))) 1 (ne→not (bit_of c (R i)) (bit_of v (R i)) n)

  apart_cong : (k i v u c : ℕ) → ((j : ℕ) → i ≤ j → j < i + k → bit_of v (R j) ≡ bit_of u (R j)) → apart_from k i v c ≡ apart_from k i u c
  unfolding apart_from
  apart_cong zero i v u c h = refl
  apart_cong (suc k) i v u c h =
      ap₂ ◌+◌ (ap (λ (x : ℕ). only (not (eqb (bit_of c (R i)) x)) 1) (h i (omega arith) (omega arith)))
      (apart_cong k (suc i) v u c (λ j a l. h j (omega arith) (omega arith)))

  module _ (m b r : ℕ) where
    pub record Reached (k i may v c : ℕ) : Type 0 where
      pub codeword : RootsFrom m b r c
      pub agrees : (j : ℕ) → j < i → bit_of c (R j) ≡ bit_of v (R j)
      pub few : apart_from k i v c ≤ may

    abbrev pub add_if : Bool → ℕ → List ℕ → List ℕ
    add_if true w acc = w ∷ acc
    add_if false w acc = acc

    unfoldable pub seen : ℕ → ℕ → ℕ → ℕ → List ℕ → List ℕ
    seen zero i may v acc = add_if (binary m b r R v) (completed m b r R v) acc
    seen (suc k) i zero v acc = seen k (suc i) zero v acc
    seen (suc k) i (suc may) v acc = seen k (suc i) may (v ⊕ 2 ^ R i) (seen k (suc i) (suc may) v acc)

    -- a step back: one rank more is before
    agrees_more : (i v c : ℕ) → ((j : ℕ) → j < i → bit_of c (R j) ≡ bit_of v (R j)) → bit_of c (R i) ≡ bit_of v (R i) → (j : ℕ) → j < suc i
        → bit_of c (R j) ≡ bit_of v (R j)
    agrees_more i v c h e j l =
        ⊎_elim (λ q. ap (λ (x : ℕ). bit_of c (R x)) q ∙ e ∙ ap (λ (x : ℕ). bit_of v (R x)) (sym q)) (λ q. h j q)
        (eq-or-lt_of_le (le_of_suc-le-suc l))

    kept→ : (k i may v c : ℕ) → Reached k (suc i) may v c → Reached (suc k) i may v c
    unfolding apart_from
    kept→ k i may v c h = record {
      codeword = h.codeword;
      agrees = λ j l. h.agrees j (omega arith);
      few = omega (arith, apart_same i v c (h.agrees i (omega arith)), h.few);
    }

    kept← : (k i may v c : ℕ) → bit_of c (R i) ≡ bit_of v (R i) → Reached (suc k) i may v c → Reached k (suc i) may v c
    unfolding apart_from
    kept← k i may v c e h = record {
      codeword = h.codeword;
      agrees = agrees_more i v c h.agrees e;
      few = omega (arith, apart_same i v c e, h.few);
    }

    module _ (F : Laws m) (first : b ≤ 1) (ord : AllPlaces m R) (fit : r ≤ length_of m) where
      abbrev K : ℕ
      K = length_of m - r

      far : (i j : ℕ) → i < K → j < K → i ≢ j → R j ≢ R i
      far i j hi hj n e = n (ord.places.apart i j (omega arith) (omega arith) (sym e))

      flip_far : (i j v : ℕ) → i < K → j < K → i ≢ j → bit_of (v ⊕ 2 ^ R i) (R j) ≡ bit_of v (R j)
      flip_far i j v hi hj n = flip_other v (R i) (R j) (far i j hi hj n)

      flipped→ : (k i may v c : ℕ) → i + suc k ≡ K → Reached k (suc i) may (v ⊕ 2 ^ R i) c
          → Reached (suc k) i (suc may) v c × (bit_of c (R i) ≢ bit_of v (R i))
      unfolding apart_from
      flipped→ k i may v c q h = (
        record {
          codeword = h.codeword;
          agrees = λ j l. h.agrees j (omega arith) ∙ flip_far i j v (omega arith) (omega arith) (omega arith);
          few =
              omega (
                arith,
                apart_other i v c off,
                h.few,
                apart_cong k (suc i) (v ⊕ 2 ^ R i) v c
                    (λ j a l. flip_far i j v (omega arith) (omega arith) (omega arith)),
              );
        },
        off,
      )
        where
          off : bit_of c (R i) ≢ bit_of v (R i)
          off e = flip_same v (R i) (sym (h.agrees i (omega arith)) ∙ e)

      flipped← : (k i may v c : ℕ) → i + suc k ≡ K → bit_of c (R i) ≢ bit_of v (R i) → Reached (suc k) i (suc may) v c
          → Reached k (suc i) may (v ⊕ 2 ^ R i) c
      unfolding apart_from
      flipped← k i may v c q n h = record {
        codeword = h.codeword;
        agrees = agrees_more i (v ⊕ 2 ^ R i) c (λ j l. h.agrees j l ∙ sym (flip_far i j v (omega arith) (omega arith) (omega arith)))
            (third (bit_of c (R i)) (bit_of (v ⊕ 2 ^ R i) (R i)) (bit_of v (R i)) (bit_lt c (R i)) (bit_lt (v ⊕ 2 ^ R i) (R i))
            (bit_lt v (R i)) n (flip_same v (R i)));
        few =
            omega (
              arith,
              apart_other i v c n,
              h.few,
              apart_cong k (suc i) (v ⊕ 2 ^ R i) v c
                  (λ j a l. flip_far i j v (omega arith) (omega arith) (omega arith)),
            );
      }

      -- a codeword is what its bits on the reliable ranks complete to, and what they complete to is a codeword
      pub leaf← : (v c : ℕ) → RootsFrom m b r c → ((j : ℕ) → j < K → bit_of c (R j) ≡ bit_of v (R j))
          → T (binary m b r R v) × (c ≡ completed m b r R v)
      unfolding binary completed symbol
      leaf← v c w h =
          let t = fits→binary m F b (1 - b) (omega arith) R K r (λ j. bit_of v (R j)) ord (omega arith) (λ j _. bit_elem m F v (R j)) c
          (w.bits, w.roots, h) in
          (all_of r _ (λ i l. lt→ltb _ 2 (t.0 (R (K + i)) (ord.places.inside (K + i) (omega arith)))), t.1)

      pub leaf→ : (v : ℕ) → T (binary m b r R v)
          → RootsFrom m b r (completed m b r R v) × ((j : ℕ) → j < K → bit_of (completed m b r R v) (R j) ≡ bit_of v (R j))
      unfolding binary completed symbol
      leaf→ v t =
          let u = binary→fits m F b (1 - b) (omega arith) R K r (λ j. bit_of v (R j)) ord (omega arith) (λ j _. bit_elem m F v (R j)) two in
          (record { bits = u.0; roots = u.1 }, u.2)
        where
          two : (p : ℕ) → p < length_of m → lagrange m (1 - b) R K (λ j. bit_of v (R j)) p < 2
          two p hp =
              let a = ord.reached p hp in
              let j = a.0 in
              let hj : j < length_of m = a.1 in
              subst (λ (x : ℕ). lagrange m (1 - b) R K (λ j. bit_of v (R j)) x < 2) (sym a.2)
              (by_cases (dec_lt j K)
              (λ l. subst (λ (x : ℕ). x < 2) (sym (lagrange_at m F (1 - b) R K (λ j. bit_of v (R j))
              (record {
                inside = λ j l. ord.places.inside j (omega arith);
                apart = λ i j hi hj. ord.places.apart i j (omega arith)
                    (omega arith);
              })
              (λ j _. bit_elem m F v (R j)) j l)) (bit_lt v (R j)))
              (λ nl. let e : K + (j - K) ≡ j = omega arith in
              subst (λ (x : ℕ). lagrange m (1 - b) R K (λ j. bit_of v (R j)) (R x) < 2) e
              (ltb→lt _ 2 (below r (λ i. ltb (lagrange m (1 - b) R K (λ j. bit_of v (R j)) (R (K + i))) 2) t (j - K) (omega arith)))))

      added→ : (t : Bool) (w c : ℕ) (acc : List ℕ) → Member c (add_if t w acc) → Member c acc ⊎ (T t × (c ≡ w))
      added→ true w c acc (inl e) = inr (tt, e)
      added→ true w c acc (inr h) = inl h
      added→ false w c acc h = inl h

      added← : (t : Bool) (w c : ℕ) (acc : List ℕ) → Member c acc ⊎ (T t × (c ≡ w)) → Member c (add_if t w acc)
      added← true w c acc (inl h) = inr h
      added← true w c acc (inr h) = inl h.1
      added← false w c acc (inl h) = h
      added← false w c acc (inr h) = absurd h.0

      added_once : (t : Bool) (w : ℕ) (acc : List ℕ) → NoRepeats acc → (T t → Member w acc → ⊥) → NoRepeats (add_if t w acc)
      added_once true w acc o h = (h tt, o)
      added_once false w acc o h = o

      -- what is seen is within reach
      pub seen→ : (k i may v : ℕ) (acc : List ℕ) → i + k ≡ K → (c : ℕ) → Member c (seen k i may v acc) → Member c acc ⊎ Reached k i may v c
      unfolding seen apart_from
      seen→ zero i may v acc q c h =
          ⊎_elim inl (λ t. let u = leaf→ v t.0 in
          inr (subst (λ (x : ℕ). Reached zero i may v x) (sym t.1)
          (record { codeword = u.0; agrees = λ j l. u.1 j (omega arith); few = omega arith })))
          (added→ (binary m b r R v) (completed m b r R v) c acc h)
      seen→ (suc k) i zero v acc q c h = ⊎_elim inl (λ t. inr (kept→ k i zero v c t)) (seen→ k (suc i) zero v acc (omega arith) c h)
      seen→ (suc k) i (suc may) v acc q c h =
          ⊎_elim (λ t. ⊎_elim inl (λ u. inr (kept→ k i (suc may) v c u)) (seen→ k (suc i) (suc may) v acc (omega arith) c t))
          (λ t. inr (flipped→ k i may v c q t).0)
          (seen→ k (suc i) may (v ⊕ 2 ^ R i) (seen k (suc i) (suc may) v acc) (omega arith) c h)

      -- and what is within reach is seen
      pub seen← : (k i may v : ℕ) (acc : List ℕ) → i + k ≡ K → (c : ℕ) → Member c acc ⊎ Reached k i may v c → Member c (seen k i may v acc)
      unfolding seen apart_from
      seen← zero i may v acc q c h =
          added← (binary m b r R v) (completed m b r R v) c acc
          (⊎_elim inl (λ t. inr (leaf← v c t.codeword (λ j l. t.agrees j (omega arith)))) h)
      seen← (suc k) i zero v acc q c h =
          seen← k (suc i) zero v acc (omega arith) c
          (⊎_elim inl (λ t. inr (kept← k i zero v c (by_cases (ℕ_discrete (bit_of c (R i)) (bit_of v (R i))) (λ e. e)
          (λ n. absurd (omega (arith, apart_other i v c n, t.few)))) t)) h)
      seen← (suc k) i (suc may) v acc q c h =
          seen← k (suc i) may (v ⊕ 2 ^ R i) (seen k (suc i) (suc may) v acc) (omega arith) c
          (⊎_elim (λ a. inl (seen← k (suc i) (suc may) v acc (omega arith) c (inl a)))
          (λ t. by_cases (ℕ_discrete (bit_of c (R i)) (bit_of v (R i)))
          (λ e. inl (seen← k (suc i) (suc may) v acc (omega arith) c (inr (kept← k i (suc may) v c e t))))
          (λ n. inr (flipped← k i may v c q n t))) h)

      -- and each word once
      pub seen_once : (k i may v : ℕ) (acc : List ℕ) → i + k ≡ K → NoRepeats acc → ((c : ℕ) → Reached k i may v c → Member c acc → ⊥)
          → NoRepeats (seen k i may v acc)
      unfolding seen apart_from
      seen_once zero i may v acc q o d =
          added_once (binary m b r R v) (completed m b r R v) acc o
          (λ t. let u = leaf→ v t in d (completed m b r R v)
          (record { codeword = u.0; agrees = λ j l. u.1 j (omega arith); few = omega arith }))
      seen_once (suc k) i zero v acc q o d = seen_once k (suc i) zero v acc (omega arith) o (λ c h. d c (kept→ k i zero v c h))
      seen_once (suc k) i (suc may) v acc q o d =
          seen_once k (suc i) may (v ⊕ 2 ^ R i) (seen k (suc i) (suc may) v acc) (omega arith)
          (seen_once k (suc i) (suc may) v acc (omega arith) o (λ c h. d c (kept→ k i (suc may) v c h)))
          (λ c h a. let u = flipped→ k i may v c q h in
          ⊎_elim (λ x. d c u.0 x) (λ x. u.1 (x.agrees i (omega arith))) (seen→ k (suc i) (suc may) v acc (omega arith) c a))
