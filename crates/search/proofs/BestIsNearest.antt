-- The search gives the nearest candidate, the lowest among equals, and the number of candidates; and it finds nothing exactly
-- when there is none. Assumes nothing.
use mathlib.Core.Path.{◌≡◌, refl, sym, ap, ap₂, ◌∙◌, subst}
use mathlib.Core.Logic.{◌↔◌, ◌⊎◌, inl, inr, ⊎_elim, by_cases}
use mathlib.Core.Bool.{Bool, true, false, not, ◌&&◌, ◌||◌}
use mathlib.Core.List.{List, [], ◌∷◌}
use Prim.Native.Nat.{ℕ, zero, suc, ◌+◌, ◌-◌, ◌^◌, ◌<◌, ◌≤◌}
use native.Mathlib.Nat.{le_refl, suc-add, add-suc}
use native.Mathlib.Decide.{dec_lt}
use native.Mathlib.Omega.{arith}
use lib.Dec.{T, eqb, ltb, ltb→lt, lt→ltb}
use lib.IntN.{ℤ, pos, negsuc}
use lib.ListN.{length}
use Rattle.field.specs.Below.{only, total}
use Rattle.field.specs.Field.{◌⊕◌, length_of}
use Rattle.field.specs.Laws.{Laws}
use Rattle.field.proofs.TestLaws.{and_left, and_right, is_true, is_false, lex_says, and_both}
use Rattle.field.proofs.TotalLaws.{total_cong, total_zero, total_head, total_split}
use Rattle.codes.specs.Codeword.{bit_of, word_of}
use Rattle.codes.proofs.WordLaws.{bit_word}
use Rattle.soft.specs.Value.{soft_at, hard_of, hard}
use Rattle.soft.specs.Order.{reliable}
use Rattle.soft.specs.Sorted.{Sorted}
use Rattle.soft.specs.Distance.{differs, soft_distance, flips_of, reliable_flips}
use Rattle.soft.proofs.OrderLaws.{in_order, reliable_at}
use Rattle.soft.specs.Candidate.{Candidate, Nearest, Counted, Member}
use Rattle.search.specs.Best.{Best, none, pick, stays, better}
use Rattle.search.specs.Search.{weighed, see_if, see_pattern, best_over, searched, binary, completed}
use Rattle.search.proofs.EveryCandidateSeen.{apart, apart_from, Reached, add_if, seen, seen→, seen←, seen_once}

-- what a best says of the list of words that were seen
module _ (m : ℕ) (soft : List ℤ) where
  abbrev far : ℕ → ℕ
  far w = soft_distance m soft w

  pub record Leads (l : List ℕ) (x : Best) : Type 0 where
    pub member : Member x.word l
    pub distance : x.distance ≡ far x.word
    pub flips : x.flips ≡ flips_of m soft x.word
    pub least : (v : ℕ) → Member v l → far x.word ≤ far v
    pub lowest : (v : ℕ) → Member v l → far v ≡ far x.word → x.word ≤ v

  pub record Holds (l : List ℕ) (x : Best) : Type 0 where
    pub number : x.count ≡ length l
    pub leads : T x.found → Leads l x
    pub any : (v : ℕ) → Member v l → T x.found

  nearer : Best → ℕ → Bool
  nearer x w = ltb x.distance (far w) || (eqb x.distance (far w) && ltb x.word w)

  nearer_says : (x : Best) (w : ℕ) → T (nearer x w) ↔ ((x.distance < far w) ⊎ ((x.distance ≡ far w) × (x.word < w)))
  unfolding nearer
  nearer_says x w = lex_says x.distance (far w) x.word w

  nearer_no : (x : Best) (w : ℕ) → (T (nearer x w) → ⊥) → (far w < x.distance) ⊎ ((far w ≡ x.distance) × (w ≤ x.word))
  nearer_no x w n =
      by_cases (dec_lt (far w) x.distance) inl
      (λ a. by_cases (dec_lt x.distance (far w)) (λ l. absurd (n ((nearer_says x w).1 (inl l))))
      (λ b. let e : far w ≡ x.distance = omega arith in
      inr (e, by_cases (dec_lt x.word w) (λ l. absurd (n ((nearer_says x w).1 (inr (sym e, l))))) (λ c. omega arith))))

  -- one word more
  module _ (l : List ℕ) (x : Best) (w : ℕ) (H : Holds l x) where
    keeps : T x.found → T (nearer x w)
        → Holds (w ∷ l) (record { found = true; word = x.word; distance = x.distance; flips = x.flips; count = x.count + 1 })
    keeps f t =
        let L = H.leads f in
        let d : x.distance ≡ far x.word = L.distance in
        record {
          number = omega (arith, H.number);
          leads = λ _. record {
            member = inr L.member;
            distance = d;
            flips = L.flips;
            least =
                λ v. ⊎_elim (λ e. subst (λ (u : ℕ). far x.word ≤ far u) (sym e)
                (⊎_elim (λ a. omega arith) (λ a. omega arith) ((nearer_says x w).0 t))) (L.least v);
            lowest =
                λ v. ⊎_elim (λ e q. let q' : far w ≡ far x.word = ap far (sym e)
                ∙ q in ⊎_elim (λ a. omega arith) (λ a. omega arith) ((nearer_says x w).0 t)) (L.lowest v);
          };
          any = λ v _. tt;
        }

    gives_way : (T x.found → T (nearer x w) → ⊥)
        → Holds (w ∷ l) (record { found = true; word = w; distance = far w; flips = flips_of m soft w; count = x.count + 1 })
    gives_way n = record {
      number = omega (arith, H.number);
      leads = λ _. record {
        member = inl refl;
        distance = refl;
        flips = refl;
        least = λ v. ⊎_elim (λ e. subst (λ (u : ℕ). far w ≤ far u) (sym e) (le_refl (far w))) (λ h.
            let f = H.any v h in
            let L = H.leads f in
            let d : x.distance ≡ far x.word = L.distance in
            let a : far x.word ≤ far v = L.least v h in
            ⊎_elim (λ c. omega arith) (λ c. omega arith) (nearer_no x w (n f)));
        lowest = λ v. ⊎_elim (λ e q. omega arith) (λ h q.
            let f = H.any v h in
            let L = H.leads f in
            let d : x.distance ≡ far x.word = L.distance in
            let a : far x.word ≤ far v = L.least v h in
            ⊎_elim (λ c. absurd (omega arith)) (λ c. let z : far v ≡ far x.word = omega arith in let y = L.lowest v h z in omega arith)
            (nearer_no x w (n f)));
      };
      any = λ v _. tt;
    }

    pub see_holds : Holds (w ∷ l) (better x (weighed m soft w))
    unfolding better stays nearer
    see_holds = go (x.found && nearer x w) refl
      where
        go : (t : Bool) → (x.found && nearer x w) ≡ t
            → Holds (w ∷ l) (pick t (record
            { found = true; word = x.word; distance = x.distance; flips = x.flips; count = x.count + 1 })
            (record { found = true; word = w; distance = far w; flips = flips_of m soft w; count = x.count + 1 }))
        go true e =
            let t : T (x.found && nearer x w) = subst T (sym e) tt in
            keeps (and_left x.found (nearer x w) t) (and_right x.found (nearer x w) t)
        go false e = gives_way (λ f t. subst T e (and_both x.found (nearer x w) f t))

  pub none_holds : Holds [] none
  none_holds = record { number = refl; leads = λ t. absurd t; any = λ v h. absurd h }

  module _ (b r : ℕ) (R : ℕ → ℕ) where
    add_holds : (t : Bool) (v : ℕ) (acc : List ℕ) (x : Best) → Holds acc x
        → Holds (add_if R m b r t (completed m b r R v) acc) (see_if m b r R soft t v x)
    add_holds true v acc x H = see_holds acc x (completed m b r R v) H
    add_holds false v acc x H = H

    -- the search is right of the words that it completes
    pub search_holds : (k i may v : ℕ) (acc : List ℕ) (x : Best) → Holds acc x
        → Holds (seen R m b r k i may v acc) (best_over R (see_pattern m b r R soft) k i may v x)
    unfolding seen best_over
    search_holds zero i may v acc x H = add_holds (binary m b r R v) v acc x H
    search_holds (suc k) i zero v acc x H = search_holds k (suc i) zero v acc x H
    search_holds (suc k) i (suc may) v acc x H =
        search_holds k (suc i) may (v ⊕ 2 ^ R i) (seen R m b r k (suc i) (suc may) v acc)
        (best_over R (see_pattern m b r R soft) k (suc i) (suc may) v x)
        (search_holds k (suc i) (suc may) v acc x H)

hard_of_lt : (z : ℤ) → hard_of z < 2
hard_of_lt (pos x) = omega arith
hard_of_lt (negsuc x) = omega arith

pub hard_lt : (soft : List ℤ) (p : ℕ) → hard soft p < 2
unfolding hard
hard_lt soft p = hard_of_lt (soft_at soft p)

-- the differences by rank are those on the reliable set
pub apart_total : (R : ℕ → ℕ) (k i v c : ℕ) → apart_from R k i v c ≡ total k (λ j. apart R (i + j) v c)
unfolding apart_from
apart_total R zero i v c = sym (total_zero 0 (λ j. apart R (i + j) v c) (λ p l. absurd (omega arith)))
apart_total R (suc k) i v c =
    let e : i + 0 ≡ i = omega arith in
    ap₂ ◌+◌ (ap (λ (x : ℕ). apart R x v c) (sym e))
    (apart_total R k (suc i) v c ∙ total_cong k _ _ (λ j _. ap (λ (x : ℕ). apart R x v c) (suc-add i j ∙ sym (add-suc i j))))
    ∙ sym (total_head k (λ j. apart R (i + j) v c))

module _ (m b r : ℕ) (soft : List ℤ) (R : ℕ → ℕ) (S : Sorted m soft R) (fit : r ≤ length_of m) where
  abbrev K : ℕ
  K = length_of m - r

  abbrev received : ℕ
  received = word_of (length_of m) (hard soft)

  pub flips_by_rank : (c : ℕ) → apart_from R K 0 received c ≡ reliable_flips m r soft c
  unfolding reliable_flips differs
  flips_by_rank c =
      apart_total R K 0 received c
      ∙ total_cong K _ (λ i. g (R i)) (λ i l. let e : 0 + i ≡ i = omega arith in
      ap (λ (x : ℕ). apart R x received c) e
      ∙ ap (λ (x : ℕ). only (not (eqb (bit_of c (R i)) x)) 1)
      (bit_word (length_of m) (hard soft) (λ p _. hard_lt soft p) (R i) (S.order.places.inside i (omega arith)))
      ∙ ap (λ (x : Bool). only (x && not (eqb (bit_of c (R i)) (hard soft (R i)))) 1)
      (sym (reliable_at m soft R S r i (omega arith) ∙ is_true (ltb i K) (lt→ltb i K l))))
      ∙ sym (in_order m soft R S g ∙ ap (λ (x : ℕ). total x (λ i. g (R i))) full ∙ total_split K r (λ i. g (R i))
      ∙ ap (λ (x : ℕ). total K (λ i. g (R i)) + x) (total_zero r (λ i. g (R (K + i))) (λ i l.
      ap (λ (x : Bool). only (x && not (eqb (bit_of c (R (K + i))) (hard soft (R (K + i))))) 1)
      (reliable_at m soft R S r (K + i) (omega arith) ∙ is_false (ltb (K + i) K) (λ t. let q = ltb→lt (K + i) K t in omega arith))))
      ∙ zeros)
    where
      g : ℕ → ℕ
      g p = only (reliable m r soft p && not (eqb (bit_of c p) (hard soft p))) 1

      full : length_of m ≡ K + r
      full = omega arith

      zeros : total K (λ i. g (R i)) + 0 ≡ total K (λ i. g (R i))
      zeros = omega arith

  module _ (F : Laws m) (first : b ≤ 1) (tau : ℕ) where
    reached→ : (c : ℕ) → Reached R m b r K 0 tau received c → Candidate m b r tau soft c
    reached→ c h = record { codeword = h.codeword; near = subst (λ (x : ℕ). x ≤ tau) (flips_by_rank c) h.few }

    reached← : (c : ℕ) → Candidate m b r tau soft c → Reached R m b r K 0 tau received c
    reached← c h = record {
      codeword = h.codeword;
      agrees = λ j l. absurd (omega arith);
      few = subst (λ (x : ℕ). x ≤ tau)
          (sym (flips_by_rank c)) h.near;
    }

    -- all the candidates, each once
    pub candidates : List ℕ
    candidates = seen R m b r K 0 tau received []

    pub candidates_say : (c : ℕ) → Member c candidates ↔ Candidate m b r tau soft c
    unfolding candidates
    candidates_say c = (
      λ h. ⊎_elim (λ x. absurd x) (reached→ c) (seen→ R m b r F first S.order fit K 0 tau received [] (omega arith) c h),
      λ h. seen← R m b r F first S.order fit K 0 tau received [] (omega arith) c (inr (reached← c h)),
    )

    candidates_hold : Holds m soft candidates (searched m b r R soft tau)
    unfolding candidates searched
    candidates_hold = search_holds m soft b r R K 0 tau received [] none (none_holds m soft)

    pub search_counts : Counted m b r tau soft (searched m b r R soft tau).count
    unfolding candidates
    search_counts = record {
      list = candidates;
      once = seen_once R m b r F first S.order fit K 0 tau received [] (omega arith) tt (λ c h x. x);
      members = candidates_say;
      number = sym candidates_hold.number;
    }

    pub search_nearest : T (searched m b r R soft tau).found → Nearest m b r tau soft (searched m b r R soft tau).word
    search_nearest t =
        let L = candidates_hold.leads t in
        record {
          candidate = (candidates_say _).0 L.member;
          least = λ v h. L.least v ((candidates_say v).1 h);
          lowest = λ v h. L.lowest v ((candidates_say v).1 h);
        }

    pub search_distance : T (searched m b r R soft tau).found
        → (searched m b r R soft tau).distance ≡ soft_distance m soft (searched m b r R soft tau).word
    search_distance t = (candidates_hold.leads t).distance

    pub search_flips : T (searched m b r R soft tau).found
        → (searched m b r R soft tau).flips ≡ flips_of m soft (searched m b r R soft tau).word
    search_flips t = (candidates_hold.leads t).flips

    pub search_finds : (c : ℕ) → Candidate m b r tau soft c → T (searched m b r R soft tau).found
    search_finds c h = candidates_hold.any c ((candidates_say c).1 h)
