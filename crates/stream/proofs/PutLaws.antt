-- AnswersLine one behind the other in the output. Assumes nothing.
use mathlib.Core.Path.{◌≡◌, ap, ap₂, sym, ◌∙◌}
use mathlib.Core.List.{List, ◌++◌, append_assoc}
use Prim.Native.Nat.{ℕ, ◌+◌, ◌≤◌}
use native.Mathlib.Omega.{arith}
use lib.ListN.{length, take, drop, length-append, take-append-drop}
use lib.Seq.{length-take-le, take_at, drop_at, drop-drop, drop-append-le}
use borrow.Rule.Slice.PartMut.{put_mid}
use Rattle.output_lines.specs.Put.{Put}
use Rattle.stream.specs.Stepped.{Prints}

pub put_within : (answer before : List ℕ) (n : ℕ) (after : List ℕ) → Put answer before n after → n ≤ length after
put_within answer before n after p = omega (arith, p.size, ap length p.holds, length-append answer (drop n before))

pub put_prints : (answer before : List ℕ) (n : ℕ) (after : List ℕ) → Put answer before n after → Prints answer before n after
put_prints answer before n after p =
    let l = put_within answer before n after p in
    record { writes = p; within = l; counted = sym (length-take-le n after l) }

-- an answer behind what is written, in the k bytes of the output that follow
pub put_after : (a b before out piece : List ℕ) (wrote n k : ℕ) → Put a before wrote out → Put b (take k (drop wrote out)) n piece
    → length piece ≡ length (take k (drop wrote out)) → Put (a ++ b) before (wrote + n) (put_mid wrote k out piece)
put_after a b before out piece wrote n k p q same =
    let front : take wrote out ≡ a = ap (take wrote) p.holds ∙ take_at a (drop wrote before) wrote (sym p.size) in
    let back : drop wrote out ≡ drop wrote before = ap (drop wrote) p.holds ∙ drop_at a (drop wrote before) wrote (sym p.size) in
    let fits : n ≤ length (take k (drop wrote out)) = omega (arith, put_within b (take k (drop wrote out)) n piece q) in
    let rest : drop n (take k (drop wrote out)) ++ drop k (drop wrote out) ≡ drop (wrote + n) before =
    sym (drop-append-le n (take k (drop wrote out)) (drop k (drop wrote out)) fits)
    ∙ ap (drop n) (take-append-drop k (drop wrote out) ∙ back) ∙ drop-drop n wrote before
    in
    record {
      size = simp length-append (omega (arith, p.size, q.size));
      holds =
          ap₂ (λ (l r : List ℕ). l ++ r) front
          (ap (λ (l : List ℕ). l ++ drop k (drop wrote out)) q.holds
          ∙ append_assoc b (drop n (take k (drop wrote out))) (drop k (drop wrote out)) ∙ ap (λ (l : List ℕ). b ++ l) rest)
          ∙ sym (append_assoc a b (drop (wrote + n) before));
    }
