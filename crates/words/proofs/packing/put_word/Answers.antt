-- `words::packing::put_word` meets its contract. The loop's invariant: the first bytes are written, and x holds those that are still to
-- be written. Assumes nothing.
use mathlib.Core.Path.{◌≡◌, ap, ◌∙◌}
use mathlib.Core.List.{List, ◌∷◌, ◌++◌, append-nil}
use Prim.Native.Nat.{ℕ, suc, ◌+◌, ◌-◌, ◌/◌, ◌%◌, ◌<◌}
use native.Mathlib.Nat.{sub_self, sub-zero}
use native.Mathlib.Numerals.{add-one}
use native.Mathlib.Omega.{arith}
use lib.ListN.{length, take, drop, set, length-set}
use lib.Seq.{take-suc-set, append_snoc}
use Rattle.std.proofs.lemmas.List.{length-take-le, take_all}
use Rattle.words.specs.Packing.{packed}
use Rattle.words.proofs.packing.put_word.Invariants.{Put}
use Rattle.words.proofs.packing.put_word.Goals as goal

packed-next : (x i n : ℕ) → i < n → packed x (n - i) ≡ x % 256 ∷ packed (x / 256) (n - (i + 1))
unfolding packed
packed-next x i n h = let e : n - i ≡ suc (n - (i + 1)) = omega arith in rw e

put_more : (word n : ℕ) (bytes : List ℕ) (x i : ℕ) → Put word n bytes x i → i < n
    → Put word n (set bytes i (x % 256)) (x / 256) (i + 1)
put_more word n bytes x i p h = record {
  at = omega arith;
  size = length-set bytes i (x % 256) ∙ p.size;
  front =
      let l : i < length bytes = omega (arith, p.size) in
      rw (add-one i, take-suc-set bytes i (x % 256) l, append_snoc (take i bytes) (x % 256) (packed (x / 256) (n - suc i)))
      (ap (λ (r : List ℕ). take i bytes ++ r) (rw (← add-one i, packed-next x i n h)) ∙ p.front);
}

pub loop-byte-init : goal.loop-byte-init
loop-byte-init c =
    let a = c.args in
    record { at = omega arith; size = length-take-le a.n a.buf.now c.requires; front = rw (sub-zero a.n) }

pub loop-byte-preserved : goal.loop-byte-preserved
loop-byte-preserved c =
    let a = c.args in
    let l = c.loop-byte in
    put_more a.word a.n l.byte-items l.x l.byte-index l.invariant (omega arith)

pub returns : goal.returns
unfolding packed
returns c =
    let a = c.args in
    let l = c.loop-byte in
    let p = l.invariant in
    let e : l.byte-index ≡ a.n = omega arith in
    let all : take a.n l.byte-items ≡ l.byte-items = take_all a.n l.byte-items (omega arith) in
    let front : take a.n l.byte-items ++ packed l.x (a.n - a.n) ≡ packed a.word a.n = rw e at p.front in
    ap (λ (r : List ℕ). r ++ drop a.n a.buf.now)
    (rw (sub_self a.n, append-nil, all) at front)
