-- The items of a text are the parts that the library's `split` gives at the spaces.
--   items_split   as a list
--   items_road    as what `split` yields; its facts are the call's clauses `rest`, `done` and `closure`, and what the closure tests
-- Assumes nothing.
use mathlib.Core.Path.{◌≡◌, refl, ap, ap₂, sym, subst, ◌∙◌}
use mathlib.Core.Bool.{Bool, true, false, cond}
use mathlib.Core.List.{List, [], ◌∷◌}
use Prim.Native.Nat.{ℕ, ◌<◌}
use native.Mathlib.Omega.{arith}
use lib.Dec.{eqb}
use lib.ListN.{length}
use denote.Param.Members.{Mut}
use denote.Ref.{Bor}
use Rattle.std.specs.Fn.{CalledAt}
use Rattle.std.specs.List.{slice_split, onto_first}
use Rattle.std.specs.Slice.Iter as slice
use Rattle.std.proofs.lemmas.Iterator.{YieldsList}
use Rattle.std.proofs.lemmas.Iterator.Splits.{YieldsList-from_slice_split}
use Rattle.items.specs.Line.{on_first, items}

abbrev pub is_space : ℕ → Bool
is_space b = eqb b 32

on_some : (b : ℕ) (parts : List (List ℕ)) → 0 < length parts → on_first b parts ≡ onto_first b parts
on_some b [] h = absurd (omega arith)
on_some b (part ∷ parts) h = refl

full_on : (b : ℕ) (parts : List (List ℕ)) → 0 < length (onto_first b parts)
full_on b [] = omega arith
full_on b (part ∷ parts) = omega arith

full : (text : List ℕ) → 0 < length (slice_split is_space text)
full [] = omega arith
full (b ∷ text) = go (is_space b)
  where
    go : (t : Bool) → 0 < length (cond t ([] ∷ slice_split is_space text) (onto_first b (slice_split is_space text)))
    go true = omega arith
    go false = full_on b (slice_split is_space text)

pub items_split : (text : List ℕ) → items text ≡ slice_split is_space text
unfolding items
items_split [] = refl
items_split (b ∷ text) =
    ap₂ (cond (is_space b)) (ap (λ (l : List (List ℕ)). [] ∷ l) (items_split text))
    (ap (on_first b) (items_split text) ∙ on_some b (slice_split is_space text) (full text))

pub items_road : {F : Type 0} {s : _} (g : Mut F (Bor ℕ × Unit {0}) Bool) {f : F} (text : List ℕ)
    → slice.split_rest s ≡ text → slice.split_done s ≡ false → slice.split_callee s ≡ f
    → ((x : ℕ) (b : Bool) (q : F) → CalledAt g f x b q → (q ≡ f) × (b ≡ is_space x))
    → YieldsList (slice.split_steps g) (λ x. x.now) s (items text)
items_road {s = s} g text rest done closure tests =
    subst (YieldsList (slice.split_steps g) (λ x. x.now) s) (sym (items_split text))
    (YieldsList-from_slice_split g is_space text rest done closure tests)
