-- What the settled examples give to the calls (document 01, "Settled examples"): "Decode, m=4, t=1, s=0".
--   lent                 a lent buffer of three bytes that were ff
--   calling order soft   the decode call with these values
--   tens k               k values of 10; clean, first, fifth, tied, flat, large: the values of the examples
-- Assumes nothing.
use Rattle.std.specs.Prelude.{List, [], ◌∷◌, ◌++◌, ℕ, ℤ, pos, negsuc, replicate}
use Rattle.decode.specs.Call.{Call}

abbrev pub lent : List ℕ
lent = 255 ∷ 255 ∷ 255 ∷ []

abbrev pub calling : ℕ → List ℤ → Call
calling order soft = record { m = 4; t = 1; s = 0; order = order; soft = soft; before = lent }

abbrev pub tens : ℕ → List ℤ
tens k = replicate k (pos 10)

-- "All values 10."
abbrev pub clean : List ℤ
clean = tens 15

-- "Position 0 is -3, others 10"; negsuc x is the number -1 - x
abbrev pub first : List ℤ
first = negsuc 2 ∷ tens 14

-- "Position 5 is -10, others 10."
abbrev pub fifth : List ℤ
fifth = tens 5 ++ (negsuc 9 ∷ tens 9)

-- "The example's first line": 10 10 -10 10 10 10 10 10 10 10 10 10 10 5 5
abbrev pub tied : List ℤ
tied = tens 2 ++ (negsuc 9 ∷ (tens 10 ++ (pos 5 ∷ pos 5 ∷ [])))

-- "All values 0"
abbrev pub flat : List ℤ
flat = replicate 15 (pos 0)

-- "Position 0 is -128, others 127."
abbrev pub large : List ℤ
large = negsuc 127 ∷ replicate 14 (pos 127)
