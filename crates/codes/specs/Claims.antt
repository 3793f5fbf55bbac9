-- What is shown of the codes: each claim a type, each proved under the same name in proofs/ClaimsShown.
--   GeneratorsAreRight      the generator table agrees with the roots
--   OneWordForEachMessage   a message has exactly one codeword
--   CodewordsAreApart       two codewords differ in at least 2t+1 places, or not at all
--   PlacesFixAWord          n - r places fix a word with r roots: the others are its Lagrange sums
--   CellsAreThePapers         with the first root a^1 a cell is document 01's product
--   CellsAreShort             a cell by the places outside
--   FaultyPowersAreOdd        the lowest power, from 1 on, at which a binary word is not zero is odd
-- Assumes nothing.
use Rattle.std.specs.Prelude.{◌≡◌, ◌≢◌, ◌↔◌, not, ℕ, ◌+◌, ◌-◌, ◌*◌, ◌/◌, ◌%◌, ◌^◌, ◌<◌, ◌≤◌, eqb}
use Rattle.field.specs.Below.{count_where}
use Rattle.field.specs.Lowest.{Lowest}
use Rattle.field.specs.Field.{alpha_to, length_of}
use Rattle.codes.specs.Codeword.{bit_of, WordOver, value_at, ZeroFrom, Codeword}
use Rattle.codes.specs.Code.{Known, dimension_of, parity_of, generator_of}
use Rattle.codes.specs.Lagrange.{AllPlaces, others, quotients, cell, lagrange, short_cell}
use Rattle.codes.specs.Generator.{multiple, systematic}

-- "multiples of the generator below degree n are exactly the codewords"
abbrev pub GeneratorsAreRight : Type 0
GeneratorsAreRight = (m t : ℕ) → Known m t → (w : ℕ)
    → Codeword m t w ↔ ((q : ℕ) × (q < 2 ^ dimension_of m t) × (w ≡ multiple (dimension_of m t) q (generator_of m t)))

-- "The encoder sends each message to its one word" (demand 2)
abbrev pub OneWordForEachMessage : Type 0
OneWordForEachMessage = (m t M : ℕ) → Known m t → M < 2 ^ dimension_of m t
    → Codeword m t (systematic m t M) × (systematic m t M / 2 ^ parity_of m t ≡ M)
    × ((w : ℕ) → Codeword m t w → w / 2 ^ parity_of m t ≡ M → w ≡ systematic m t M)

abbrev pub CodewordsAreApart : Type 0
CodewordsAreApart = (m t : ℕ) → Known m t → (w v : ℕ) → Codeword m t w → Codeword m t v → w ≢ v
    → 2 * t + 1 ≤ count_where (length_of m) (λ p. not (eqb (bit_of w p) (bit_of v p)))

-- "the resulting n-2t bits fix one Reed-Solomon word" (document 01, "The search")
abbrev pub PlacesFixAWord : Type 0
PlacesFixAWord = (m b r : ℕ) → 4 ≤ m → m ≤ 6 → b ≤ 1 → r ≤ length_of m → (R : ℕ → ℕ) → AllPlaces m R → (c : ℕ → ℕ) → WordOver m c
    → ZeroFrom m b r c
    ↔ ((j : ℕ) → length_of m - r ≤ j → j < length_of m → c (R j) ≡ lagrange m (1 - b) R (length_of m - r) (λ i. c (R i)) (R j))

abbrev pub CellsAreThePapers : Type 0
CellsAreThePapers = (m : ℕ) → 4 ≤ m → m ≤ 6 → (R : ℕ → ℕ) (k j p : ℕ)
    → cell m 0 R k j p ≡ quotients m (alpha_to m p) (alpha_to m (R j)) (others (λ i. alpha_to m (R i)) k j)

abbrev pub CellsAreShort : Type 0
CellsAreShort = (m b r : ℕ) → 4 ≤ m → m ≤ 6 → b ≤ 1 → r ≤ length_of m → (R : ℕ → ℕ) → AllPlaces m R → (j o : ℕ) → j < length_of m - r
    → o < r
    → cell m (1 - b) R (length_of m - r) j (R (length_of m - r + o)) ≡ short_cell m b r (λ v. R (length_of m - r + v)) o (R j)

-- Req 02: "the lowest power at which the word is not zero", of any binary word and however many powers from a^1 on are looked at. Its
-- value at a^(2e) is the square of that at a^e
abbrev pub FaultyPowersAreOdd : Type 0
FaultyPowersAreOdd = (m : ℕ) → 4 ≤ m → m ≤ 6 → (w r e : ℕ) → Lowest 1 r (value_at m (bit_of w)) e → e % 2 ≡ 1
