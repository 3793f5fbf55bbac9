-- What is shown of the program: each claim a type, each proved under the same name in proofs/ClaimsShown.
--   BlocksDoNotMatter      whatever blocks the input comes in, the output is that of the whole
--   AnsweredAtOnce         with a newline everything is printed that the input so far prints
--   NothingAfterTheEnd     once the program has ended it prints nothing, so that it need not read on
--   NothingIsGuessed       whatever was read so far, what is printed is a beginning of what every input that begins so prints
--   UnfinishedLinesWait    and it is what the finished lines print: of a line that has not ended nothing is printed
--   OrderLeftOut           an input whose header leaves the order out is answered as one whose header writes t there
-- They are said with joined, said_so_far, BeginningOf, NoNewline and spaced, a line made of its items.
-- Assumes nothing.
use Rattle.std.specs.Prelude.{◌≡◌, List, [], ◌∷◌, ◌++◌, ℕ, ◌<◌, length, get_or, T}
use Rattle.items.specs.Line.{is_number}
use Rattle.output_lines.specs.Text.{newline}
use Rattle.lines.specs.Program.{program_output}
use Rattle.lines.specs.Memory.{Memory, start, block_says, after_block, blocks_say}
use Rattle.lines.specs.declared.phase.Phase.TheVariants.{Ended}

abbrev pub joined : List (List ℕ) → List ℕ
joined [] = []
joined (block ∷ blocks) = block ++ joined blocks

abbrev pub BlocksDoNotMatter : Type 0
BlocksDoNotMatter = (blocks : List (List ℕ)) → blocks_say start blocks ≡ program_output (joined blocks)

abbrev pub AnsweredAtOnce : Type 0
AnsweredAtOnce = (input : List ℕ) → block_says start (input ++ newline ∷ []) ≡ program_output (input ++ newline ∷ [])

abbrev pub NothingAfterTheEnd : Type 0
NothingAfterTheEnd = (text : List ℕ) (blocks : List (List ℕ)) → blocks_say (record { phase = Ended; text = text }) blocks ≡ []

-- what is printed once these blocks have come, before anything is known of what follows
unfoldable pub said_so_far : Memory → List (List ℕ) → List ℕ
said_so_far m [] = []
said_so_far m (block ∷ blocks) = block_says m block ++ said_so_far (after_block m block) blocks

-- the one text begins the other
pub record BeginningOf (piece whole : List ℕ) : Type 0 where
  pub rest : List ℕ
  pub goes_on : piece ++ rest ≡ whole

-- so an end that is not the end of the input leaves only right answers behind
abbrev pub NothingIsGuessed : Type 0
NothingIsGuessed = (blocks : List (List ℕ)) (more : List ℕ) → BeginningOf (said_so_far start blocks)
    (program_output (joined blocks ++ more))

-- a piece of a line
abbrev pub NoNewline : List ℕ → Type 0
NoNewline piece = (k : ℕ) → k < length piece → get_or piece k 0 ≡ newline → ⊥

abbrev pub UnfinishedLinesWait : Type 0
UnfinishedLinesWait = (blocks : List (List ℕ)) (piece : List ℕ) → NoNewline piece
    → (joined blocks ≡ piece → said_so_far start blocks ≡ [])
    × ((lines : List ℕ) → joined blocks ≡ lines ++ newline ∷ piece → said_so_far start blocks ≡ program_output (lines ++ newline ∷ []))

-- the line of these items, "parted by single spaces"
abbrev pub spaced : List (List ℕ) → List ℕ
spaced [] = []
spaced (item ∷ []) = item
spaced (item ∷ next ∷ others) = item ++ 32 ∷ spaced (next ∷ others)

-- Req 01: "A header of three numbers now means order t." a, b and c are any texts of one to three digits: the input that is the line
-- `a b c` alone prints what `a b c b` prints, and so it is where a newline and any bytes whatever follow
abbrev pub OrderLeftOut : Type 0
OrderLeftOut = (a b c : List ℕ) → T (is_number a) → T (is_number b) → T (is_number c)
    → (program_output (spaced (a ∷ b ∷ c ∷ [])) ≡ program_output (spaced (a ∷ b ∷ c ∷ b ∷ [])))
    × ((rest : List ℕ) → program_output (spaced (a ∷ b ∷ c ∷ []) ++ newline ∷ rest)
    ≡ program_output (spaced (a ∷ b ∷ c ∷ b ∷ []) ++ newline ∷ rest))
