-- The claims of specs/Claims, each under its name. Assumes nothing.
use mathlib.Core.Path.{◌≡◌, refl, ap, sym, ◌∙◌}
use mathlib.Core.Bool.{Bool, true, false}
use mathlib.Core.List.{List, [], ◌∷◌, ◌++◌, append-nil, append_assoc}
use Prim.Native.Nat.{ℕ}
use Rattle.std.specs.Prelude.{Option, Some, None}
use Rattle.input_lines.specs.Header.{header_of}
use Rattle.lines.specs.Answer.{goes_on}
use Rattle.input_lines.specs.declared.header.Header.{Header}
use Rattle.output_lines.specs.Text.{newline}
use Rattle.lines.specs.Program.{program_output}
use Rattle.lines.specs.Awaited.{words_or_end, phase_after, last_says}
use Rattle.lines.specs.Memory.{Memory, start, block_says, after_block, end_says, blocks_say}
use Rattle.lines.specs.Claims.{joined, NoNewline, BlocksDoNotMatter, AnsweredAtOnce, NothingAfterTheEnd}
use Rattle.lines.specs.Claims.{said_so_far, NothingIsGuessed, UnfinishedLinesWait, OrderLeftOut}
use Rattle.lines.specs.declared.phase.Phase.{Phase}
use Rattle.lines.specs.declared.phase.Phase.TheVariants.{First, Words, Ended}
use Rattle.lines.proofs.StillLaws.{still, still_block, still_end, still_start}
use Rattle.lines.proofs.BlockLaws.{says_append, says_piece, after_append}
use Rattle.lines.proofs.OrderLeftOut.{same_alone, same_then}

blocks_still : (m : Memory) (blocks : List (List ℕ)) → blocks_say m blocks ≡ still m (joined blocks)
unfolding blocks_say
blocks_still m [] = sym (still_end m)
blocks_still m (block ∷ blocks) =
    ap (λ (l : List ℕ). block_says m block ++ l) (blocks_still (after_block m block) blocks) ∙ sym (still_block m block (joined blocks))

pub blocks_do_not_matter : BlocksDoNotMatter
blocks_do_not_matter blocks = blocks_still start blocks ∙ still_start (joined blocks)

words_or_nothing : (b : Bool) (h : Option Header) → last_says (words_or_end b h) [] ≡ []
words_or_nothing true (Some h) = refl
words_or_nothing true None = refl
words_or_nothing false h = refl

-- after a line the end of the input adds nothing
line_then_end : (phase : Phase) (text : List ℕ) → last_says (phase_after phase text) [] ≡ []
line_then_end First text = words_or_nothing (goes_on text) (header_of text)
line_then_end (Words h) text = refl
line_then_end Ended text = refl

newline_then_end : (m : Memory) → end_says (after_block m (newline ∷ [])) ≡ []
unfolding after_block
newline_then_end m = line_then_end m.phase m.text

pub answered_at_once : AnsweredAtOnce
answered_at_once input =
    let all = input ++ newline ∷ [] in
    let ends : end_says (after_block start all) ≡ [] = ap end_says (after_append start input (newline ∷ []))
    ∙ newline_then_end (after_block start input) in
    sym (append-nil (block_says start all)) ∙ ap (λ (l : List ℕ). block_says start all ++ l)
    (sym (still_end (after_block start all) ∙ ends))
    ∙ sym (still_block start all []) ∙ ap (still start) (append-nil all) ∙ still_start all

pub nothing_after_the_end : NothingAfterTheEnd
nothing_after_the_end text blocks = blocks_still (record { phase = Ended; text = text }) blocks

-- what came in blocks says what it says as one
so_far_joined : (m : Memory) (blocks : List (List ℕ)) → said_so_far m blocks ≡ block_says m (joined blocks)
unfolding said_so_far block_says
so_far_joined m [] = refl
so_far_joined m (block ∷ blocks) =
    ap (λ (l : List ℕ). block_says m block ++ l) (so_far_joined (after_block m block) blocks) ∙ sym (says_append m block (joined blocks))

pub nothing_is_guessed : NothingIsGuessed
nothing_is_guessed blocks more = record {
  rest = still (after_block start (joined blocks)) more;
  goes_on =
      ap (λ (l : List ℕ). l ++ still (after_block start (joined blocks)) more) (so_far_joined start blocks)
      ∙ sym (still_block start (joined blocks) more) ∙ still_start (joined blocks ++ more);
}

-- a piece of a line says nothing after lines
piece_waits : (lines piece : List ℕ) → NoNewline piece → block_says start (lines ++ newline ∷ piece)
    ≡ program_output (lines ++ newline ∷ [])
piece_waits lines piece none =
    let ended = lines ++ newline ∷ [] in
    ap (block_says start) (sym (append_assoc lines (newline ∷ []) piece)) ∙ says_append start ended piece
    ∙ ap (λ (l : List ℕ). block_says start ended ++ l) (says_piece (after_block start ended) piece none)
    ∙ append-nil (block_says start ended) ∙ answered_at_once lines

pub unfinished_lines_wait : UnfinishedLinesWait
unfinished_lines_wait blocks piece none = (
  λ e. so_far_joined start blocks ∙ ap (block_says start) e ∙ says_piece start piece none,
  λ lines e. so_far_joined start blocks ∙ ap (block_says start) e ∙ piece_waits lines piece none,
)

pub order_left_out : OrderLeftOut
order_left_out a b c ha hb hc = (same_alone a b c ha hb hc, same_then a b c ha hb hc)
