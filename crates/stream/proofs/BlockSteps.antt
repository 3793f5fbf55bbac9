-- The step over a block, line by line: what holds where a line begins, one line more, and the rest of the block.
--   Turned       all lines that end before a place are answered
--   line_more    one line more
--   rest_held    the rest of the block is held
-- Assumes nothing.
use mathlib.Core.Path.{◌≡◌, ap, ap₂, sym, ◌∙◌}
use mathlib.Core.List.{List, [], ◌∷◌, ◌++◌, append-nil, append_assoc}
use Prim.Native.Nat.{ℕ, ◌+◌, ◌-◌, ◌*◌, ◌<◌, ◌≤◌}
use native.Mathlib.Numerals.{add-one}
use native.Mathlib.Omega.{arith}
use lib.ListN.{length, take, drop, length-take}
use lib.Seq.{take-suc, take-add, take_all, get_or-take, get_or-drop}
use borrow.Rule.Slice.PartMut.{put_mid, same_len_mid}
use Rattle.output_lines.specs.Put.{Put}
use Rattle.output_lines.specs.Text.{newline}
use Rattle.lines.specs.Awaited.{line_says}
use Rattle.lines.specs.Memory.{Memory, block_says, after_block}
use Rattle.stream.specs.Stepped.{Ready, memory_of, Steps}
use Rattle.lines.specs.Claims.{NoNewline}
use Rattle.stream.specs.Inner.Found.{Found}
use Rattle.stream.specs.Inner.Held.{Holds}
use Rattle.lines.specs.Finished.{AnswersLine}
use Rattle.stream.specs.Inner.Finished.{Finishes}
use Rattle.stream.specs.declared.State.{State}
use Rattle.lines.specs.declared.phase.Answered.{Answered}
use Rattle.lines.specs.declared.phase.Phase.{Phase}
use Rattle.stream.proofs.PutLaws.{put_within, put_prints, put_after}
use Rattle.lines.proofs.BlockLaws.{says_append, after_append, says_piece, after_piece, says_line, after_line}

pub record Turned (m : Memory) (block before : List ℕ) (s : State) (line out : List ℕ) (at wrote : ℕ) : Type 0 where
  pub within : at ≤ length block
  pub ready : Ready s line
  pub remembers : memory_of s line ≡ after_block m (take at block)
  pub writes : Put (block_says m (take at block)) before wrote out
  pub room : wrote ≤ 64 * at
  pub size : length out ≡ length before
  pub enough : 64 * length block ≤ length before

-- the bytes of a block from one place to another, which the code lends
abbrev between : ℕ → ℕ → List ℕ → List ℕ
between at end block = take (end - at) (drop at block)

module _ (block : List ℕ) (at end : ℕ) (f : Found block at end) where
  found_none : NoNewline (between at end block)
  found_none k h e =
      let l : k < end - at = omega (arith, length-take (end - at) (drop at block)) in
      f.none (at + k) (omega arith) (omega (arith, f.after))
      (sym (get_or-take (end - at) (drop at block) k 0 l ∙ get_or-drop at block k 0) ∙ e)

  -- a block up to a newline, and with it
  found_up_to : take end block ≡ take at block ++ between at end block
  found_up_to = let e : end ≡ at + (end - at) = omega (arith, f.after) in ap (λ (n : ℕ). take n block) e ∙ take-add at (end - at) block

  found_line : end < length block → take (end + 1) block ≡ take at block ++ (between at end block ++ newline ∷ [])
  found_line h =
      ap (λ (n : ℕ). take n block) (add-one end) ∙ take-suc block end 0 h
      ∙ ap₂ (λ (l : List ℕ) (b : ℕ). l ++ b ∷ []) found_up_to (f.here h)
      ∙ append_assoc (take at block) (between at end block) (newline ∷ [])

held_short : (s : State) (line : List ℕ) → Ready s line → length (take s.held line) ≤ 513
held_short s line r = omega (arith, length-take s.held line, r.size)

-- an answer that was written into 64 bytes has no more
pub answer_short : {phase : Phase} {text : List ℕ} (at : ℕ) (out : List ℕ) {r : Answered} {piece : List ℕ}
    → AnswersLine phase text (take (at + 64 - at) (drop at out)) r piece
    → length piece ≡ length (take (at + 64 - at) (drop at out)) → r.wrote ≤ 64
answer_short {phase} {text} at out {r} {piece} a same =
    omega (
      arith,
      put_within (line_says phase text) (take (at + 64 - at) (drop at out)) r.wrote piece a.writes,
      length-take
          (at + 64 - at) (drop at out),
    )

module _ (m : Memory) (block before : List ℕ) (s : State) (line out : List ℕ) (at wrote : ℕ)
    (k : Turned m block before s line out at wrote) where
  says_more : (piece : List ℕ) → block_says m (take at block ++ piece) ≡ block_says m (take at block) ++ block_says (memory_of s line) piece
  says_more piece =
      says_append m (take at block) piece ∙ ap (λ (n : Memory). block_says m (take at block) ++ block_says n piece) (sym k.remembers)

  after_more : (piece : List ℕ) → after_block m (take at block ++ piece) ≡ after_block (memory_of s line) piece
  after_more piece = after_append m (take at block) piece ∙ ap (λ (n : Memory). after_block n piece) (sym k.remembers)

  pub line_more : (end : ℕ) → Found block at end → end < length block → (r : Answered) (line' piece : List ℕ)
      → Finishes (memory_of s line) (between at end block) (take (wrote + 64 - wrote) (drop wrote out)) r piece
      → length line' ≡ length line → length piece ≡ length (take (wrote + 64 - wrote) (drop wrote out))
      → Turned m block before (record { phase = r.phase; held = 0 }) line' (put_mid wrote (wrote + 64 - wrote) out piece) (end + 1)
      (wrote + r.wrote)
  line_more end f h r line' piece a l q =
      let short = held_short s line k.ready in
      let none = found_none block at end f in
      record {
        within = omega arith;
        ready = record { held = omega arith; size = l ∙ k.ready.size };
        remembers =
            ap (λ (p : Phase). record { phase = p; text = [] }) a.next
            ∙ sym (ap (after_block m) (found_line block at end f h) ∙ after_more (between at end block ++ newline ∷ [])
            ∙ after_line (memory_of s line) (between at end block) short none);
        writes =
            rw (ap (block_says m) (found_line block at end f h) ∙ says_more (between at end block ++ newline ∷ [])
            ∙ ap (λ (l : List ℕ). block_says m (take at block) ++ l) (says_line (memory_of s line) (between at end block) short none))
            (put_after (block_says m (take at block)) _ before out piece wrote r.wrote (wrote + 64 - wrote) k.writes a.writes q);
        room = omega (arith, k.room, f.after, answer_short wrote out a q);
        size = same_len_mid wrote (wrote + 64 - wrote) out piece q ∙ k.size;
        enough = k.enough;
      }

  pub rest_held : Found block at (length block) → (r : ℕ) (line' : List ℕ) → Holds line s.held (between at (length block) block) r line'
      → Steps m block before (record { state = record { phase = s.phase; held = r }; wrote = wrote }) line' out
  rest_held f r line' t =
      let none = found_none block at (length block) f in
      let whole : block ≡ take at block ++ between at (length block) block =
      sym (take_all (length block) block (omega arith)) ∙ found_up_to block at (length block) f
      in
      record {
        remembers =
            ap (λ (l : List ℕ). record { phase = s.phase; text = l }) t.text
            ∙ sym (ap (after_block m) whole ∙ after_more (between at (length block) block)
            ∙ after_piece (memory_of s line) (between at (length block) block) (held_short s line k.ready) none);
        prints =
            rw (ap (block_says m) whole ∙ says_more (between at (length block) block)
            ∙ ap (λ (l : List ℕ). block_says m (take at block) ++ l) (says_piece (memory_of s line) (between at (length block) block) none)
            ∙ append-nil (block_says m (take at block)))
            (put_prints (block_says m (take at block)) before wrote out k.writes);
        ready = record { held = t.most; size = t.size };
      }
