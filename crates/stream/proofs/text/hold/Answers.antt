-- `text::hold` meets its contract: as much of the piece as there is room for stands behind what was held. Assumes nothing.
use Rattle.std.proofs.Common.{◌≡◌, ap, sym, ◌∙◌, ℕ, ◌+◌, ◌-◌, ◌≤◌, min, List, ◌++◌, length, take, drop, length-take, length-drop, arith}
use Rattle.std.proofs.lemmas.List.{take_min, length-take-le}
use lib.Seq.{take-append-add, take_at}
use borrow.Rule.Slice.PartMut.{put_mid, same_len_mid}
use Rattle.stream.specs.Inner.Held.{Holds}
use Rattle.stream.proofs.text.hold.Goals as goal

copied : (before piece part : List ℕ) (held count : ℕ) → held ≤ 513 → length before ≡ 513 → count ≡ min (513 - held) (length piece)
    → part ≡ take count piece → Holds before held piece (held + count) (put_mid held (held + count - held) before part)
copied before piece part held count h l c p =
    let front : length (take held before) ≡ held = length-take-le held before (omega arith) in
    let size : length part ≡ count = omega (arith, ap length p, length-take count piece) in
    let behind : List ℕ = drop (held + count - held) (drop held before) in
    let whole : length (take held before) + (513 - held) ≡ 513 = omega arith in
    let end : length (take held before) + count ≡ held + count = omega arith in
    record {
      text =
          ap (λ (n : ℕ). take n (take held before ++ (part ++ behind))) (sym end)
          ∙ take-append-add (take held before) (part ++ behind) count
          ∙ ap (λ (t : List ℕ). take held before ++ t)
          (take_at part behind count size ∙ p ∙ ap (λ (n : ℕ). take n piece) c ∙ take_min (513 - held) piece)
          ∙ sym (take-append-add (take held before) piece (513 - held)) ∙ ap (λ (n : ℕ). take n (take held before ++ piece)) whole;
      most = omega arith;
      size = same_len_mid held (held + count - held) before part
          (omega (arith, size, length-take (held + count - held) (drop held before), length-drop held before)) ∙ l;
    }

pub returns : goal.returns
returns c =
    copied c.args.line.now c.args.piece.now c.copy_from_slice.new.self c.args.held c.min-count.result c.requires.0 c.requires.1
    c.min-count.ensures c.copy_from_slice.ensures.after
