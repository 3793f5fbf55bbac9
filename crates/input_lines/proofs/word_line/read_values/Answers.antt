-- `input_lines::word_line::read_values` meets its contract. The loop's invariant: the values of the items so far stand at the start of the
-- array, and what is left of the line has room there. Assumes nothing.
use mathlib.Core.Path.{refl, sym, ap, ◌∙◌}
use native.Mathlib.Omega.{arith}
use lib.ListN.{take, length-set}
use Rattle.std.proofs.lemmas.List.{length_push}
use Rattle.std.proofs.lemmas.Iterator.Consumers.{YieldsList-from_first, YieldsList-turn, YieldsList-end}
use Rattle.std.specs.Prelude.{option_map}
use Rattle.items.specs.Line.{items}
use Rattle.items.specs.Cut.{cut_off, left_of}
use Rattle.items.specs.declared.cut.Items.{Items}
use Rattle.input_lines.proofs.ReadSteps.{reading_begin, refused, taken, bytes_all}
use Rattle.input_lines.specs.WordLine.{is_value, value_of}
use Rattle.input_lines.proofs.ValuesSteps.{Turn, turn_of, first_wrong, first_taken, uncut_more, all_come}
use Rattle.input_lines.proofs.ValuesSteps.{values_long, values_wrong, values_room, values_more, values_end}
use Rattle.input_lines.proofs.word_line.read_values.Goals as goal
use Rattle.input_lines.proofs.word_line.read_values.Goals.{After-read_value}

pub returns-then-text-gt-LONGEST-clause-holds : goal.returns-then-text-gt-LONGEST-clause-holds
returns-then-text-gt-LONGEST-clause-holds c = sym (values_long c.args.text.now c.if-text-gt-LONGEST.true)

pub loop-item-init : goal.loop-item-init
loop-item-init c =
    let text = c.args.text.now in
    record {
      within = c.if-text-gt-LONGEST.false;
      size = c.requires;
      turns = refl;
      fits = omega arith;
      room = omega (arith, bytes_all text);
      uncut = refl;
      reading = reading_begin is_value value_of text;
    }

-- the turn's item is the next one of the line
turn : (c : After-read_value) → Turn (items c.args.text.now) c.loop-item.count c.in-Some.item.now
turn c =
    let l = c.loop-item in
    let parts = items c.args.text.now in
    let t = YieldsList-turn (YieldsList-from_first (λ x. x.now) (λ s. left_of s.0) (cut_off parts)
    (ap (λ (s : Items). left_of s.0) c.into_iter-item-iterator.ensures.into_iter_gives)) l.yielded _ l.yielded_by _ _
    c.in-Some.item c.in-Some.is c.next.ensures.steps in
    turn_of parts l.count c.in-Some.item.now l.invariant.uncut (rw l.invariant.turns t.0) (rw l.invariant.turns t.1)

pub returns-in_err-values-clause-holds : goal.returns-in_err-values-clause-holds
returns-in_err-values-clause-holds c =
    let text = c.args.text.now in
    let l = c.loop-item in
    let t = turn (goal.at.returns-in_err-values-clause-holds c).After-read_value in
    ap (option_map (λ count. take count c.loop-item.values)) c.from_residual.ensures
    ∙ sym (values_wrong text l.values l.count l.invariant.reading t.first t.there t.at
    (first_wrong _ _ _ t (refused _ _ c.in_err-values.ensures)))

pub bounds-values-count : goal.bounds-values-count
bounds-values-count c =
    let text = c.args.text.now in
    let l = c.loop-item in
    let t = turn (goal.at.bounds-values-count c).After-read_value in
    omega (
      arith,
      values_room text l.values l.count l.invariant.reading t.first t.there t.at _
          (first_taken _ _ _ t _ (taken _ _ _ c.in_ok-values.ensures))
          l.invariant.room,
      l.invariant.within,
    )

pub loop-item-preserved : goal.loop-item-preserved
loop-item-preserved c =
    let text = c.args.text.now in
    let l = c.loop-item in
    let t = turn (goal.at.loop-item-preserved c).After-read_value in
    let k = taken _ _ _ c.in_ok-values.ensures in
    let v = first_taken _ _ _ t _ k in
    let room = values_room text l.values l.count l.invariant.reading t.first t.there t.at _ v l.invariant.room in
    record {
      within = l.invariant.within;
      size = simp length-set l.invariant.size;
      turns = omega (arith, length_push l.yielded c.in-Some.item, l.invariant.turns);
      fits = omega (arith, room, l.invariant.within);
      room = room;
      uncut = uncut_more _ _ _ t _ k;
      reading =
          values_more text l.values l.count l.invariant.reading t.first t.there t.at _ v
          (omega (arith, room, l.invariant.within, l.invariant.size));
    }

pub returns-clause-holds : goal.returns-clause-holds
returns-clause-holds c =
    let text = c.args.text.now in
    let l = c.loop-item in
    let parts = items text in
    let e = YieldsList-end (YieldsList-from_first (λ x. x.now) (λ s. left_of s.0) (cut_off parts)
    (ap (λ (s : Items). left_of s.0) c.into_iter-item-iterator.ensures.into_iter_gives)) l.yielded _ l.yielded_by _ _ c.in-None.is
    c.next.ensures.steps in
    values_end text l.values l.count l.invariant.reading l.invariant.within
    (all_come parts l.count l.invariant.uncut (omega (arith, e.1, l.invariant.turns)))
