-- `input_lines::header::read_header` meets its contract: number by number. Assumes nothing.
use mathlib.Core.Path.{sym, ap, ◌∙◌}
use Rattle.std.proofs.Common.{rules}
use Rattle.std.specs.Prelude.{Some}
use Rattle.items.proofs.SplitLaws.{items_road}
use Rattle.input_lines.specs.Header.{header_with}
use Rattle.input_lines.proofs.HeaderSteps.{too_long, left_begin, left_more, left_wrong, left_none, one, two, three}
use Rattle.input_lines.proofs.HeaderSteps.{numbers_three, fifth, numbers_four, ended}
use Rattle.input_lines.proofs.header.read_header.Goals as goal
use Rattle.input_lines.proofs.header.read_header.Goals.{in-Some+in_ok-order-in-Some, in-None}

pub returns-then-text-gt-LONGEST : goal.returns-then-text-gt-LONGEST
returns-then-text-gt-LONGEST c = sym (too_long c.args.text.now c.if-text-gt-LONGEST.true)

pub returns-in_err-m : goal.returns-in_err-m
returns-in_err-m c =
    let text = c.args.text.now in
    let f = c.split-items.ensures in
    c.from_residual-in_err-m.ensures ∙ sym (left_wrong _ text c.split-items.result c.in_ok-next.field-0 c.next.new.self
    (left_begin _ text c.split-items.result (items_road _ text f.rest f.done f.closure (λ x b q k. search rules)))
    c.in_ok-next.ensures.steps c.in_err-m.ensures)

pub returns-in_err-next-2 : goal.returns-in_err-next-2
returns-in_err-next-2 c =
    let text = c.args.text.now in
    let f = c.split-items.ensures in
    c.from_residual-in_err-next-2.ensures ∙ sym (left_none _ text c.next.new.self c.next-2.new.self
    (one _ text c.split-items.result c.in_ok-next.field-0 c.next.new.self c.in_ok-m.m
    (items_road _ text f.rest f.done f.closure (λ x b q k. search rules)) c.in_ok-next.ensures.steps c.in_ok-m.ensures)
    c.in_err-next-2.ensures.steps c.if-text-gt-LONGEST.false)

pub returns-in_err-t : goal.returns-in_err-t
returns-in_err-t c =
    let text = c.args.text.now in
    let f = c.split-items.ensures in
    c.from_residual-in_err-t.ensures ∙ sym (left_wrong _ text c.next.new.self c.in_ok-next-2.field-0 c.next-2.new.self
    (one _ text c.split-items.result c.in_ok-next.field-0 c.next.new.self c.in_ok-m.m
    (items_road _ text f.rest f.done f.closure (λ x b q k. search rules)) c.in_ok-next.ensures.steps c.in_ok-m.ensures)
    c.in_ok-next-2.ensures.steps c.in_err-t.ensures)

pub returns-in_err-next-3 : goal.returns-in_err-next-3
returns-in_err-next-3 c =
    let text = c.args.text.now in
    let f = c.split-items.ensures in
    c.from_residual-in_err-next-3.ensures ∙ sym (left_none _ text c.next-2.new.self c.next-3.new.self
    (two _ text c.split-items.result c.in_ok-next.field-0 c.next.new.self c.in_ok-m.m
    (items_road _ text f.rest f.done f.closure (λ x b q k. search rules)) c.in_ok-next.ensures.steps c.in_ok-m.ensures
    c.in_ok-next-2.field-0 c.next-2.new.self c.in_ok-t.t c.in_ok-next-2.ensures.steps c.in_ok-t.ensures)
    c.in_err-next-3.ensures.steps c.if-text-gt-LONGEST.false)

pub returns-in_err-s : goal.returns-in_err-s
returns-in_err-s c =
    let text = c.args.text.now in
    let f = c.split-items.ensures in
    c.from_residual-in_err-s.ensures ∙ sym (left_wrong _ text c.next-2.new.self c.in_ok-next-3.field-0 c.next-3.new.self
    (two _ text c.split-items.result c.in_ok-next.field-0 c.next.new.self c.in_ok-m.m
    (items_road _ text f.rest f.done f.closure (λ x b q k. search rules)) c.in_ok-next.ensures.steps c.in_ok-m.ensures
    c.in_ok-next-2.field-0 c.next-2.new.self c.in_ok-t.t c.in_ok-next-2.ensures.steps c.in_ok-t.ensures)
    c.in_ok-next-3.ensures.steps c.in_err-s.ensures)

pub returns-in_err-order-in-Some : goal.returns-in_err-order-in-Some
returns-in_err-order-in-Some c =
    let text = c.args.text.now in
    let f = c.split-items.ensures in
    c.from_residual-in_err-order-in-Some.ensures ∙ sym (left_wrong _ text c.next-3.new.self c.in-Some.item c.next-4.new.self
    (three _ text c.split-items.result c.in_ok-next.field-0 c.next.new.self c.in_ok-m.m
    (items_road _ text f.rest f.done f.closure (λ x b q k. search rules)) c.in_ok-next.ensures.steps c.in_ok-m.ensures
    c.in_ok-next-2.field-0 c.next-2.new.self c.in_ok-t.t c.in_ok-next-2.ensures.steps c.in_ok-t.ensures
    c.in_ok-next-3.field-0 c.next-3.new.self c.in_ok-s.s c.in_ok-next-3.ensures.steps c.in_ok-s.ensures)
    c.in-Some.ensures.steps c.in_err-order-in-Some.ensures)

pub returns-then-is_some : goal.returns-then-is_some
returns-then-is_some c =
    let text = c.args.text.now in
    let f = c.split-items.ensures in
    elim c.match-next.branch [
      | in-Some+in_ok-order-in-Some w ↦
          sym (fifth _ text c.next-4.new.self c.next-5.new.self
          (left_more _ text c.next-3.new.self w.in-Some.item c.next-4.new.self w.in_ok-order-in-Some.order
          (three _ text c.split-items.result c.in_ok-next.field-0 c.next.new.self c.in_ok-m.m
          (items_road _ text f.rest f.done f.closure (λ x b q k. search rules)) c.in_ok-next.ensures.steps c.in_ok-m.ensures
          c.in_ok-next-2.field-0 c.next-2.new.self c.in_ok-t.t c.in_ok-next-2.ensures.steps c.in_ok-t.ensures
          c.in_ok-next-3.field-0 c.next-3.new.self c.in_ok-s.s c.in_ok-next-3.ensures.steps c.in_ok-s.ensures)
          w.in-Some.ensures.steps w.in_ok-order-in-Some.ensures)
          _ (sym c.is_some.ensures ∙ c.if-is_some.true) c.next-5.ensures.steps)
      | in-None w ↦
          absurd (ended _ c.next-3.new.self c.next-4.new.self c.next-5.new.self _ w.in-None.ensures.steps
          (sym c.is_some.ensures ∙ c.if-is_some.true) c.next-5.ensures.steps)
    ]

pub returns : goal.returns
returns c =
    let text = c.args.text.now in
    let f = c.split-items.ensures in
    elim c.match-next.branch [
      | in-Some+in_ok-order-in-Some w ↦
          ap (λ order. Some (header_with c.in_ok-m.m c.in_ok-t.t c.in_ok-s.s order)) w.order-is
          ∙ sym (numbers_four _ text c.next-4.new.self c.next-5.new.self
          (left_more _ text c.next-3.new.self w.in-Some.item c.next-4.new.self w.in_ok-order-in-Some.order
          (three _ text c.split-items.result c.in_ok-next.field-0 c.next.new.self c.in_ok-m.m
          (items_road _ text f.rest f.done f.closure (λ x b q k. search rules)) c.in_ok-next.ensures.steps c.in_ok-m.ensures
          c.in_ok-next-2.field-0 c.next-2.new.self c.in_ok-t.t c.in_ok-next-2.ensures.steps c.in_ok-t.ensures
          c.in_ok-next-3.field-0 c.next-3.new.self c.in_ok-s.s c.in_ok-next-3.ensures.steps c.in_ok-s.ensures)
          w.in-Some.ensures.steps w.in_ok-order-in-Some.ensures)
          _ (sym c.is_some.ensures ∙ c.if-is_some.false) c.next-5.ensures.steps c.if-text-gt-LONGEST.false)
      | in-None w ↦
          ap (λ order. Some (header_with c.in_ok-m.m c.in_ok-t.t c.in_ok-s.s order)) w.order-is
          ∙ sym (numbers_three _ text c.next-3.new.self c.next-4.new.self
          (three _ text c.split-items.result c.in_ok-next.field-0 c.next.new.self c.in_ok-m.m
          (items_road _ text f.rest f.done f.closure (λ x b q k. search rules)) c.in_ok-next.ensures.steps c.in_ok-m.ensures
          c.in_ok-next-2.field-0 c.next-2.new.self c.in_ok-t.t c.in_ok-next-2.ensures.steps c.in_ok-t.ensures
          c.in_ok-next-3.field-0 c.next-3.new.self c.in_ok-s.s c.in_ok-next-3.ensures.steps c.in_ok-s.ensures)
          w.in-None.ensures.steps c.if-text-gt-LONGEST.false)
    ]
