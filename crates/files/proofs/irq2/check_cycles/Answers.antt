use Prim.Native.Nat.{◌-◌}
use mathlib.Core.Path.{refl, sym, ◌∙◌, ap}
use native.Mathlib.Omega.{arith}
use lib.ListN.{length, take, drop}
use Rattle.text.specs.Numerals.{value}
use Rattle.text.specs.Lines.{lines}
use Rattle.text.proofs.DigitLaws.{number_yes, number_no, number-value}
use Rattle.text.proofs.LineLaws.{lines_at_lem}
use Rattle.files.specs.Irq2File.{is_cycle, irq2_outcome}
use Rattle.files.proofs.Irq2Laws.{least_after, next-is, least_next, cycle-full, cycle_bad, cycle_low, cycle-good, cycle-end, count-end}
use Rattle.files.proofs.irq2.check_cycles.Goals as goal

pub loop-at-init : goal.loop-at-init
unfolding irq2_outcome least_after
loop-at-init c = (refl, refl, refl, omega arith, omega arith, omega arith)

pub returns-then-room-i : goal.returns-then-room-i
returns-then-room-i c = let l = c.loop-at in
    let a = c.args in
    cycle-full a.room a.text.now l.at l.i _ c.loop-at-test.true refl _ c.if-room-i.true ∙ l.invariant.0

pub returns-in_default : goal.returns-in_default
returns-in_default c = let l = c.loop-at in
    let a = c.args in
    let e = c.short_line_end-end in
    let line = take (e.result - l.at) (drop l.at a.text.now) in
    cycle_bad a.room a.text.now l.at l.i e.result c.loop-at-test.true e.ensures.0 _ c.if-room-i.false
    (number_no (is_cycle line) (value 10 line) (sym c.in_default.ensures)) ∙ l.invariant.0

pub returns-then-cycle-least : goal.returns-then-cycle-least
returns-then-cycle-least c = let l = c.loop-at in
    let a = c.args in
    let e = c.short_line_end-end in
    let line = take (e.result - l.at) (drop l.at a.text.now) in
    let outcome = sym c.in-Some.ensures in
    let is = number-value (is_cycle line) (value 10 line) _ outcome in
    cycle_low a.room a.text.now l.at l.i e.result c.loop-at-test.true e.ensures.0 _ c.if-room-i.false
    (number_yes (is_cycle line) (value 10 line) _ outcome) (rw (← is, ← l.invariant.2) c.if-cycle-least.true) ∙ l.invariant.0

pub loop-at-preserved : goal.loop-at-preserved
loop-at-preserved c = let l = c.loop-at in
    let a = c.args in
    let e = c.short_line_end-end in
    let inside = c.loop-at-test.true in
    let line = take (e.result - l.at) (drop l.at a.text.now) in
    let outcome = sym c.in-Some.ensures in
    let is = number-value (is_cycle line) (value 10 line) _ outcome in
    let split = lines_at_lem a.text.now l.at e.result inside e.ensures.0 in
    let from = sym split ∙ l.invariant.1 in
    let size = ap length split in (
      cycle-good a.room a.text.now l.at l.i e.result inside e.ensures.0 _ c.if-room-i.false (number_yes (is_cycle line) (value 10 line) _ outcome)
          (rw (← is, ← l.invariant.2) c.if-cycle-least.false) ∙ l.invariant.0,
      next-is (lines a.text.now) l.i line _ from,
      rw is (least_next (lines a.text.now) l.i line _ from),
      omega arith,
      omega arith,
      omega arith,
    )

pub returns : goal.returns
returns c = let l = c.loop-at in
    let a = c.args in
    let all = count-end a.room a.text.now l.at l.i c.loop-at-test.false l.invariant.3 in
    rw all (cycle-end a.room a.text.now l.at l.i c.loop-at-test.false _ ∙ l.invariant.0)
