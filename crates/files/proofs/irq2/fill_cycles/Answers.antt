use lib.ListN.{length-set}
use native.Mathlib.Omega.{arith}
use Rattle.files.proofs.Irq2Laws.{set-room, set-form, set-turn, set-end}
use Rattle.files.proofs.irq2.fill_cycles.Goals as goal

pub value_of-requires : goal.value_of-requires
value_of-requires c = set-form c.loop-at.invariant.set c.loop-at-test.true c.short_line_end-end.result c.short_line_end-end.ensures.0 c.requires.good

pub loop-at-preserved : goal.loop-at-preserved
loop-at-preserved c = record {
  set = set-turn c.loop-at.invariant.set c.loop-at-test.true c.short_line_end-end.result c.short_line_end-end.ensures.0 c.value_of.ensures;
  size = simp length-set c.loop-at.invariant.size;
}

pub returns : goal.returns
returns c = set-end c.loop-at.invariant.set c.loop-at-test.false

pub offset_bounds-cycles-i : goal.offset_bounds-cycles-i
offset_bounds-cycles-i c = omega (arith, set-room c.loop-at.invariant.set c.loop-at-test.true)

pub bounds-cycles-i : goal.bounds-cycles-i
bounds-cycles-i c = omega (arith, set-room c.loop-at.invariant.set c.loop-at-test.true)

pub overflow_add-i : goal.overflow_add-i
overflow_add-i c = omega (arith, set-room c.loop-at.invariant.set c.loop-at-test.true)
