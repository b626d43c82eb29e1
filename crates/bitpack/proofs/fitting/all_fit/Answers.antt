use Prim.Native.Nat.{◌+◌, ◌^◌, ◌<◌}
use mathlib.Core.Path.{◌≡◌, sym, ap, ◌∙◌}
use mathlib.Core.Bool.{Bool, ◌&&◌, and_assoc}
use native.Mathlib.Omega.{arith}
use lib.Dec.{eqb, ltb}
use lib.ListN.{length, get_or, drop}
use Rattle.bitpack.specs.Packed.{fit}
use Rattle.bitpack.proofs.BitLaws.{shift_test, or_test}
use Rattle.bitpack.proofs.PackLaws.{fit_other, fit_turn}
use Rattle.bitpack.proofs.fitting.all_fit.Goals as goal

pub returns-then-widths-values : goal.returns-then-widths-values
returns-then-widths-values c = sym (fit_other c.args.widths.now c.args.values.now c.if-widths-values.true)

pub loop-i-preserved : goal.loop-i-preserved
loop-i-preserved c =
    let value_there : c.loop-i.i < length c.args.values.now = let h = c.loop-i-test.true in let e = c.if-widths-values.false in omega arith in
    let s = c.args in
    let l = c.loop-i in
    let v = get_or s.values.now l.i 0 in
    let w = c.from in
    let fits : eqb c.bits_above-over.result 0 ≡ ltb v (2 ^ w.result) = rw c.bits_above-over.ensures (shift_test v w.result) in
    l.invariant
    ∙ ap (λ (t : Bool). eqb l.over 0 && t) (fit_turn s.widths.now s.values.now l.i _ _ c.loop-i-test.true (value_there) w.ensures fits)
    ∙ sym (and_assoc (eqb l.over 0) (eqb c.bits_above-over.result 0) _)
    ∙ ap (λ (t : Bool). t && fit (drop (l.i + 1) s.widths.now) (drop (l.i + 1) s.values.now)) (sym (or_test l.over c.bits_above-over.result))
