use Prim.Native.Nat.{ℕ, ◌+◌, ◌%◌, ◌^◌, ◌≤◌, ◌<◌}
use mathlib.Core.Path.{◌≡◌, sym, ap, ◌∙◌}
use native.Mathlib.Omega.{arith}
use lib.ListN.{length, get_or}
use borrow.Author.Rules.{rules}
use Rattle.bitpack.specs.Packed.{bytes_of}
use Rattle.bitpack.proofs.BitLaws.{shifted_low}
use Rattle.bitpack.proofs.PackLaws.{fit_length, fit_at, narrow_at, packed-at}
use Rattle.bitpack.proofs.ByteLaws.{eights, length-eights, eights_at, total-eights}
use Rattle.bitpack.proofs.StreamLaws.{begun, has_more, pulled, emitted, finished}
use Rattle.bench_saved.proofs.HeldLaws.{top_of, rest_of}
use Rattle.bench_saved.proofs.by_bytes.pack_bytes.Goals as goal

pub loop-n-init : goal.loop-n-init
loop-n-init c =
    let k = length c.args.out.now in
    begun _ _ _ _ (total-eights k ∙ sym c.requires.whole) (sym (length-eights k))

pub loop-n-preserved-then-have-ge8 : goal.loop-n-preserved-then-have-ge8
loop-n-preserved-then-have-ge8 c =
    let in_eights : c.loop-n.n < length (eights (length c.args.out.now)) = rw (← c.loop-n.invariant.room) c.loop-n-test.true in
    let out_left : c.loop-n.n < length c.args.out.now = let k = length c.args.out.now in
    let r = c.loop-n.invariant.room in
    let h = c.loop-n-test.true in
    omega (arith, length-eights k) in
    let is_eight : get_or (eights (length c.args.out.now)) c.loop-n.n 0 ≡ 8 = eights_at (length c.args.out.now) c.loop-n.n (out_left) in
    let l = c.loop-n in
    let enough = c.if-have-ge8.true in
    rw (c.low_byte.ensures ∙ top_of l.acc l.have 8 enough) (emitted l.invariant 8 (sym (is_eight)) (in_eights) enough _ (rest_of l.acc l.have 8 enough))

pub bounds-widths-i : goal.bounds-widths-i
bounds-widths-i c =
    let in_eights : c.loop-n.n < length (eights (length c.args.out.now)) = rw (← c.loop-n.invariant.room) c.loop-n-test.true in
    let out_left : c.loop-n.n < length c.args.out.now = let k = length c.args.out.now in
    let r = c.loop-n.invariant.room in
    let h = c.loop-n-test.true in
    omega (arith, length-eights k) in
    let is_eight : get_or (eights (length c.args.out.now)) c.loop-n.n 0 ≡ 8 = eights_at (length c.args.out.now) c.loop-n.n (out_left) in
    let more : c.loop-n.i < length c.args.widths.now = has_more c.loop-n.invariant (in_eights) (rw (is_eight) c.if-have-ge8.false) in
    more

pub offset_bounds-values-i : goal.offset_bounds-values-i
offset_bounds-values-i c =
    let in_eights : c.loop-n.n < length (eights (length c.args.out.now)) = rw (← c.loop-n.invariant.room) c.loop-n-test.true in
    let out_left : c.loop-n.n < length c.args.out.now = let k = length c.args.out.now in
    let r = c.loop-n.invariant.room in
    let h = c.loop-n-test.true in
    omega (arith, length-eights k) in
    let is_eight : get_or (eights (length c.args.out.now)) c.loop-n.n 0 ≡ 8 = eights_at (length c.args.out.now) c.loop-n.n (out_left) in
    let more : c.loop-n.i < length c.args.widths.now = has_more c.loop-n.invariant (in_eights) (rw (is_eight) c.if-have-ge8.false) in
    let value_there : c.loop-n.i < length c.args.values.now = rw (fit_length c.args.widths.now c.args.values.now c.requires.fitting) (more) in
    let h = value_there in search rules

pub bounds-values-i : goal.bounds-values-i
bounds-values-i c =
    let in_eights : c.loop-n.n < length (eights (length c.args.out.now)) = rw (← c.loop-n.invariant.room) c.loop-n-test.true in
    let out_left : c.loop-n.n < length c.args.out.now = let k = length c.args.out.now in
    let r = c.loop-n.invariant.room in
    let h = c.loop-n-test.true in
    omega (arith, length-eights k) in
    let is_eight : get_or (eights (length c.args.out.now)) c.loop-n.n 0 ≡ 8 = eights_at (length c.args.out.now) c.loop-n.n (out_left) in
    let more : c.loop-n.i < length c.args.widths.now = has_more c.loop-n.invariant (in_eights) (rw (is_eight) c.if-have-ge8.false) in
    let value_there : c.loop-n.i < length c.args.values.now = rw (fit_length c.args.widths.now c.args.values.now c.requires.fitting) (more) in
    value_there

pub append-acc-requires : goal.append-acc-requires
append-acc-requires c =
    let width_small : get_or c.args.widths.now c.loop-n.i 0 ≤ 40 = narrow_at 40 c.args.widths.now c.loop-n.i c.requires.small in
    let value-small : get_or c.args.values.now c.loop-n.i 0
    < 2 ^ get_or c.args.widths.now c.loop-n.i 0 = fit_at c.args.widths.now c.args.values.now c.loop-n.i c.requires.fitting in
    let w = c.from-w.ensures in
    let b = width_small in
    (omega arith, rw w (value-small))

pub loop-n-smaller : goal.loop-n-smaller
loop-n-smaller c =
    let in_eights : c.loop-n.n < length (eights (length c.args.out.now)) = rw (← c.loop-n.invariant.room) c.loop-n-test.true in
    let out_left : c.loop-n.n < length c.args.out.now = let k = length c.args.out.now in
    let r = c.loop-n.invariant.room in
    let h = c.loop-n-test.true in
    omega (arith, length-eights k) in
    let is_eight : get_or (eights (length c.args.out.now)) c.loop-n.n 0 ≡ 8 = eights_at (length c.args.out.now) c.loop-n.n (out_left) in
    let more : c.loop-n.i < length c.args.widths.now = has_more c.loop-n.invariant (in_eights) (rw (is_eight) c.if-have-ge8.false) in
    let h = more in omega arith

pub loop-n-preserved : goal.loop-n-preserved
loop-n-preserved c =
    let in_eights : c.loop-n.n < length (eights (length c.args.out.now)) = rw (← c.loop-n.invariant.room) c.loop-n-test.true in
    let out_left : c.loop-n.n < length c.args.out.now = let k = length c.args.out.now in
    let r = c.loop-n.invariant.room in
    let h = c.loop-n-test.true in
    omega (arith, length-eights k) in
    let is_eight : get_or (eights (length c.args.out.now)) c.loop-n.n 0 ≡ 8 = eights_at (length c.args.out.now) c.loop-n.n (out_left) in
    let more : c.loop-n.i < length c.args.widths.now = has_more c.loop-n.invariant (in_eights) (rw (is_eight) c.if-have-ge8.false) in
    let width_small : get_or c.args.widths.now c.loop-n.i 0 ≤ 40 = narrow_at 40 c.args.widths.now c.loop-n.i c.requires.small in
    let value-small : get_or c.args.values.now c.loop-n.i 0
    < 2 ^ get_or c.args.widths.now c.loop-n.i 0 = fit_at c.args.widths.now c.args.values.now c.loop-n.i c.requires.fitting in
    let l = c.loop-n in
    let w = c.from-w.ensures in
    let b = width_small in
    let f = c.if-have-ge8.false in
    let room : l.have + c.from-w.result < 64 = omega arith in
    let held = ap (λ (x : ℕ). x % 2 ^ (l.have + c.from-w.result)) c.append-acc.ensures ∙ shifted_low l.acc l.have c.from-w.result _ (omega arith) (rw w (value-small)) in
    pulled l.invariant _ _ _ w (packed-at c.args.widths.now c.args.values.now l.i c.requires.fitting) held (more) room

pub returns : goal.returns
unfolding bytes_of
returns c = finished c.loop-n.invariant (rw (← c.loop-n.invariant.room) c.loop-n-test.false)
