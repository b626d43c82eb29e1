use Prim.Native.Nat.{◌^◌, ◌≤◌, ◌<◌}
use mathlib.Core.Path.{refl}
use native.Mathlib.Omega.{arith}
use lib.ListN.{length, get_or}
use borrow.Author.Rules.{rules}
use Rattle.bitpack.proofs.PackLaws.{fit_length, fit_at, narrow_at}
use Rattle.bitpack.proofs.PackingLaws.{begun, held_on, finished, word-asked, one_word, two_words}
use Rattle.bitpack.proofs.packing.pack.Goals as goal
use Rattle.bitpack.proofs.packing.pack.Goals.{then-have-lt32, else-have-lt32+then-have-lt64, else-have-lt32+else-have-lt64}

pub loop-i-init : goal.loop-i-init
loop-i-init c = let s = c.args in begun s.widths.now s.values.now s.out.now

pub offset_bounds-values-i : goal.offset_bounds-values-i
offset_bounds-values-i c =
    let value_there : c.loop-i.i < length c.args.values.now = rw (fit_length c.args.widths.now c.args.values.now c.requires.fitting) c.loop-i-test.true in
    let h = value_there in search rules

pub bounds-values-i : goal.bounds-values-i
bounds-values-i c =
    let value_there : c.loop-i.i < length c.args.values.now = rw (fit_length c.args.widths.now c.args.values.now c.requires.fitting) c.loop-i-test.true in
    value_there

pub append-acc-requires : goal.append-acc-requires
append-acc-requires c =
    let width_small : c.from-w.result ≤ 40 = rw c.from-w.ensures (narrow_at 40 c.args.widths.now c.loop-i.i c.requires.small) in
    let value-small : get_or c.args.values.now c.loop-i.i 0 < 2 ^ c.from-w.result = rw c.from-w.ensures (fit_at c.args.widths.now c.args.values.now c.loop-i.i c.requires.fitting) in
    let b = width_small in (omega arith, value-small)

pub put_word-requires : goal.put_word-requires
put_word-requires c =
    let some = c.if-have-lt32.false in
    word-asked c.requires c.loop-i.invariant _ _ c.from-w.ensures refl (omega arith) _ _ (omega arith) (omega arith) _ refl

pub put_word-requires-else-have-lt64 : goal.put_word-requires-else-have-lt64
put_word-requires-else-have-lt64 c =
    let both = c.if-have-lt64.false in
    word-asked c.requires c.loop-i.invariant _ _ c.from-w.ensures refl (omega arith) _ _ (omega arith) (omega arith) _ refl

pub put_word-requires-else-have-lt64-2 : goal.put_word-requires-else-have-lt64-2
put_word-requires-else-have-lt64-2 c =
    let both = c.if-have-lt64.false in
    word-asked c.requires c.loop-i.invariant _ _ c.from-w.ensures refl (omega arith) _ _ (omega arith) (omega arith) _ c.put_word-else-have-lt64.auto.out

pub loop-i-preserved : goal.loop-i-preserved
loop-i-preserved c =
    elim c.if-have-lt32.branch [
      | then-have-lt32 w ↦
          rw (w.out-is, w.acc-is, w.have-is, w.k-is) (held_on c.requires c.loop-i.invariant _ _ c.from-w.ensures refl (omega arith) _ w.if-have-lt32.true w.append-acc.ensures)
      | else-have-lt32+then-have-lt64 w ↦
          let some = w.if-have-lt32.false in
          let most = w.if-have-lt64.true in
          rw (w.out-is, w.acc-is, w.have-is, w.k-is) (one_word c.requires c.loop-i.invariant _ _ c.from-w.ensures refl (omega arith) _ _ (omega arith) (omega arith) w.put_word.ensures)
      | else-have-lt32+else-have-lt64 w ↦
          let both = w.if-have-lt64.false in
          rw (w.out-is, w.acc-is, w.have-is, w.k-is)
          (two_words c.requires c.loop-i.invariant _ _ c.from-w.ensures refl (omega arith) _ _ _ (omega arith) w.put_word-else-have-lt64.ensures w.put_word-else-have-lt64-2.ensures)
    ]

pub returns : goal.returns
returns c = finished c.requires c.loop-i.invariant c.loop-i-test.false _ c.put_low_bytes.ensures
