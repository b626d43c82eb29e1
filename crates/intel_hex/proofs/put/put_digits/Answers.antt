use Prim.Native.Nat.{◌+◌, ◌*◌, ◌/◌, ◌%◌, ◌^◌, ◌<◌}
use mathlib.Core.Path.{◌∙◌}
use native.Mathlib.Omega.{arith}
use lib.ListN.{get_or}
use Rattle.intel_hex.proofs.PutLaws.{low_le, high_le, sum_turn, sum_end, digits_turn, digits-end}
use Rattle.intel_hex.proofs.put.put_digits.Goals as goal

pub loop-i-preserved : goal.loop-i-preserved
loop-i-preserved c =
    let l = c.loop-i in
    let ws = c.args.words.now in
    let half = c.half_sums-sums.ensures in
    let small : get_or ws l.i 0 < 2 ^ 32 = omega (arith, c.type_inv.words l.i) in
    let few : l.sums % 65536 < 2040 = omega arith in
    record {
      digits = digits_turn ws l.i l.out _ c.args.at (omega arith) c.put_hex_word.ensures ∙ l.invariant.digits;
      sum = sum_turn ws l.i l.sums _ (omega arith) half small few ∙ l.invariant.sum;
      low = omega (arith, low_le l.sums (get_or ws l.i 0) _ half small few);
      high = omega (arith, high_le l.sums (get_or ws l.i 0) _ half small few);
    }

pub returns : goal.returns
returns c =
    let l = c.loop-i in
    let ws = c.args.words.now in
    let p = l.invariant in
    (digits-end ws l.i l.out (c.args.at + l.i * 8) (omega arith) ∙ p.digits, sum_end ws l.i (l.sums % 65536 + l.sums / 65536) (omega arith) ∙ p.sum, omega arith)
