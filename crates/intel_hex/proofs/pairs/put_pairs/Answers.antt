use Prim.Native.Nat.{◌+◌, ◌-◌, ◌*◌, ◌≤◌, ◌<◌}
use mathlib.Core.Path.{◌≡◌, ◌∙◌}
use native.Mathlib.Omega.{arith}
use lib.ListN.{length, length-drop}
use Rattle.std.specs.Iterator.Adapters.{enumerate_count}
use Rattle.intel_hex.proofs.ChunkLaws.{part-turn, part_is, part-next, part-within}
use Rattle.intel_hex.proofs.PairLaws.{pair-part, good_turn, sum_turn, bytes_turn, good-end, sum_end, bytes-end}
use Rattle.intel_hex.proofs.pairs.put_pairs.Goals as goal

pub loop-k-preserved : goal.loop-k-preserved
loop-k-preserved c =
    let steps = c.in-Some.ensures.steps in
    let l = c.loop-k.invariant in
    let s = c.args.pairs.now in
    let k = enumerate_count c.loop-k.k-iterator in
    let part = part-turn l.left l.size steps.0.1.0 steps.0.1.1 in
    let more : 2 * k + 2 ≤ length s = part-within part (omega arith) in
    let pair = pair-part s c.in-Some.two.now (2 * k) (part_is part) in
    let p = c.pair_at-pair.ensures in
    let next : 2 * (k + 1) ≡ 2 * k + 2 = omega arith in
    rw (steps.2, steps.1) (record {
      digits = good_turn s k more c.loop-k.good _ (p.0 ∙ pair.0) ∙ l.digits;
      sum = sum_turn s k more c.loop-k.sum _ (p.1 ∙ pair.1) ∙ l.sum;
      values = bytes_turn s k more c.loop-k.bytes c.args.at _ (p.1 ∙ pair.1) ∙ l.values;
      most = omega arith;
      left = rw next (part-next part);
      size = steps.0.0 ∙ l.size;
      within = omega arith;
    })

pub returns : goal.returns
returns c =
    let steps = c.in-None.ensures.steps in
    let l = c.loop-k.invariant in
    let s = c.args.pairs.now in
    let k = enumerate_count c.loop-k.k-iterator in
    let few : length s - 2 * k < 2 = rw (l.size, l.left, length-drop) at steps.0.1.0 in
    let none : length s ≤ 2 * k = omega (arith, c.requires.whole) in (
      good-end s k none c.loop-k.good ∙ l.digits,
      sum_end s k none c.loop-k.sum ∙ l.sum,
      omega arith,
      bytes-end s k none c.loop-k.bytes (c.args.at + k) ∙ l.values,
    )
