use Prim.Native.Nat.{◌+◌, ◌-◌, ◌*◌, ◌≤◌, ◌<◌}
use mathlib.Core.Path.{◌≡◌, refl, ◌∙◌, ap}
use native.Mathlib.Omega.{arith}
use native.Mathlib.Nat.{sub-zero}
use lib.ListN.{length, length-drop}
use Rattle.std.specs.Iterator.Adapters.{enumerate_count}
use Rattle.text.specs.Place.{put}
use Rattle.intel_hex.specs.Writing.{hex_text}
use Rattle.intel_hex.proofs.ChunkLaws.{part-turn, part_is, part-next, part-within}
use Rattle.intel_hex.proofs.PutLaws.{text_turn, text-end, length-text}
use Rattle.intel_hex.proofs.put.put_hex_text.Goals as goal

pub loop-i-init : goal.loop-i-init
unfolding hex_text
loop-i-init c = rw (c.into_iter-i-iterator.ensures.into_iter_gives, c.enumerate-i-items.ensures.count, c.enumerate-i-items.ensures.source, c.chunks_exact.ensures.rest)
    (record { text = rw sub-zero; place = refl; left = refl; size = c.chunks_exact.ensures.size; within = omega arith })

pub loop-i-preserved : goal.loop-i-preserved
loop-i-preserved c =
    let steps = c.in-Some.ensures.steps in
    let l = c.loop-i.invariant in
    let ws = c.args.words.now in
    let i = enumerate_count c.loop-i.i-iterator in
    let part = part-turn l.left l.size steps.0.1.0 steps.0.1.1 in
    let more : 4 * i + 4 ≤ length ws = part-within part (omega arith) in
    let next : 4 * (i + 1) ≡ 4 * i + 4 = omega arith in
    let four : 4 * i + 4 - 4 * i ≡ 4 = omega arith in
    let address : 16 * c.in-Some.i ≡ 4 * (4 * i) = omega (arith, steps.1) in
    rw steps.2 (record {
      text = rw next (text_turn ws (4 * i) c.loop-i.out _ c.loop-i.at more (rw four (rw (address, part_is part) at c.put_record.ensures)) ∙ l.text);
      place = omega arith;
      left = rw next (part-next part);
      size = steps.0.0 ∙ l.size;
      within = omega arith;
    })

pub returns : goal.returns
returns c =
    let steps = c.in-None.ensures.steps in
    let l = c.loop-i.invariant in
    let ws = c.args.words.now in
    let i = enumerate_count c.loop-i.i-iterator in
    let few : length ws - 4 * i < 4 = rw (l.size, l.left, length-drop) at steps.0.1.0 in
    let none : length ws ≤ 4 * i = omega (arith, c.requires.0) in
    let p = c.put_bytes.ensures in (
      p.0 ∙ ap (put c.loop-i.out c.loop-i.at) (text-end ws (4 * i) none) ∙ l.text,
      p.1 ∙ omega (arith, length-text ws c.requires.0),
    )
