use Prim.Native.Nat.{◌+◌, ◌-◌, ◌≤◌, ◌<◌}
use mathlib.Core.Path.{◌≡◌, sym, ◌∙◌}
use mathlib.Core.Bool.{true}
use native.Mathlib.Nat.{mod-eq_of_lt}
use native.Mathlib.Omega.{arith}
use lib.Dec.{ltb}
use lib.ListN.{length}
use lib.Pow.{are_bytes}
use borrow.Author.Tests.{ltb-true, leb-true}
use Rattle.text.proofs.Truth.{and_left, and_right}
use Rattle.bitpack.proofs.BitLaws.{bits_lt}
use Rattle.bitpack.proofs.PackLaws.{narrow_at}
use Rattle.bitpack.proofs.ByteLaws.{eights, length-eights, eights_at, total-eights, all-bytes, byte_at, total-rest}
use Rattle.bitpack.proofs.StreamLaws.{begun, has_more, pull_lt, pulled_all, pulled, emitted, finished}
use Rattle.bitpack.proofs.unpacking.unpack.Goals as goal

pub loop-n-init : goal.loop-n-init
loop-n-init c = let s = c in
    begun _ _ _ _ (c.requires.whole ∙ sym (total-eights (length c.args.bytes.now))) c.requires.room

pub loop-n-preserved-then-w-have : goal.loop-n-preserved-then-w-have
loop-n-preserved-then-w-have c =
    let out_left : c.loop-n.n < length c.args.widths.now = rw (← c.loop-n.invariant.room) c.loop-n-test.true in
    emitted c.loop-n.invariant _ c.from-w.ensures (out_left) c.if-w-have.true _ c.low-acc.ensures

pub append-acc-requires : goal.append-acc-requires
append-acc-requires c = (omega arith, rw c.word_at.ensures (bits_lt _ _ 32))

pub loop-n-preserved-then-takes_word : goal.loop-n-preserved-then-takes_word
loop-n-preserved-then-takes_word c =
    let out_left : c.loop-n.n < length c.args.widths.now = rw (← c.loop-n.invariant.room) c.loop-n-test.true in
    let in_eights : c.loop-n.i < length (eights (length c.args.bytes.now)) = has_more c.loop-n.invariant (out_left) (rw (← c.from-w.ensures) c.if-w-have.false) in
    let more : c.loop-n.i < length c.args.bytes.now = rw (length-eights (length c.args.bytes.now)) at (in_eights) in
    let word-left : (c.loop-n.have < 32) × (c.loop-n.i + 4 ≤ length c.args.bytes.now) = let yes = sym c.takes_word.ensures ∙ c.if-takes_word.true in
    let h = more in
    let four = leb-true 4 (length c.args.bytes.now - c.loop-n.i) (and_right (ltb c.loop-n.have 32) _ yes) in
    (ltb-true c.loop-n.have 32 (and_left (ltb c.loop-n.have 32) _ yes), omega arith) in
    let k = length c.args.bytes.now in
    let l = c.loop-n in
    let h = word-left in
    let here = total-rest k l.i in
    let after = total-rest k (l.i + 4) in
    let all = mod-eq_of_lt (pull_lt l.invariant 32 c.word_at.result (omega arith) (rw c.word_at.ensures (bits_lt _ _ 32))) in
    pulled_all l.invariant 4 32 c.word_at.result _ (omega arith) (rw after c.word_at.ensures) (c.append-acc.ensures ∙ all) (rw (length-eights k) h.1) (omega arith)

pub loop-n-preserved : goal.loop-n-preserved
loop-n-preserved c =
    let are_bytes_lem : are_bytes c.args.bytes.now ≡ true = all-bytes c.args.bytes.now (λ i. (c.shared_slice_known-2-1.given i).fits) in
    let byte_small : c.from.result < 256 = rw c.from.ensures (c.shared_slice_known-2-1.given c.loop-n.i).fits in
    let few : c.loop-n.have < 40 = let w = c.from-w.ensures in
    let f = c.if-w-have.false in
    omega (arith, narrow_at 40 c.args.widths.now c.loop-n.n c.requires.small) in
    let out_left : c.loop-n.n < length c.args.widths.now = rw (← c.loop-n.invariant.room) c.loop-n-test.true in
    let in_eights : c.loop-n.i < length (eights (length c.args.bytes.now)) = has_more c.loop-n.invariant (out_left) (rw (← c.from-w.ensures) c.if-w-have.false) in
    let more : c.loop-n.i < length c.args.bytes.now = rw (length-eights (length c.args.bytes.now)) at (in_eights) in
    let s = c in
    let l = c.loop-n in
    let f = few in
    let v = c.from.ensures ∙ byte_at c.args.bytes.now l.i (are_bytes_lem) in
    let all = mod-eq_of_lt (pull_lt l.invariant 8 c.from.result (omega arith) (byte_small)) in
    pulled l.invariant 8 _ _ (sym (eights_at (length c.args.bytes.now) l.i (more))) v (c.append-acc-else-takes_word.ensures ∙ all) (in_eights) (omega arith)

pub returns : goal.returns
returns c = finished c.loop-n.invariant (rw (← c.loop-n.invariant.room) c.loop-n-test.false)
