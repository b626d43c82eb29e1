use Rattle.std.proofs.Common.{arith}
use Rattle.text.proofs.DecimalLaws.{count_pos}
use Rattle.trace.proofs.PrefixLaws.{cycle-put}
use Rattle.trace.proofs.prefixes.Prefix.put_cycle.Goals as goal

pub put_eight-requires : goal.put_eight-requires
put_eight-requires c = omega (arith, c.requires.0, count_pos 10 (omega arith) c.args.c)

pub returns : goal.returns
returns c =
    let a = c.args in
    let s = c.requires.1 in
    let first = rw c.from.ensures at c.put_eight.ensures in
    let last = rw c.last_two-last.ensures at c.put_two.ensures in
    (omega (arith, s.counted), λ rest h. cycle-put a.letter a.c a.at _ _ _ _ _ (omega arith) s a.out.now _ _ _ rest first c.put_more.ensures last h)
