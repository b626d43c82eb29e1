use Rattle.std.proofs.Common.{◌/◌, ◌%◌, ◌^◌, arith}
use Rattle.trace.proofs.LineLaws.{front_held}
use Rattle.trace.proofs.log_lines.front_digits.Goals as goal

pub overflow_add-result : goal.overflow_add-result
overflow_add-result c =
    let held = front_held c.args.pc (c.args.word / 2 ^ 40 % 256) _ _ _ (omega arith) c.pair-a.ensures c.pair-b.ensures c.pair-c.ensures in omega (arith, held.0.0)

pub overflow_add-result-2 : goal.overflow_add-result-2
overflow_add-result-2 c =
    let held = front_held c.args.pc (c.args.word / 2 ^ 40 % 256) _ _ _ (omega arith) c.pair-a.ensures c.pair-b.ensures c.pair-c.ensures in omega (arith, held.0.1)

pub overflow_sub-result : goal.overflow_sub-result
overflow_sub-result c = (front_held c.args.pc (c.args.word / 2 ^ 40 % 256) _ _ _ (omega arith) c.pair-a.ensures c.pair-b.ensures c.pair-c.ensures).0.2

pub returns : goal.returns
returns c = (front_held c.args.pc (c.args.word / 2 ^ 40 % 256) _ _ _ (omega arith) c.pair-a.ensures c.pair-b.ensures c.pair-c.ensures).1
