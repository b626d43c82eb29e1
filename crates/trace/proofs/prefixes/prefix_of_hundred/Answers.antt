use Rattle.std.proofs.Common.{◌≤◌, arith}
use native.Mathlib.Nat.{lt_of_lt_of_le, pow-le-pow_right}
use Rattle.text.specs.Numerals.{digit_count}
use Rattle.text.proofs.DecimalLaws.{count_le}
use Rattle.trace.proofs.PrefixLaws.{held_short, held_long}
use Rattle.trace.proofs.prefixes.prefix_of_hundred.Goals as goal

pub hundred_cycles-requires : goal.hundred_cycles-requires
hundred_cycles-requires c =
    let short = c.if-n-le6.true in
    let n = c.digit_count-n in
    let t = c.take_digits-all in
    record {
      some = c.requires;
      counted = (n.ensures.0, omega (arith, short));
      fits = lt_of_lt_of_le t.ensures.1.0 (pow-le-pow_right {n = 256} (omega arith) short);
      hold = held_short n.result c.args.digits t.result.held 0 short t.ensures.0;
    }

pub take_digits-last-requires : goal.take_digits-last-requires
take_digits-last-requires c =
    let most : digit_count 10 c.args.digits ≤ 11 = count_le 10 (omega arith) 10 c.args.digits c.requires.1 in
    omega (arith, most, c.digit_count-n.ensures.0)

pub hundred_cycles-requires-2 : goal.hundred_cycles-requires-2
hundred_cycles-requires-2 c =
    let a = c.args in
    let n = c.digit_count-n in
    let last = c.take_digits-last in
    let first = c.take_digits-first in
    let long = c.if-n-le6.false in
    let most : digit_count 10 a.digits ≤ 11 = count_le 10 (omega arith) 10 a.digits c.requires.1 in
    let few : n.result ≤ 11 = omega (arith, most, n.ensures.0) in
    record {
      some = c.requires;
      counted = (n.ensures.0, few);
      fits = first.ensures.1.0;
      hold =
          held_long n.result a.digits first.result.held last.result.held (omega (arith, long)) (omega (arith, few)) (rw last.ensures.1.1 at first.ensures.0) last.ensures.0;
    }
