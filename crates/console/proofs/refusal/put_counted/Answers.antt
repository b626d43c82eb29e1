use native.Mathlib.Omega.{arith}
use Rattle.console.proofs.LineLaws.{few, length-counted, counted-put}
use Rattle.console.proofs.refusal.put_counted.Goals as goal

pub put_decimal-colon_at-requires : goal.put_decimal-colon_at-requires
put_decimal-colon_at-requires c = let n = c.args.n in omega (arith, few n (omega arith), c.put_bytes-number_at.ensures.1, c.put_bytes-number_at.auto.out)

pub put_bytes-requires : goal.put_bytes-requires
put_bytes-requires c = let n = c.args.n in omega (arith, few n (omega arith), c.put_decimal-colon_at.ensures.1, c.put_decimal-colon_at.auto.out, c.put_bytes-number_at.ensures.1, c.put_bytes-number_at.auto.out)

pub returns : goal.returns
returns c =
    let a = c.args in
    let first = c.put_bytes-number_at.ensures in
    let second = c.put_decimal-colon_at.ensures in
    let third = c.put_bytes.ensures in
    let short = few a.n (omega arith) in (
      counted-put a.kind.now a.n a.at _ _ a.out.now _ _ _ first.1 second.1 first.0 second.0 third.0,
      rw length-counted (omega (arith, first.1, second.1, third.1)),
      omega (arith, short, first.1, second.1, third.1),
    )
