use native.Mathlib.Omega.{arith}
use borrow.Author.Tests.{eq-eqb, ne_eqb}
use Rattle.outputs.specs.Reasons.{unfinished}
use Rattle.outputs.proofs.reason.put_unfinished.Goals as goal

pub returns-then-age-eq-CYCLE_LIMIT : goal.returns-then-age-eq-CYCLE_LIMIT
unfolding unfinished
returns-then-age-eq-CYCLE_LIMIT c = let e = c.put_bytes.ensures in let limit = eq-eqb _ _ c.if-age-eq-CYCLE_LIMIT.true in (rw limit e.0, rw limit e.1, omega (arith, e.1))

pub returns : goal.returns
unfolding unfinished
returns c = let e = c.put_bytes-2.ensures in let other = ne_eqb _ _ c.if-age-eq-CYCLE_LIMIT.false in (rw other e.0, rw other e.1, omega (arith, e.1))
