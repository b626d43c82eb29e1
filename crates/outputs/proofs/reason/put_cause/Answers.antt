use native.Mathlib.Omega.{arith}
use borrow.Author.Tests.{eq-eqb, ne_eqb}
use Rattle.outputs.specs.Reasons.{cause_of, fault}
use Rattle.outputs.proofs.reason.put_cause.Goals as goal

pub returns-then-core-eq0 : goal.returns-then-core-eq0
unfolding cause_of
returns-then-core-eq0 c = let e = c.put_unfinished.ensures in let running = eq-eqb _ _ c.if-core-eq0.true in (rw running e.0, rw running e.1, e.2)

pub returns-then-core-eq1 : goal.returns-then-core-eq1
unfolding cause_of
returns-then-core-eq1 c =
    let e = c.put_bytes.ensures in
    let stopped = ne_eqb _ _ c.if-core-eq0.false in
    let halted = eq-eqb _ _ c.if-core-eq1.true in
    (rw (stopped, halted) e.0, rw (stopped, halted) e.1, omega (arith, e.1))

pub returns : goal.returns
unfolding cause_of fault
returns c =
    let e = c.put_status.ensures in
    let stopped = ne_eqb _ _ c.if-core-eq0.false in
    let faulty = ne_eqb _ _ c.if-core-eq1.false in
    (rw (stopped, faulty) e.0, rw (stopped, faulty) e.1, omega (arith, e.2))
