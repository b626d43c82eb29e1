use mathlib.Core.Path.{sym, ◌∙◌}
use native.Mathlib.Omega.{arith}
use borrow.Author.Tests.{ne_eqb}
use Rattle.console.specs.Refusals.{place_text}
use Rattle.text.proofs.PutLaws.{puts_nothing}
use Rattle.console.proofs.LineLaws.{no_place}
use Rattle.console.proofs.refusal.put_place.Goals as goal

pub returns-then-number-eq16 : goal.returns-then-number-eq16
unfolding place_text
returns-then-number-eq16 c = let e = c.put_counted.ensures in (rw c.if-number-eq16.true e.0, rw c.if-number-eq16.true e.1, omega (arith, e.2))

pub returns-then-has_line : goal.returns-then-has_line
unfolding place_text
returns-then-has_line c =
    let e = c.put_counted-then-has_line.ensures in
    let other = ne_eqb _ _ c.if-number-eq16.false in
    let line = sym c.has_line.ensures ∙ c.if-has_line.true in
    (simp (other, line) e.0, simp (other, line) e.1, omega (arith, e.2))

pub returns : goal.returns
returns c =
    let a = c.args in
    let other = ne_eqb _ _ c.if-number-eq16.false in
    let none = sym c.has_line.ensures ∙ c.if-has_line.false in
    let is-put = puts_nothing a.out.now a.at _ (no_place a.number a.place other none) in
    (is-put.0, is-put.1, omega arith)
