use mathlib.Core.Path.{◌∙◌}
use native.Mathlib.Omega.{arith}
use lib.ListN.{length-set}
use Rattle.summary.proofs.LineLaws.{length-E, line_e_put}
use Rattle.summary.proofs.lines.put_line_e.Goals as goal

pub bounds-out-at : goal.bounds-out-at
bounds-out-at c = let room = rw length-E at c.requires in omega arith

pub put_number-age_at-requires : goal.put_number-age_at-requires
put_number-age_at-requires c = let room = rw length-E at c.requires in simp length-set (omega arith)

pub put_number-time_at-requires : goal.put_number-time_at-requires
put_number-time_at-requires c =
    let room = rw length-E at c.requires in
    let size = simp length-set at c.put_number-age_at.auto.out in
    omega arith

pub put_last_number-requires : goal.put_last_number-requires
put_last_number-requires c =
    let room = rw length-E at c.requires in
    let size = simp length-set at (c.put_number-time_at.auto.out ∙ c.put_number-age_at.auto.out) in
    rw c.milliseconds.ensures (omega arith)

pub returns : goal.returns
returns c =
    let a = c.args in
    let status = c.put_number-age_at.ensures in
    let age = c.put_number-time_at.ensures in
    let time = c.put_last_number.ensures in
    let ms = c.milliseconds.ensures in
    (line_e_put a.status a.age a.at _ _ a.out.now _ _ _ status.1 age.1 status.0 age.0 (rw ms at time.0), rw length-E (omega (arith, rw ms at time.1)))
