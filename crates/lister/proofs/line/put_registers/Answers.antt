use native.Mathlib.Omega.{arith}
use Rattle.lister.proofs.LineLaws.{length-registers, registers-put}
use Rattle.lister.proofs.line.put_registers.Goals as goal

pub returns : goal.returns
returns c =
    let a = c.args in
    let rd = c.put_register-rs_at.ensures in
    let rs = c.put_register-rt_at.ensures in
    let rt = c.put_register-rm_at.ensures in
    let rm = c.put_register.ensures in
    (registers-put a.rd a.rs a.rt a.rm a.at _ _ _ _ a.out.now _ _ _ _ rd.0 rs.0 rt.0 rm.0, omega (arith, length-registers a.rd a.rs a.rt a.rm))
