use Rattle.std.proofs.Common.{arith}
use Rattle.text.proofs.PutLaws.{puts_nothing}
use Rattle.names.proofs.NameLaws.{no_name}
use Rattle.names.proofs.put_device_name.Goals as goal

pub returns-in_default : goal.returns-in_default
returns-in_default c =
    let a = c.args in
    puts_nothing a.out.now a.at _ (no_name a.n (omega arith) (λ e. omega arith) (λ e. omega arith) (λ e. omega arith))
