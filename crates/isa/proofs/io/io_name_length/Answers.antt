use Rattle.std.proofs.Common.{ℕ, List, length, sym, refl, ap}
use Rattle.text.proofs.TableLaws.{numbers_rule}
use Rattle.isa.specs.Registers.{io_name}
use Rattle.isa.proofs.IoLaws.{no_name-above}
use Rattle.isa.proofs.io.io_name_length.Goals as goal

pub returns-then-n-lt23 : goal.returns-then-n-lt23
unfolding io_name
returns-then-n-lt23 c = rw (numbers_rule (λ (k : ℕ). length (io_name k)) _ 23 refl c.args.n c.if-n-lt23.true)

pub returns-else-n-lt23 : goal.returns-else-n-lt23
returns-else-n-lt23 c = sym (ap (λ (name : List ℕ). length name) (no_name-above c.args.n c.if-n-lt23.false))
