-- Numbers that name no operation and no register. Assumes nothing.
use Rattle.std.proofs.Common.{◌≡◌, ℕ, ◌≤◌, []}
use lib.ListN.{get_or-eq_default}
use Rattle.isa.specs.Operations.{operation_names, operation_name}
use Rattle.isa.specs.Registers.{register_names, register_name}

pub no_operation : (n : ℕ) → 22 ≤ n → operation_name n ≡ []
unfolding operation_name
no_operation n h = get_or-eq_default operation_names [] h

pub no_register : (n : ℕ) → 16 ≤ n → register_name n ≡ []
unfolding register_name
no_register n h = get_or-eq_default register_names [] h
