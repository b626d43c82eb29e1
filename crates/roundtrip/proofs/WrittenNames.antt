-- The names of operations and registers, as they are written and looked up. Each law is a test computed over the table. Assumes nothing.
use Prim.Native.Nat.{ℕ, ◌≤◌, ◌<◌}
use mathlib.Core.Path.{◌≡◌, refl}
use mathlib.Core.Bool.{true}
use mathlib.Core.List.{List}
use native.Mathlib.Omega.{arith}
use lib.Dec.{eqb}
use borrow.Author.Tests.{eqb-true}
use Rattle.text.proofs.Truth.{below}
use Rattle.isa.specs.Operations.{operation_names, operation_name}
use Rattle.isa.specs.Registers.{register_names, register_name}
use Rattle.text.specs.Same.{same}
use Rattle.source.specs.Names.{is_name, is_register}
use Rattle.source.specs.Lookup.{is_among, place_of}
use Rattle.roundtrip.proofs.WrittenTokens.{Written, is_written, is-written}

-- A token that is written for the operation k.
pub record OperationToken (k : ℕ) (t : List ℕ) : Type 0 where
  pub written : Written t
  pub name : is_name t ≡ true
  pub among : is_among operation_names t ≡ true
  pub place : place_of operation_names t ≡ k

pub operation-token : (k : ℕ) → k ≤ 21 → OperationToken k (operation_name k)
unfolding operation_name operation_names is_name is_among place_of same
operation-token k h =
    let known : k < 22 = omega arith in
    record {
      written = is-written (operation_name k) (below (λ n. is_written (operation_name n)) 22 refl k known);
      name = below (λ n. is_name (operation_name n)) 22 refl k known;
      among = below (λ n. is_among operation_names (operation_name n)) 22 refl k known;
      place = eqb-true _ _ (below (λ n. eqb (place_of operation_names (operation_name n)) n) 22 refl k known);
    }

-- A token that is written for the register k.
pub record RegisterToken (k : ℕ) (t : List ℕ) : Type 0 where
  pub written : Written t
  pub name : is_register t ≡ true
  pub among : is_among register_names t ≡ true
  pub place : place_of register_names t ≡ k

pub register-token : (k : ℕ) → k < 16 → RegisterToken k (register_name k)
unfolding register_name register_names is_register is_among place_of same
register-token k h =
    record {
      written = is-written (register_name k) (below (λ n. is_written (register_name n)) 16 refl k h);
      name = below (λ n. is_register (register_name n)) 16 refl k h;
      among = below (λ n. is_among register_names (register_name n)) 16 refl k h;
      place = eqb-true _ _ (below (λ n. eqb (place_of register_names (register_name n)) n) 16 refl k h);
    }
