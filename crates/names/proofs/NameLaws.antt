-- Numbers that name nothing. Assumes nothing.
use Prim.Native.Nat.{ℕ, ◌≤◌}
use mathlib.Core.Path.{◌≡◌, refl, ap}
use mathlib.Core.Bool.{Bool, true, false}
use mathlib.Core.List.{[]}
use native.Mathlib.Omega.{arith}
use lib.Dec.{eqb}
use borrow.Author.Tests.{eqb-true, eqb-false}
use Rattle.isa.specs.Registers.{io_name}
use Rattle.isa.proofs.IoLaws.{no_name-above}

-- The numbers from 18 on name nothing but for 20 to 22.
pub no_name : (n : ℕ) → 18 ≤ n → (n ≡ 20 → ⊥) → (n ≡ 21 → ⊥) → (n ≡ 22 → ⊥) → io_name n ≡ []
unfolding io_name
no_name n h a b c = go (eqb n 18) (eqb n 19) refl refl
  where
    go : (s t : Bool) → eqb n 18 ≡ s → eqb n 19 ≡ t → io_name n ≡ []
    go true t e f = ap io_name (eqb-true n 18 e)
    go false true e f = ap io_name (eqb-true n 19 f)
    go false false e f = no_name-above n (omega (arith, eqb-false n 18 e, eqb-false n 19 f))
