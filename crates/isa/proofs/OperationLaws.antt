-- The operations by ranges of opcodes. Assumes nothing.
use Rattle.std.proofs.Common.{◌≡◌, ℕ, zero, suc, ◌+◌, ◌-◌, ◌<◌, ◌≤◌, List, [], ◌∷◌, ◌++◌, map, length, get_or, drop, sym, refl, ap, ◌∙◌, le_of_suc-le-suc, not-suc-le-zero, arith, get_or-drop}
use lib.ListN.{get_or-eq_default}
use Rattle.isa.specs.Operations.{Operation, calculate, branch, unknown, add, beq, calculations, comparisons, operations, operation_of, calculation_of, comparison_of}
use Rattle.isa.specs.Accesses.{access_of}
use Rattle.std.proofs.Common.{None}

-- An operation of the family that stands first.
of_family : {A : Type 0} (f : A → Operation) (l : List A) (r : List Operation) (n : ℕ) (e : A) → n < length l → get_or (map f l ++ r) n unknown ≡ f (get_or l n e)
of_family f [] r n e h = absurd (not-suc-le-zero h)
of_family f (x ∷ l) r zero e h = refl
of_family f (x ∷ l) r (suc n) e h = of_family f l r n e (le_of_suc-le-suc h)

-- 0 to 8 calculate.
pub calculation_at : (op : ℕ) → op < 9 → operation_of op ≡ calculate (calculation_of op)
unfolding operation_of calculation_of operations calculations
calculation_at op h = of_family calculate calculations (drop 9 operations) op add h

-- 9 to 14 compare.
pub comparison_at : (op : ℕ) → 9 ≤ op → op < 15 → operation_of op ≡ branch (comparison_of op)
unfolding operation_of comparison_of operations calculations comparisons
comparison_at op low high =
    let from-nine : op ≡ 9 + (op - 9) = omega arith in
    ap (λ (n : ℕ). get_or operations n unknown) from-nine ∙ sym (get_or-drop 9 operations (op - 9) unknown)
    ∙ of_family branch comparisons (drop 15 operations) (op - 9) beq (omega arith)

-- 15 to 18 do nothing with the I/O registers.
pub nothing_at : (op : ℕ) → 15 ≤ op → op < 19 → access_of (operation_of op) ≡ None
unfolding operation_of access_of
nothing_at op low high = let from : op ≡ 15 + (op - 15) = omega arith in rw from (go (op - 15) (omega arith))
  where
    go : (k : ℕ) → k < 4 → access_of (operation_of (15 + k)) ≡ None
    go zero h = refl
    go (suc zero) h = refl
    go (suc (suc zero)) h = refl
    go (suc (suc (suc zero))) h = refl
    go (suc (suc (suc (suc k)))) h = absurd (omega arith)

-- Above 21 there is none.
pub unknown_above : (op : ℕ) → 22 ≤ op → operation_of op ≡ unknown
unfolding operation_of
unknown_above op h = get_or-eq_default operations unknown h
