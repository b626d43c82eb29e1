-- R1, R2 and the operands of an instruction. Assumes nothing.
use Prim.Native.Nat.{ℕ}
use mathlib.Core.Path.{◌≡◌, refl, sym, ◌∙◌, ap}
use mathlib.Core.List.{List, [], ◌∷◌, ◌++◌}
use native.Mathlib.Omega.{arith}
use lib.ListN.{length, get_or, set, drop}
use Rattle.isa.specs.declared.Fields.{Fields}
use Rattle.isa.specs.Word.{sign_extended}
use Rattle.trace.specs.LogLines.{front_t, line_t}
use Rattle.trace.proofs.LineLaws.{line_t_is}
use Rattle.machine.specs.declared.Core.{Core}
use Rattle.executor.specs.Lent.{HaveText, packed}
use Rattle.machine.specs.Execution.{operands_from, registers_of, operands_of}

-- R0 to R15 by R1 and R2.
pub by_immediates : (r : List ℕ) → length r ≡ 16 → get_or r 0 0 ≡ 0 → r ≡ 0 ∷ get_or r 1 0 ∷ get_or r 2 0 ∷ drop 3 r
by_immediates [] h e = absurd (omega arith)
by_immediates (x ∷ []) h e = absurd (omega arith)
by_immediates (x ∷ y ∷ []) h e = absurd (omega arith)
by_immediates (x ∷ y ∷ z ∷ r) h e = ap (λ (n : ℕ). n ∷ y ∷ z ∷ r) e

-- The T line from its front, in which R1 and R2 stand, and the text of the others.
pub line_of : (pc word a b : ℕ) (registers text : List ℕ) → HaveText registers text → get_or registers 1 0 ≡ a → get_or registers 2 0 ≡ b
    → front_t pc word a b ++ text ≡ line_t pc word registers
line_of pc word a b registers text k p q =
    ap (λ (t : List ℕ). front_t pc word a b ++ t) k.is
    ∙ line_t_is pc word a b (drop 3 registers)
    ∙ ap (line_t pc word) (rw (← p, ← q) (sym (by_immediates registers k.sixteen k.zero)))

-- R1 and R2 set.
pub immediates-set : (r : List ℕ) (a b : ℕ) → length r ≡ 16 → get_or r 0 0 ≡ 0 → set (set r 1 a) 2 b ≡ 0 ∷ a ∷ b ∷ drop 3 r
immediates-set [] a b h e = absurd (omega arith)
immediates-set (x ∷ []) a b h e = absurd (omega arith)
immediates-set (x ∷ y ∷ []) a b h e = absurd (omega arith)
immediates-set (x ∷ y ∷ z ∷ r) a b h e = ap (λ (n : ℕ). n ∷ a ∷ b ∷ r) e

-- The operands that are read after R1 and R2 are set.
pub operands-read : (f : Fields) (c : Core) (r io memory disk frame : List ℕ) (a b : ℕ) → length r ≡ 16 → get_or r 0 0 ≡ 0 → a ≡ sign_extended f.imm1 → b ≡ sign_extended f.imm2
    → (operands_from f (set (set r 1 a) 2 b) ≡ operands_of f (packed c r io memory disk frame)) × (set (set r 1 a) 2 b ≡ registers_of f (packed c r io memory disk frame))
operands-read f c r io memory disk frame a b h z p q =
    let are : set (set r 1 a) 2 b ≡ registers_of f (packed c r io memory disk frame) = immediates-set r a b h z ∙ rw (p, q) refl in
    (ap (operands_from f) are, are)
