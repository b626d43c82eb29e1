-- R0 to R15 in the code, and the text beside them. Assumes nothing.
use Prim.Native.Nat.{ℕ, ◌+◌, ◌-◌, ◌*◌, ◌≤◌, ◌<◌}
use mathlib.Core.Path.{◌≡◌, refl, sym, ◌∙◌, ap}
use mathlib.Core.Bool.{Bool, true, false, cond}
use mathlib.Core.List.{List}
use native.Mathlib.Omega.{arith}
use lib.Dec.{ltb}
use lib.ListN.{length, set, drop, length-append, length-set, length-drop}
use lib.Seq.{get_or-set_other, drop-set-add}
use borrow.Author.Tests.{le-ltb, ltb-false}
use Rattle.text.specs.Numerals.{digits}
use Rattle.text.specs.Place.{put}
use Rattle.trace.specs.LogLines.{registers_text}
use Rattle.trace.proofs.LengthLaws.{length_fields}
use Rattle.trace.proofs.RegisterTextLaws.{text-set}
use Rattle.machine.specs.declared.Core.{Core}
use Rattle.machine.specs.State.{put_register}
use Rattle.executor.specs.Lent.{HaveText, stored, packed}

-- The text has 118 bytes.
pub text-length : {registers text : List ℕ} → HaveText registers text → length text ≡ 118
unfolding registers_text
text-length {registers} {text} k =
    let sixteen = k.sixteen in
    rw k.is (simp (length-append, length_fields, length-drop) (omega arith))

-- R3 to R15 where a register from R3 on is written.
drop-set : (registers : List ℕ) (n x : ℕ) → 3 ≤ n → drop 3 (set registers n x) ≡ set (drop 3 registers) (n - 3) x
drop-set registers n x low =
    let from : n ≡ 3 + (n - 3) = omega arith in
    ap (λ (i : ℕ). drop 3 (set registers i x)) from ∙ drop-set-add 3 registers (n - 3) x

-- It is written, with its text.
pub text-written : (registers text after : List ℕ) (n x : ℕ) → 3 ≤ n → n < 16 → HaveText registers text → after ≡ put text ((n - 3) * 9 + 1) (digits 16 8 x)
    → (set registers n x ≡ stored n x registers) × HaveText (set registers n x) after
text-written registers text after n x low high k is-put =
    let sixteen = k.sixteen in
    let room : n - 3 < length (drop 3 registers) = rw length-drop (omega arith) in (
      rw (le-ltb n 3 low) refl,
      record {
        sixteen = length-set registers n x ∙ k.sixteen;
        zero = get_or-set_other registers n 0 x 0 (λ e. omega arith) ∙ k.zero;
        is = text-set (drop 3 registers) text after (n - 3) x room k.is is-put ∙ ap registers_text (sym (drop-set registers n x low));
      },
    )

-- The machine whose register was written.
pub register-put : (c : Core) (registers after io memory disk frame : List ℕ) (n x : ℕ) → after ≡ stored n x registers
    → packed c after io memory disk frame ≡ put_register n x (packed c registers io memory disk frame)
register-put c registers after io memory disk frame n x e =
    ap (λ (r : List ℕ). packed c r io memory disk frame) e
    ∙ ap (λ (r : List ℕ). record { core = c; regs = r; io = io; memory = memory; disk = disk; frame = frame }) (go (ltb n 3) refl)
  where
    go : (t : Bool) → ltb n 3 ≡ t → drop 3 (cond t registers (set registers n x)) ≡ cond t (drop 3 registers) (set (drop 3 registers) (n - 3) x)
    go true q = refl
    go false q = drop-set registers n x (ltb-false n 3 q)
