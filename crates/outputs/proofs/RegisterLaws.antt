-- The registers' names and numbers, and their lines, as the code puts them. Assumes nothing.
use Prim.Native.Nat.{ℕ, ◌+◌, ◌≤◌, ◌<◌}
use mathlib.Core.Path.{◌≡◌, refl}
use mathlib.Core.List.{List, [], ◌∷◌, ◌++◌, append_assoc}
use native.Mathlib.Omega.{arith}
use lib.Dec.{eqb}
use lib.ListN.{length, get_or, length-append}
use borrow.Author.Tests.{eqb-true}
use Rattle.text.specs.Lines.{LF}
use Rattle.text.specs.Numerals.{digits}
use Rattle.text.specs.Place.{put}
use Rattle.text.proofs.DigitLaws.{length_digits}
use Rattle.text.proofs.Truth.{below, between}
use Rattle.trace.specs.LogLines.{field}
use Rattle.isa.specs.Registers.{register_name}
use Rattle.outputs.specs.RecordText.{word_line, saved_registers, saved_io}
use Rattle.outputs.proofs.PieceLaws.{Piece, joined}

-- A name and a word on a line.
pub word-put : (name : List ℕ) (x at p q : ℕ) (d e f : List ℕ) → Piece d at name e p → f ≡ put e p (field (digits 16 8 x) ++ (LF ∷ [])) → q ≡ p + 10
    → Piece d at (word_line name x ++ (LF ∷ [])) f q
unfolding word_line
word-put name x at p q d e f first second t =
    rw append_assoc
    (joined d e f at p q name (field (digits 16 8 x) ++ (LF ∷ [])) first (second, simp (length-append, length_digits) (omega arith)))

-- The names of R3 to R15 have three bytes each.
pub name-length : (i : ℕ) → i < 13 → length (register_name (3 + i)) ≡ 3
unfolding register_name
name-length i h = eqb-true _ _ (below (λ k. eqb (length (register_name (3 + k))) 3) 13 refl i h)

-- The numbers of the registers in turn, ..
pub register-number : (i : ℕ) → i < 13 → 3 + i ≡ get_or saved_registers i 0
register-number i h = eqb-true _ _ (below (λ k. eqb (3 + k) (get_or saved_registers k 0)) 13 refl i h)

-- .. and of the I/O registers.
pub io-number : (i : ℕ) → i < 18 → i ≡ get_or saved_io i 0
io-number i h = eqb-true _ _ (below (λ k. eqb k (get_or saved_io k 0)) 18 refl i h)

pub io-number-after : (i : ℕ) → 18 ≤ i → i < 20 → i + 2 ≡ get_or saved_io i 0
io-number-after i low high = eqb-true _ _ (between (λ k. eqb (k + 2) (get_or saved_io k 0)) 18 20 refl i low high)
