-- Words that stand in a row, one after the other. Assumes nothing.
use Prim.Native.Nat.{ℕ, ◌+◌, ◌≤◌, ◌<◌}
use mathlib.Core.Path.{◌≡◌}
use mathlib.Core.List.{List}
use native.Mathlib.Numerals.{add-one}
use native.Mathlib.Omega.{arith}
use lib.ListN.{length, get_or, drop, drop_of_length-le}
use lib.Seq.{drop-cons}
use borrow.Author.Tests.{eq-eqb, ne_eqb}
use Rattle.check_asm.specs.Rows.{in_row}

module _ (words : List ℕ) (x i : ℕ) where
  -- One more, ..
  pub row_more : i < length words → get_or words i 0 ≡ x → i + in_row x (drop i words) ≡ i + 1 + in_row x (drop (i + 1) words)
  unfolding in_row
  row_more h e = rw (add-one i, drop-cons words i 0 h, eq-eqb (get_or words i 0) x e) (omega arith)

  -- .. another one, ..
  pub row_stops : i < length words → (get_or words i 0 ≡ x → ⊥) → i + in_row x (drop i words) ≡ i
  unfolding in_row
  row_stops h n = rw (drop-cons words i 0 h, ne_eqb (get_or words i 0) x n) (omega arith)

  -- .. or none.
  pub row_ends : length words ≤ i → i + in_row x (drop i words) ≡ i
  unfolding in_row
  row_ends h = rw (drop_of_length-le words h) (omega arith)
