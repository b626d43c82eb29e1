-- Parts of a list that have the same length, lent one after the other. Assumes nothing.
use Prim.Native.Nat.{ℕ, ◌+◌, ◌≤◌, ◌<◌}
use mathlib.Core.Path.{◌≡◌, sym, ◌∙◌, ap}
use mathlib.Core.List.{List, ◌++◌}
use native.Mathlib.Omega.{arith}
use lib.ListN.{length, take, drop, length-drop, length-append}
use lib.Seq.{take_at, drop_at, drop-drop}

-- Of the list xs, what is left from the place i on begins with a part x of w numbers.
pub record Part (xs : List ℕ) (i w : ℕ) (x next : List ℕ) : Type 0 where
  pub parts : drop i xs ≡ x ++ next
  pub size : length x ≡ w

pub part-turn : {xs rest x next : List ℕ} {i w size : ℕ} → rest ≡ drop i xs → size ≡ w → rest ≡ x ++ next → length x ≡ size → Part xs i w x next
part-turn from e parts size = record { parts = sym from ∙ parts; size = size ∙ e }

module _ {xs x next : List ℕ} {i w : ℕ} (p : Part xs i w x next) where
  pub part_is : x ≡ take w (drop i xs)
  part_is = sym (take_at x next w p.size) ∙ ap (take w) (sym p.parts)

  pub part-next : next ≡ drop (i + w) xs
  part-next = sym (drop_at x next w p.size) ∙ ap (drop w) (sym p.parts) ∙ drop-drop w i xs

  pub part-within : 0 < w → i + w ≤ length xs
  part-within some = omega (arith, p.size, length-append x next, length-drop i xs, ap length p.parts)
