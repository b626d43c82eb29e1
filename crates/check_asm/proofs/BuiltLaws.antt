-- A line put so many times. Assumes nothing.
use Prim.Native.Nat.{ℕ, zero, suc, ◌-◌, ◌≤◌, ◌<◌}
use mathlib.Core.Path.{◌≡◌, refl, ap}
use mathlib.Core.List.{List}
use native.Mathlib.Omega.{arith}
use lib.ListN.{replicate}
use Rattle.console.specs.Line.{Line, appended, with_pieces}

module _ (l : Line) (x : List ℕ) where
  -- One of them put, ..
  pub repeat_turn : (m : Line) (left : ℕ) → 0 < left → m ≡ appended l x → with_pieces m (replicate (left - 1) x) ≡ with_pieces l (replicate left x)
  repeat_turn m zero h e = absurd (omega arith)
  repeat_turn m (suc left) h e = let rest : suc left - 1 ≡ left = omega arith in rw rest (ap (λ (n : Line). with_pieces n (replicate left x)) e)

  -- .. and none left.
  pub repeat_end : (left : ℕ) → left ≤ 0 → with_pieces l (replicate left x) ≡ l
  repeat_end zero h = refl
  repeat_end (suc left) h = absurd (omega arith)
