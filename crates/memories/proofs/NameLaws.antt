-- A name that is another one and bytes after it. Assumes nothing.
use Prim.Native.Nat.{ℕ, ◌-◌}
use mathlib.Core.Path.{◌≡◌, refl}
use mathlib.Core.Bool.{Bool, true, false, ◌&&◌}
use mathlib.Core.List.{List, [], ◌∷◌, ◌++◌}
use native.Mathlib.Omega.{arith}
use lib.Dec.{eqb}
use lib.ListN.{length, take, drop, length-drop}
use lib.Seq.{take_all}
use Rattle.text.specs.Same.{same}

-- A list is one list and another after it.
same-append : (s t u : List ℕ) → (same (take (length t) s) t && same (drop (length t) s) u) ≡ same s (t ++ u)
unfolding same
same-append s [] u = refl
same-append [] (c ∷ t) u = refl
same-append (b ∷ s) (c ∷ t) u = go (eqb b c) (same-append s t u)
  where
    go : (x : Bool) → (same (take (length t) s) t && same (drop (length t) s) u) ≡ same s (t ++ u)
        → (x && same (take (length t) s) t && same (drop (length t) s) u) ≡ (x && same s (t ++ u))
    go true e = e
    go false e = refl

-- By the front, and by what stands after it.
module _ (s t u : List ℕ) where
  pub same_after : same (take (length t) s) t ≡ true → same (take (length s - length t) (drop (length t) s)) u ≡ same s (t ++ u)
  same_after e = rw (take_all (length s - length t) (drop (length t) s) (rw length-drop (omega arith))) (rw e at (same-append s t u))

  pub other_before : same (take (length t) s) t ≡ false → false ≡ same s (t ++ u)
  other_before e = rw e at (same-append s t u)
