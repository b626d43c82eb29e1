-- Words that are the same ones, or all the same one. Assumes nothing.
use Prim.Native.Nat.{ℕ}
use mathlib.Core.Path.{◌≡◌, refl, ap}
use mathlib.Core.Bool.{Bool, ◌&&◌}
use mathlib.Core.List.{List, [], ◌∷◌, map}
use lib.Dec.{eqb}
use lib.Pointwise.{pointwise}
use lib.ListN.{length, replicate}
use Rattle.std.specs.List.{list_all}
use Rattle.text.specs.Same.{same}

-- Lists that `==` compares.
pub same_is : (s t : List ℕ) → pointwise eqb s t ≡ same s t
unfolding same
same_is [] [] = refl
same_is [] (c ∷ t) = refl
same_is (b ∷ s) [] = refl
same_is (b ∷ s) (c ∷ t) = ap (λ (r : Bool). eqb b c && r) (same_is s t)

-- Words of which each has this number are the same as so many of it.
pub all_same : {X : Type 0} (number : X → ℕ) (n : ℕ) (words : List X) → list_all (λ x. eqb (number x) n) words ≡ same (map number words) (replicate (length words) n)
unfolding same
all_same number n [] = refl
all_same number n (x ∷ words) = ap (λ (r : Bool). eqb (number x) n && r) (all_same number n words)
