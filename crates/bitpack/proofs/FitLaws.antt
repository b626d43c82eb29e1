-- Lists of values that fit, in parts and value by value. Assumes nothing.
use Prim.Native.Nat.{ℕ, zero, suc, ◌^◌, ◌≤◌, ◌<◌}
use mathlib.Core.Path.{◌≡◌, refl, sym, ap, ◌∙◌}
use mathlib.Core.Bool.{Bool, true, ◌&&◌, and_assoc}
use mathlib.Core.List.{List, [], ◌∷◌, ◌++◌}
use native.Mathlib.Omega.{arith}
use lib.Dec.{ltb}
use lib.ListN.{length, get_or, replicate}
use lib.Pow.{pow_pos}
use borrow.Author.Tests.{lt-ltb}
use Rattle.bitpack.specs.Packed.{fit}

-- A list of two parts fits where each part does.
pub fit_parts : (us ws xs ys : List ℕ) → length us ≡ length xs → fit (us ++ ws) (xs ++ ys) ≡ (fit us xs && fit ws ys)
fit_parts [] ws [] ys e = refl
fit_parts [] ws (x ∷ xs) ys e = absurd (omega arith)
fit_parts (u ∷ us) ws [] ys e = absurd (omega arith)
fit_parts (u ∷ us) ws (x ∷ xs) ys e =
    ap (λ (t : Bool). ltb x (2 ^ u) && t) (fit_parts us ws xs ys (omega arith)) ∙ sym (and_assoc (ltb x (2 ^ u)) (fit us xs) (fit ws ys))

-- Values that are as many as the widths, each below its power, fit.
pub fit_all : (ws vs : List ℕ) → length ws ≡ length vs → ((i : ℕ) → get_or vs i 0 < 2 ^ get_or ws i 0) → fit ws vs ≡ true
fit_all [] [] e h = refl
fit_all [] (v ∷ vs) e h = absurd (omega arith)
fit_all (w ∷ ws) [] e h = absurd (omega arith)
fit_all (w ∷ ws) (v ∷ vs) e h = rw (lt-ltb v (2 ^ w) (h 0)) (fit_all ws vs (omega arith) (λ i. h (suc i)))

-- Equal widths: none is read as more.
pub repeated_le : (k w n : ℕ) → 2 ^ get_or (replicate k w) n 0 ≤ 2 ^ w
repeated_le zero w n = pow_pos w
repeated_le (suc k) w zero = omega arith
repeated_le (suc k) w (suc n) = repeated_le k w n

-- As many values as equal widths fit where each is below their power.
pub fit-repeated : (k w : ℕ) (vs : List ℕ) → length vs ≡ k → ((i : ℕ) → get_or vs i 0 < 2 ^ w) → fit (replicate k w) vs ≡ true
fit-repeated zero w [] e h = refl
fit-repeated zero w (v ∷ vs) e h = absurd (omega arith)
fit-repeated (suc k) w [] e h = absurd (omega arith)
fit-repeated (suc k) w (v ∷ vs) e h = rw (lt-ltb v (2 ^ w) (h 0)) (fit-repeated k w vs (omega arith) (λ i. h (suc i)))
