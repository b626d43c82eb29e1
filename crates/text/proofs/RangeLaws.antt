-- Lists whose numbers are below a limit, or hold what a rule says. Assumes nothing.
use Prim.Native.Nat.{ℕ, zero, suc, ◌+◌, ◌%◌, ◌<◌}
use mathlib.Core.Path.{◌≡◌, refl}
use mathlib.Core.Bool.{Bool, true, false}
use mathlib.Core.List.{List, [], ◌∷◌, ◌++◌, map}
use native.Mathlib.Nat.{mod-eq_of_lt}
use native.Mathlib.Omega.{arith}
use lib.Dec.{eqb, ltb}
use lib.ListN.{length, get_or, set, take, drop, replicate}
use lib.Seq.{get_or-drop, get_or-set_same, get_or-set_other, set_out}
use borrow.Author.Tests.{eqb-true, eqb-false, ltb-true, ltb-false}
use Rattle.text.specs.Ranges.{Below}

pub below_append : (limit : ℕ) (a b : List ℕ) → Below limit a → Below limit b → Below limit (a ++ b)
below_append limit [] b ha hb n = hb n
below_append limit (x ∷ a) b ha hb zero = ha 0
below_append limit (x ∷ a) b ha hb (suc n) = below_append limit a b (λ i. ha (suc i)) hb n

pub below_zeros : (limit : ℕ) → 0 < limit → (count : ℕ) → Below limit (replicate count 0)
below_zeros limit pos zero n = pos
below_zeros limit pos (suc count) zero = pos
below_zeros limit pos (suc count) (suc n) = below_zeros limit pos count n

below_take : (limit k : ℕ) (l : List ℕ) → Below limit l → Below limit (take k l)
below_take limit zero l h n = let first : get_or l 0 0 < limit = h 0 in omega arith
below_take limit (suc k) [] h n = h n
below_take limit (suc k) (x ∷ xs) h zero = h zero
below_take limit (suc k) (x ∷ xs) h (suc n) = below_take limit k xs (λ i. h (suc i)) n

-- A part of such a list is such a one.
pub below_part : (limit k from : ℕ) (l : List ℕ) → Below limit l → Below limit (take k (drop from l))
below_part limit k from l h = below_take limit k (drop from l) (λ n. rw (get_or-drop from l n 0) (h (from + n)))

-- Numbers below a limit are what is left of them there.
pub below_mod : (limit : ℕ) (l : List ℕ) → Below limit l → map (λ word. word % limit) l ≡ l
below_mod limit [] h = refl
below_mod limit (w ∷ ws) h = rw (mod-eq_of_lt (h 0), below_mod limit ws (λ n. h (suc n)))

module _ (l : List ℕ) (n x : ℕ) where
  -- What each place of a list holds after a store: x at n, as before elsewhere.
  pub holds_after : (P : ℕ → ℕ → Type 0) → ((k : ℕ) → P k (get_or l k 0)) → P n x → (k : ℕ) → P k (get_or (set l n x) k 0)
  holds_after P old new k = go (eqb k n) refl (ltb n (length l)) refl
    where
      go : (t : Bool) → eqb k n ≡ t → (u : Bool) → ltb n (length l) ≡ u → P k (get_or (set l n x) k 0)
      go false e u r = rw (get_or-set_other l n k x 0 (eqb-false k n e)) (old k)
      go true e true r = rw (eqb-true k n e, get_or-set_same l n x 0 (ltb-true n (length l) r)) new
      go true e false r = rw (set_out l n x (ltb-false n (length l) r)) (old k)
