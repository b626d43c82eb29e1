-- "The place in the irq2 list is not saved; the age finds it."
use Rattle.std.specs.Prelude.{ℕ, ◌-◌, ◌^◌, ◌≤◌, ◌<◌, Bool, cond, ◌&&◌, List, length, get_or, eqb, ltb}

-- p is the place of the first cycle of the list that is not below c.
pub record PlaceOf (c p : ℕ) (l : List ℕ) : Type 0 where
  pub within : p ≤ length l
  pub before : (i : ℕ) → i < p → get_or l i 0 < c
  pub after : (i : ℕ) → p ≤ i → i < length l → c ≤ get_or l i 0

-- The cycle at p is c.
abbrev pub is_at : ℕ → ℕ → List ℕ → Bool
is_at c p l = ltb p (length l) && eqb c (get_or l p 0)

-- The cycle that a run waits for at p: the one that stands there, and after the last one that never comes.
abbrev pub awaited_at : ℕ → List ℕ → ℕ
awaited_at p l = cond (ltb p (length l)) (get_or l p 0) (2 ^ 64 - 1)
