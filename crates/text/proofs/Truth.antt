-- Laws of tests. Assumes nothing.
use Prim.Native.Nat.{ℕ, zero, suc, ◌+◌, ◌-◌, ◌≤◌, ◌<◌}
use mathlib.Core.Path.{◌≡◌, refl, sym}
use mathlib.Core.Bool.{Bool, true, false, cond, ◌&&◌, ◌||◌, false≢true}
use native.Mathlib.Omega.{arith}
use native.Mathlib.Nat.{not-suc-le-zero, le_of_suc-le-suc}
use lib.Arith.{lt_of_le-ne}
use lib.Dec.{leb, ltb, eqb}
use borrow.Author.Tests.{le-leb, lt-leb, le-ltb, leb-true, leb-false, eqb-true, eqb-false}

pub and_left : (a b : Bool) → (a && b) ≡ true → a ≡ true
and_left true b e = refl
and_left false b e = e

pub and_right : (a b : Bool) → (a && b) ≡ true → b ≡ true
and_right true b e = e
and_right false b e = absurd (false≢true e)

pub neither : (a b : Bool) → (a || b) ≡ false → (a ≡ false) × (b ≡ false)
neither true b e = absurd (false≢true (sym e))
neither false b e = (refl, e)

-- Tests that hold together are the same.
pub both_ways : (a b : Bool) → (a ≡ true → b ≡ true) → (b ≡ true → a ≡ true) → a ≡ b
both_ways true b f g = sym (f refl)
both_ways false true f g = g refl
both_ways false false f g = refl

-- What holds of two things holds of the one that a test picks.
pub either : {A : Type 0} (P : A → Type 0) (t : Bool) {x y : A} → P x → P y → P (cond t x y)
either P true p q = p
either P false p q = q

-- A difference compared is a sum compared.
pub leb-sub : (a p n : ℕ) → p ≤ n → leb a (n - p) ≡ leb (p + a) n
leb-sub a p n h = go (leb (p + a) n) refl
  where
    go : (t : Bool) → leb (p + a) n ≡ t → leb a (n - p) ≡ leb (p + a) n
    go true e = let below = leb-true (p + a) n e in rw (e, le-leb a (n - p) (omega arith))
    go false e = let past = leb-false (p + a) n e in rw (e, lt-leb a (n - p) (omega arith))

-- ---- a test computed at each number below n

abbrev pub all_below : (ℕ → Bool) → ℕ → Bool
all_below f zero = true
all_below f (suc n) = f n && all_below f n

pub below : (f : ℕ → Bool) (n : ℕ) → all_below f n ≡ true → (k : ℕ) → k < n → f k ≡ true
below f zero e k h = absurd (not-suc-le-zero h)
below f (suc n) e k h = go (eqb k n) refl (below f n (and_right (f n) (all_below f n) e) k)
  where
    go : (t : Bool) → eqb k n ≡ t → (k < n → f k ≡ true) → f k ≡ true
    go true same ih = rw (eqb-true k n same) (and_left (f n) (all_below f n) e)
    go false other ih = ih (lt_of_le-ne (le_of_suc-le-suc h) (eqb-false k n other))

-- The same at each number from lo on, below hi.
pub between : (f : ℕ → Bool) (lo hi : ℕ) → all_below (λ n. cond (ltb n lo) true (f n)) hi ≡ true → (k : ℕ) → lo ≤ k → k < hi → f k ≡ true
between f lo hi e k low high = rw (le-ltb k lo low) at (below (λ n. cond (ltb n lo) true (f n)) hi e k high)

pub same_between : (f : ℕ → ℕ) (v lo hi : ℕ) → all_below (λ n. cond (ltb n lo) true (eqb v (f n))) hi ≡ true → (k : ℕ) → lo ≤ k → k < hi → v ≡ f k
same_between f v lo hi e k low high = eqb-true v (f k) (between (λ n. eqb v (f n)) lo hi e k low high)

-- ---- a match on numbers that follow each other

-- A number is none of the k from `low` on.
abbrev pub NoneFrom : ℕ → ℕ → ℕ → Type 0
NoneFrom low zero n = Unit
NoneFrom low (suc k) n = NoneFrom low k n × (n ≡ low + k → ⊥)

-- Then it is past them.
pub past : (low k n : ℕ) → low ≤ n → NoneFrom low k n → low + k ≤ n
past low zero n h none = omega arith
past low (suc k) n h none =
    let before = past low k n h none.0 in
    let other = none.1 in
    omega arith
