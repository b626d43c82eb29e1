-- Laws of a run of bits: what shifts and masks do to it. Assumes nothing.
use Prim.Native.Nat.{ℕ, ◌+◌, ◌-◌, ◌*◌, ◌/◌, ◌%◌, ◌^◌, ◌≤◌, ◌<◌}
use mathlib.Core.Path.{◌≡◌, refl, sym, ap, ◌∙◌}
use mathlib.Core.Bool.{Bool, true, false, ◌&&◌}
use native.Mathlib.Nat.{mod-lt, div-one, div-eq_of_lt, le-div_iff_mul-le, add-zero, zero-add, one-mul}
use native.Mathlib.Omega.{arith}
use lib.Bits.{bit_and, bit_or, and_mask, or_shifted, or_add_and, and_le_l, and_le_r}
use lib.Dec.{ltb, eqb, lit<}
use lib.Pow.{pow_pos, shl_exact, shr-shr, high, low, mod-pow-add, field, mod-mod-pow}
use borrow.Author.Tests.{ltb-true, ltb-false, eqb-true, eqb-false, ne_eqb}
use Rattle.bitpack.specs.Bits.{bits}

-- A run of len bits is a number of len bits.
pub bits_lt : (n lo len : ℕ) → bits n lo len < 2 ^ len
unfolding bits
bits_lt n lo len = mod-lt (n / 2 ^ lo) (pow_pos len)

-- The lowest bits are a remainder.
pub bits_lowest : (n len : ℕ) → bits n 0 len ≡ n % 2 ^ len
unfolding bits
bits_lowest n len = ap (λ (x : ℕ). x % 2 ^ len) (div-one n)

module _ (n lo a b : ℕ) where
  -- `high << b | low` joins two runs that touch.
  pub bits_join : bits n (lo + b) a * 2 ^ b + bits n lo b ≡ bits n lo (a + b)
  unfolding bits
  bits_join = rw (← shr-shr n lo b) (sym (mod-pow-add (n / 2 ^ lo) a b))

  -- `run >> b` leaves the run's high bits.
  pub bits_high : bits n lo (a + b) / 2 ^ b ≡ bits n (lo + b) a
  unfolding bits
  bits_high = field (n / 2 ^ lo) a b ∙ ap (λ (x : ℕ). x % 2 ^ a) (shr-shr n lo b)

  -- `run & ((1 << b) - 1)` leaves its low bits.
  pub bits_low : bits n lo (a + b) % 2 ^ b ≡ bits n lo b
  unfolding bits
  bits_low = mod-mod-pow (n / 2 ^ lo) a b

-- A run within a run is a run of the number.
pub bits_in : (n lo above w s : ℕ) → bits (bits n lo (above + w + s)) s w ≡ bits n (lo + s) w
unfolding bits
bits_in n lo above w s = ap (λ (x : ℕ). x % 2 ^ w) (bits_high n lo (above + w) s) ∙ bits_low n (lo + s) above w

-- What a number has above a run does not count for it.
pub bits-rest : (n above w s : ℕ) → bits (n % 2 ^ (above + w + s)) s w ≡ bits n s w
bits-rest n above w s =
    ap (λ (x : ℕ). bits x s w) (sym (bits_lowest n (above + w + s))) ∙ bits_in n 0 above w s ∙ ap (λ (x : ℕ). bits n x w) (zero-add s)

-- ---- shifts of 64 bits

-- `1 << k` is a power.
pub one_shifted : (k : ℕ) → k < 64 → (1 * 2 ^ k) % 2 ^ 64 ≡ 2 ^ k
one_shifted k h = shl_exact 1 k 64 (lit< tt) (omega arith) ∙ one-mul (2 ^ k)

-- `x & ((1 << k) - 1)` is a remainder.
pub masked : (x k : ℕ) → k < 64 → bit_and x ((1 * 2 ^ k) % 2 ^ 64 - 1) ≡ x % 2 ^ k
masked x k h = ap (λ (p : ℕ). bit_and x (p - 1)) (one_shifted k h) ∙ and_mask x k

-- Of two runs joined, the low m + k bits are the m low bits of the first and the second.
joined_low : (a k v m : ℕ) → v < 2 ^ k → (a * 2 ^ k + v) % 2 ^ (m + k) ≡ a % 2 ^ m * 2 ^ k + v
joined_low a k v m h = mod-pow-add (a * 2 ^ k + v) m k ∙ rw (high a k h, low a k h)

-- `(a << k) | v` is a sum of which 64 bits are kept, ..
pub shifted_in : (a k v : ℕ) → k < 64 → v < 2 ^ k → bit_or ((a * 2 ^ k) % 2 ^ 64) v ≡ (a * 2 ^ k + v) % 2 ^ 64
shifted_in a k v small h = rw (let e : (64 - k) + k ≡ 64 = omega arith in e) at (kept (64 - k))
  where
    kept : (m : ℕ) → bit_or ((a * 2 ^ k) % 2 ^ (m + k)) v ≡ (a * 2 ^ k + v) % 2 ^ (m + k)
    kept m =
        let shifted = ap (λ (x : ℕ). x % 2 ^ (m + k)) (sym (add-zero (a * 2 ^ k))) ∙ joined_low a k 0 m (pow_pos k) ∙ add-zero (a % 2 ^ m * 2 ^ k) in
        ap (λ (x : ℕ). bit_or x v) shifted ∙ or_shifted (a % 2 ^ m) k v h ∙ sym (joined_low a k v m h)

-- .. so that its low bits are those of a and v where both have room.
pub shifted_low : (a m k v : ℕ) → m + k ≤ 64 → v < 2 ^ k → (a * 2 ^ k + v) % 2 ^ 64 % 2 ^ (m + k) ≡ a % 2 ^ m * 2 ^ k + v
shifted_low a m k v room h =
    (rw (let e : (64 - (m + k)) + (m + k) ≡ 64 = omega arith in e) at (mod-mod-pow (a * 2 ^ k + v) (64 - (m + k)) (m + k))) ∙ joined_low a k v m h

-- `v >> w` is 0 where v has no more than w bits.
pub shift_test : (v w : ℕ) → eqb (v / 2 ^ w) 0 ≡ ltb v (2 ^ w)
shift_test v w = go (ltb v (2 ^ w)) refl
  where
    go : (t : Bool) → ltb v (2 ^ w) ≡ t → eqb (v / 2 ^ w) 0 ≡ ltb v (2 ^ w)
    go true e = rw (e, div-eq_of_lt (ltb-true v (2 ^ w) e))
    go false e =
        let one : 1 ≤ v / 2 ^ w = (le-div_iff_mul-le (pow_pos w)).1 (rw (one-mul (2 ^ w)) (ltb-false v (2 ^ w) e)) in
        rw e (ne_eqb (v / 2 ^ w) 0 (λ z. omega arith))

-- `a | b` is 0 where both are.
pub or_test : (a b : ℕ) → eqb (bit_or a b) 0 ≡ (eqb a 0 && eqb b 0)
or_test a b = go (eqb a 0) (eqb b 0) refl refl
  where
    some : (0 < a + b) → eqb (bit_or a b) 0 ≡ false
    some h = let e = or_add_and a b in let l = and_le_l a b in let r = and_le_r a b in ne_eqb (bit_or a b) 0 (λ z. omega arith)

    go : (s t : Bool) → eqb a 0 ≡ s → eqb b 0 ≡ t → eqb (bit_or a b) 0 ≡ (eqb a 0 && eqb b 0)
    go true true p q = rw (eqb-true a 0 p, eqb-true b 0 q)
    go true false p q = let n = eqb-false b 0 q in some (omega arith) ∙ sym (rw (p, q))
    go false t p q = let n = eqb-false a 0 p in some (omega arith) ∙ sym (rw p)
