-- Products of words, words read as signed numbers, and the last arm of a match on a number. Assumes nothing.
use Rattle.std.proofs.Common.{◌≡◌, ℕ, suc, ◌-◌, ◌*◌, ◌^◌, ◌<◌, ◌≤◌, Bool, true, false, ltb, ℤ, pos, negsuc, refl, ap, ◌∙◌, zero-le, lt_of_le_of_lt, mul-le-mul, arith, to_z-of_z, w32, w64, Fits, to_z, of_z, ltb-false, ltb-true}
use lib.Signed.{mag, lt_z, shr_z, mag_shr}
use mir.Val.{sel}
use mir.Facts.{Fits-below, to_z_pos}
use Rattle.text.proofs.Truth.{NoneFrom, past}

-- The product of two words fits 64 bits.
pub product-fits : {x y : ℕ} → Fits w32 x → Fits w32 y → Fits w64 (x * y)
product-fits {x} {y} h k =
    let a : x ≤ 2 ^ 32 - 1 = omega arith in
    let b : y ≤ 2 ^ 32 - 1 = omega arith in
    Fits-below tt (mul-le-mul a b)

-- A word is negative from 2^31 up.
negative : (n : ℕ) → lt_z (to_z w32 n) (pos 0) ≡ true → 2 ^ 31 ≤ n
negative n e = go (ltb n (2 ^ 31)) refl e
  where
    go : (t : Bool) → ltb n (2 ^ 31) ≡ t → lt_z (sel t (pos n) (negsuc (2 ^ 32 - suc n))) (pos 0) ≡ true → 2 ^ 31 ≤ n
    go true low e = let h = ltb-true n 0 e in omega arith
    go false high e = ltb-false n (2 ^ 31) high

-- A negative word with every bit turned is below 2^31, and reads as itself.
pub turned : (n : ℕ) → lt_z (to_z w32 n) (pos 0) ≡ true → to_z w32 (2 ^ 32 - 1 - n) ≡ pos (2 ^ 32 - 1 - n)
turned n e = let h = negative n e in to_z_pos w32 (omega arith)

-- A word that is not negative reads as itself.
pub plain : (n : ℕ) → lt_z (to_z w32 n) (pos 0) ≡ false → to_z w32 n ≡ pos n
plain n e = go (ltb n (2 ^ 31)) e
  where
    go : (t : Bool) → lt_z (sel t (pos n) (negsuc (2 ^ 32 - suc n))) (pos 0) ≡ false → sel t (pos n) (negsuc (2 ^ 32 - suc n)) ≡ pos n
    go true e = refl
    go false e = cc

-- A signed number that is held as a word reads as what it is.
pub reads : {z s : ℤ} → mag z < 2 ^ 31 → z ≡ s → to_z w32 (of_z w32 z) ≡ s
reads {z} h e = to_z-of_z {w = w32} {z = z} (record { sfits = h }) ∙ e

-- So does one that is moved right.
pub shifted : {z s : ℤ} (m : ℕ) → mag z < 2 ^ 31 → z ≡ s → to_z w32 (of_z w32 (shr_z (to_z w32 (of_z w32 z)) m)) ≡ shr_z s m
shifted {z} m h e = rw (to_z-of_z {w = w32} {z = z} (record { sfits = h })) (reads (lt_of_le_of_lt (mag_shr z m) h) (ap (λ (i : ℤ). shr_z i m) e))

-- ---- a match on a number

-- A number below k + 1 that is none below k is k.
pub last : (k n : ℕ) → n < suc k → NoneFrom 0 k n → n ≡ k
last k n h none = let least = past 0 k n zero-le none in omega arith
