-- Immediates read as signed numbers, and their decimals. Assumes nothing.
use Prim.Native.Nat.{ℕ, suc, ◌+◌, ◌-◌, ◌^◌, ◌≤◌, ◌<◌}
use mathlib.Core.Path.{◌≡◌, refl, sym, ap}
use mathlib.Core.Bool.{Bool, true, false, false≢true}
use mathlib.Core.List.{[], ◌++◌}
use native.Mathlib.Nat.{zero-add}
use native.Mathlib.Omega.{arith}
use lib.Dec.{ltb}
use lib.IntN.{ℤ, pos, negsuc, nat_abs, ◌-ℤ◌}
use lib.ListN.{length, length-append}
use lib.Signed.{mag, lt_z}
use mir.Syntax.{w32}
use mir.Val.{to_z, of_z}
use mir.Facts.{to_z_pos, to_z-of_z}
use borrow.Author.Tests.{le-ltb, ltb-true, ltb-false}
use Rattle.text.specs.Bytes.{bytes}
use Rattle.text.specs.Numerals.{digit_count, decimal}
use Rattle.text.proofs.DecimalLaws.{length-decimal, count_le}
use Rattle.isa.specs.Word.{sign_extended}
use Rattle.isa.proofs.WordLaws.{reads_plain, reads_negative}
use Rattle.lister.specs.Listing.{signed_decimal}
use Rattle.lister.specs.Sign.{sign_of}

-- ---- an immediate, read as a signed number

-- z is the immediate i, read as a signed number.
module _ (i : ℕ) (z : ℤ) (fits : i < 2 ^ 12) (e : z ≡ to_z w32 (sign_extended i)) where
  pub small : mag z < 2 ^ 12
  small = go (ltb i (2 ^ 11)) refl
    where
      go : (t : Bool) → ltb i (2 ^ 11) ≡ t → mag z < 2 ^ 12
      go true q = rw (e, reads_plain i (ltb-true i _ q)) fits
      go false q = rw (e, reads_negative i (ltb-false i _ q) fits) (omega arith)

  -- Its decimal is its sign and the decimal of its magnitude.
  module _ (size : ℕ) (s : size ≡ nat_abs z) where
    pub signed_text : signed_decimal i ≡ sign_of z ++ decimal size
    unfolding signed_decimal
    signed_text = go (ltb i (2 ^ 11)) refl
      where
        go : (t : Bool) → ltb i (2 ^ 11) ≡ t → signed_decimal i ≡ sign_of z ++ decimal size
        go true q = rw (q, s, e, reads_plain i (ltb-true i _ q), le-ltb i 0 (omega arith))
        go false q =
            let lacks : 2 ^ 12 - i ≡ suc (2 ^ 12 - suc i) = omega arith in
            rw (q, s, e, reads_negative i (ltb-false i _ q) fits, lacks)

    pub signed_length : length (signed_decimal i) ≡ length (sign_of z) + digit_count 10 size
    signed_length = rw (signed_text, length-append, length-decimal)

-- ---- a signed number without its sign

-- What the code takes from 0 where it is negative.
negated : (z : ℤ) → lt_z z (pos 0) ≡ true → pos 0 -ℤ z ≡ pos (nat_abs z)
negated (pos n) e = let none = ltb-true n 0 e in absurd (omega arith)
negated (negsuc n) e = ap pos (zero-add (suc n))

not_negated : (z : ℤ) → lt_z z (pos 0) ≡ false → z ≡ pos (nat_abs z)
not_negated (pos n) e = refl
not_negated (negsuc n) e = absurd (false≢true (sym e))

magnitude_le : (z : ℤ) → nat_abs z ≤ suc (mag z)
magnitude_le (pos n) = omega arith
magnitude_le (negsuc n) = omega arith

module _ (z : ℤ) (few : mag z < 2 ^ 12) where
  -- It is held in 32 bits as it is.
  held : to_z w32 (of_z w32 z) ≡ z
  held = to_z-of_z {w = w32} {z = z} (record { sfits = omega arith })

  pub magnitude_lt : nat_abs z < 2 ^ 31
  magnitude_lt = omega (arith, magnitude_le z)

  -- Below 0: taken from 0 it is its magnitude.
  module _ (below : lt_z (to_z w32 (of_z w32 z)) (pos 0) ≡ true) where
    pub taken-from-zero : pos 0 -ℤ to_z w32 (of_z w32 z) ≡ pos (nat_abs z)
    taken-from-zero = rw held (negated z (rw held at below))

    pub reads_magnitude : to_z w32 (of_z w32 (pos 0 -ℤ to_z w32 (of_z w32 z))) ≡ pos (nat_abs z)
    reads_magnitude = rw taken-from-zero (to_z_pos w32 magnitude_lt)

    pub minus : sign_of z ≡ bytes "-"
    minus = rw (rw held at below)

  -- From 0 on it is its magnitude itself.
  pub reads_itself : lt_z (to_z w32 (of_z w32 z)) (pos 0) ≡ false → to_z w32 (of_z w32 z) ≡ pos (nat_abs z)
  reads_itself above = rw held (not_negated z (rw held at above))

  pub no_sign : lt_z (to_z w32 (of_z w32 z)) (pos 0) ≡ false → sign_of z ≡ []
  no_sign above = rw (rw held at above)

-- ---- how long

-- A minus and four digits at most.
pub immediate_most : (i : ℕ) → i < 2 ^ 12 → length (signed_decimal i) ≤ 5
unfolding signed_decimal
immediate_most i fits = go (ltb i (2 ^ 11)) refl
  where
    go : (t : Bool) → ltb i (2 ^ 11) ≡ t → length (signed_decimal i) ≤ 5
    go true q = rw (q, length-decimal) (omega (arith, count_le 10 (omega arith) 3 i (omega arith)))
    go false q = rw (q, length-decimal) (omega (arith, count_le 10 (omega arith) 3 (2 ^ 12 - i) (omega arith)))
