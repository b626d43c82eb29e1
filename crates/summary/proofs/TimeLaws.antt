-- Laws of milliseconds. Assumes nothing.
use Prim.Native.Nat.{ℕ, ◌+◌, ◌*◌, ◌/◌, ◌%◌, ◌≤◌, ◌<◌}
use mathlib.Core.Path.{◌≡◌, refl}
use mathlib.Core.Bool.{Bool, true, false}
use native.Mathlib.Omega.{arith}
use lib.Dec.{leb, ltb}
use borrow.Author.Tests.{leb-true, leb-false, ltb-true, ltb-false}
use Rattle.summary.specs.Milliseconds.{milliseconds, apart, Rounded}

-- Milliseconds times 128 are at most 64 above the age times 125, and less than 64 below it.
pub half_a_step : (age : ℕ) → (128 * milliseconds age ≤ age * 125 + 64) × (age * 125 + 64 < 128 * milliseconds age + 128)
unfolding milliseconds
half_a_step age = (omega arith, omega arith)

-- So they are the nearest, halves up.
pub milliseconds_rounded : (age : ℕ) → Rounded (age * 125) 128 (milliseconds age)
milliseconds_rounded age =
    record {
      nearest = λ n. near n (ltb n (milliseconds age)) refl (ltb (milliseconds age) n) refl;
      up = λ n same. upper n same (leb n (milliseconds age)) refl;
    }
  where
    near : (n : ℕ) (t : Bool) → ltb n (milliseconds age) ≡ t → (u : Bool) → ltb (milliseconds age) n ≡ u
        → apart (age * 125) (128 * milliseconds age) ≤ apart (age * 125) (128 * n)
    near n true e u f = let step = half_a_step age in let below : n < milliseconds age = ltb-true _ _ e in omega arith
    near n false e true f = let step = half_a_step age in let above : milliseconds age < n = ltb-true _ _ f in omega arith
    near n false e false f =
        let low : milliseconds age ≤ n = ltb-false _ _ e in
        let high : n ≤ milliseconds age = ltb-false _ _ f in
        let same : n ≡ milliseconds age = omega arith in
        rw same (omega arith)

    upper : (n : ℕ) → apart (age * 125) (128 * n) ≡ apart (age * 125) (128 * milliseconds age) → (t : Bool) → leb n (milliseconds age) ≡ t → n ≤ milliseconds age
    upper n same true e = leb-true _ _ e
    upper n same false e = let step = half_a_step age in let above : milliseconds age < n = leb-false _ _ e in omega arith

-- Each 128 cycles are 125 milliseconds, and the rest is rounded.
pub by_parts : (age : ℕ) → age / 128 * 125 + (age % 128 * 125 + 64) / 128 ≡ milliseconds age
unfolding milliseconds
by_parts age = omega arith
