-- The lines of a text where each has as many bytes, by their places. Assumes nothing.
use Prim.Native.Nat.{ℕ, ◌+◌, ◌*◌, ◌≤◌, ◌<◌}
use native.Mathlib.Nat.{add-mul, one-mul, mul-le-mul_right}
use native.Mathlib.Omega.{arith}
use Rattle.std.specs.Int.{div_ceil}
use Rattle.std.proofs.lemmas.Grind.{div_ceil_times}

module _ (n w i : ℕ) (some : 0 < w) where
  -- Each of so many lines begins within the n bytes, ..
  pub line-inside : i < div_ceil n w → i * w < n
  line-inside h =
      let more : i + 1 ≤ div_ceil n w = omega arith in
      let next : (i + 1) * w ≤ div_ceil n w * w = mul-le-mul_right w more in
      omega (arith, (div_ceil_times n w some).1, add-mul i 1 w, one-mul w)

  -- .. and none after them.
  pub lines-past : div_ceil n w ≤ i → n ≤ i * w
  lines-past h = let all : div_ceil n w * w ≤ i * w = mul-le-mul_right w h in omega (arith, (div_ceil_times n w some).0)
