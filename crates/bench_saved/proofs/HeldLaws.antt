-- What is held while bytes come out one at a time: the high bits of a number's low ones, and those below them. Assumes nothing.
use Prim.Native.Nat.{ℕ, ◌+◌, ◌-◌, ◌/◌, ◌%◌, ◌^◌, ◌≤◌}
use mathlib.Core.Path.{◌≡◌, sym}
use native.Mathlib.Omega.{arith}
use lib.Pow.{field, mod-mod-pow}

module _ (a have u : ℕ) (enough : u ≤ have) where
  -- The high u of the low bits of a, ..
  pub top_of : a / 2 ^ (have - u) % 2 ^ u ≡ a % 2 ^ have / 2 ^ (have - u)
  top_of = sym (rw (let e : u + (have - u) ≡ have = omega arith in e) at (field a u (have - u)))

  -- .. and those below them.
  pub rest_of : a % 2 ^ (have - u) ≡ a % 2 ^ have % 2 ^ (have - u)
  rest_of = sym (rw (let e : u + (have - u) ≡ have = omega arith in e) at (mod-mod-pow a u (have - u)))
