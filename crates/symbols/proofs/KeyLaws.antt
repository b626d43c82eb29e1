-- The key of a name, one byte after the other. Assumes nothing.
use Prim.Native.Nat.{ℕ, ◌+◌, ◌*◌, ◌%◌, ◌^◌, ◌≤◌, ◌<◌}
use mathlib.Core.Path.{◌≡◌, refl, sym, ◌∙◌}
use mathlib.Core.List.{List}
use native.Mathlib.Numerals.{add-one}
use native.Mathlib.Nat.{mod-lt}
use native.Mathlib.Omega.{arith}
use lib.ListN.{length, get_or, drop, drop_of_length-le}
use lib.Seq.{drop-cons}
use Rattle.symbols.specs.Keys.{key_from, key_of}

-- The first i bytes are in the key: the key of the whole is left to those after them.
pub record Keyed (t : List ℕ) (i key : ℕ) : Type 0 where
  pub fits : key < 2 ^ 32
  pub is : key_from key (drop i t) ≡ key_of t

-- None yet.
pub none_keyed : (t : List ℕ) → Keyed t 0 0
none_keyed t = record { fits = omega arith; is = refl }

module _ {t : List ℕ} {i key : ℕ} (p : Keyed t i key) where
  -- One byte more.
  pub one_keyed : i < length t → Keyed t (i + 1) ((key * 75 + get_or t i 0) % 2 ^ 32)
  unfolding key_from
  one_keyed h = record { fits = mod-lt (key * 75 + get_or t i 0) (omega arith); is = sym (rw (add-one i, drop-cons t i 0 h)) ∙ p.is }

  -- None is left.
  pub all_keyed : length t ≤ i → key ≡ key_of t
  unfolding key_from
  all_keyed h = rw (← p.is, drop_of_length-le t h)
