-- Laws of words from bytes. Assumes nothing.
use Rattle.intel_hex.specs.Words.{first_word, words_of}
use Prim.Native.Nat.{ℕ, suc, ◌+◌, ◌-◌, ◌*◌, ◌≤◌, ◌<◌}
use mathlib.Core.Path.{◌≡◌}
use mathlib.Core.List.{List, ◌++◌, append_assoc, append-nil}
use native.Mathlib.Nat.{add-zero}
use native.Mathlib.Omega.{arith}
use native.Mathlib.Numerals.{add-one}
use lib.ListN.{length, get_or, take, drop, set, drop_of_length-le}
use lib.Seq.{drop-drop, get_or-drop, take-suc-set, take_all}

pub word-is : (bs : List ℕ) (i : ℕ) → ((get_or bs i 0 * 256 + get_or bs (i + 1) 0) * 256 + get_or bs (i + 2) 0) * 256 + get_or bs (i + 3) 0 ≡ first_word (drop i bs)
word-is bs i = rw (get_or-drop i bs 0 0, get_or-drop i bs 1 0, get_or-drop i bs 2 0, get_or-drop i bs 3 0, add-zero)

-- Past the bytes a word is 0.
pub no_word : (bs : List ℕ) (i : ℕ) → length bs ≤ i → 0 ≡ first_word (drop i bs)
no_word bs i h = rw (drop_of_length-le bs h)

-- Word after word.
module _ (bs m : List ℕ) (n i : ℕ) (size : length m ≡ n) where
  pub words_turn : (v : ℕ) → i < n → v ≡ first_word (drop (4 * i) bs)
      → take (i + 1) (set m i v) ++ words_of (n - (i + 1)) (drop (4 * (i + 1)) bs) ≡ take i m ++ words_of (n - i) (drop (4 * i) bs)
  unfolding words_of
  words_turn v h e =
      let left : n - i ≡ suc (n - (i + 1)) = omega arith in
      let next : 4 * (i + 1) ≡ 4 * i + 4 = omega arith in
      rw (left, next, ← drop-drop 4 (4 * i) bs, e, add-one i, take-suc-set m i _ (omega arith), append_assoc)

  pub words-end : n ≤ i → m ≡ take i m ++ words_of (n - i) (drop (4 * i) bs)
  unfolding words_of
  words-end h =
      let none : n - i ≡ 0 = omega arith in
      rw (none, take_all i m (omega arith), append-nil)
