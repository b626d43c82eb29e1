-- Asking each byte, one after the other. Assumes nothing.
use Prim.Native.Nat.{ℕ, ◌+◌, ◌≤◌, ◌<◌}
use mathlib.Core.Path.{◌≡◌, refl, sym, ◌∙◌, ap}
use mathlib.Core.Bool.{Bool, true, false, ◌&&◌}
use mathlib.Core.List.{List, ◌∷◌}
use native.Mathlib.Numerals.{add-one}
use lib.ListN.{length, get_or, drop, drop_of_length-le}
use lib.Seq.{drop-cons}
use Rattle.source.specs.Bytes.{are_all}

-- The first i bytes pass: whether all do is left to those after them.
pub record AllBefore (test : ℕ → Bool) (l : List ℕ) (i : ℕ) : Type 0 where
  pub is : are_all test l ≡ are_all test (drop i l)

pub none_passed : (test : ℕ → Bool) (l : List ℕ) → AllBefore test l 0
none_passed test l = record { is = refl }

module _ {test : ℕ → Bool} {l : List ℕ} {i : ℕ} (p : AllBefore test l i) where
  next : i < length l → are_all test l ≡ (test (get_or l i 0) && are_all test (drop (i + 1) l))
  next h = p.is ∙ ap (are_all test) (drop-cons l i 0 h ∙ ap (λ (k : ℕ). get_or l i 0 ∷ drop k l) (sym (add-one i)))

  -- One more.
  pub one_passed : (t : Bool) → t ≡ test (get_or l i 0) → t ≡ true → i < length l → AllBefore test l (i + 1)
  one_passed t is yes-it h = record { is = next h ∙ rw (← is, yes-it) }

  -- One that doesn't.
  pub one_failed : (t : Bool) → t ≡ test (get_or l i 0) → t ≡ false → i < length l → false ≡ are_all test l
  one_failed t is no-it h = sym (next h ∙ rw (← is, no-it))

  -- None is left.
  pub all_passed : length l ≤ i → true ≡ are_all test l
  all_passed h = sym (p.is ∙ ap (are_all test) (drop_of_length-le l h))

-- Asking all of them, the answers joined as they come: the bytes before i have been told of.
module _ (test : ℕ → Bool) (l : List ℕ) (i : ℕ) where
  pub all_turn : (outcome a t : Bool) → i < length l → a ≡ test (get_or l i 0) → t ≡ (outcome && a) → (t && are_all test (drop (i + 1) l)) ≡ (outcome && are_all test (drop i l))
  all_turn true a t h is e = rw (e, is, add-one i, drop-cons l i 0 h)
  all_turn false a t h is e = rw e

  pub all_end : (outcome : Bool) → length l ≤ i → outcome ≡ (outcome && are_all test (drop i l))
  all_end true h = rw (drop_of_length-le l h)
  all_end false h = refl
