-- Comparing bytes, one after the other. Assumes nothing.
use Prim.Native.Nat.{ℕ, suc, ◌+◌, ◌-◌, ◌*◌, ◌≤◌, ◌<◌}
use mathlib.Core.Path.{◌≡◌, refl, sym, ◌∙◌, ap}
use mathlib.Core.Bool.{Bool, true, false, ◌&&◌, false≢true}
use mathlib.Core.List.{List, [], ◌∷◌}
use native.Mathlib.Nat.{add-sub_cancel_left}
use native.Mathlib.Numerals.{add-one}
use native.Mathlib.Omega.{arith}
use lib.Dec.{eqb, ltb}
use lib.ListN.{length, get_or, take, drop, drop_of_length-le}
use lib.Seq.{drop-cons, length-take-le, get_or-take, take_all}
use borrow.Author.Tests.{eq-eqb, ne_eqb, eqb-true, eqb-false, ltb-true, ltb-false}
use Rattle.std.specs.Cmp.Lexicographic.{pointwise}
use Rattle.text.specs.Same.{same}
use Rattle.text.proofs.Truth.{and_left, and_right, all_below, below}

-- Lists that are the same are equal.
pub same_equal : (s t : List ℕ) → same s t ≡ true → s ≡ t
unfolding same
same_equal [] [] e = refl
same_equal [] (c ∷ t) e = absurd (false≢true e)
same_equal (b ∷ s) [] e = absurd (false≢true e)
same_equal (b ∷ s) (c ∷ t) e =
    let first = eqb-true b c (and_left (eqb b c) (same s t) e) in
    let rest = same_equal s t (and_right (eqb b c) (same s t) e) in
    cc

-- They are compared number by number.
pub same-is : (s t : List ℕ) → pointwise eqb s t ≡ same s t
unfolding same
same-is [] [] = refl
same-is [] (c ∷ t) = refl
same-is (b ∷ s) [] = refl
same-is (b ∷ s) (c ∷ t) = rw (same-is s t)

-- It is the same in which order.
turned : (a b : ℕ) → eqb b a ≡ eqb a b
turned a b = go (eqb a b) refl
  where
    go : (t : Bool) → eqb a b ≡ t → eqb b a ≡ t
    go true e = eq-eqb b a (sym (eqb-true a b e))
    go false e = ne_eqb b a (λ h. eqb-false a b e (sym h))

pub same_turned : (s t : List ℕ) → pointwise eqb t s ≡ same s t
unfolding same
same_turned [] [] = refl
same_turned [] (c ∷ t) = refl
same_turned (b ∷ s) [] = refl
same_turned (b ∷ s) (c ∷ t) = rw (turned b c, same_turned s t)

-- A table of texts: a test computed over its n entries gives the rule at each.
pub table_rule : (entry rule : ℕ → List ℕ) (n : ℕ) → all_below (λ k. same (entry k) (rule k)) n ≡ true → (k : ℕ) → k < n → entry k ≡ rule k
table_rule entry rule n e k h = same_equal (entry k) (rule k) (below (λ k. same (entry k) (rule k)) n e k h)

-- The same where each text is filled up in its row, the rows being lists, ..
module _ (rule : ℕ → List ℕ) (n : ℕ) where
  pub rows_rule : (rows : List (List ℕ)) (d : List ℕ) → all_below (λ k. same (take (length (rule k)) (get_or rows k d)) (rule k)) n ≡ true
      → (k : ℕ) → k < n → take (length (rule k)) (get_or rows k d) ≡ rule k
  rows_rule rows d = table_rule (λ k. take (length (rule k)) (get_or rows k d)) rule n

  -- .. or parts of one list, of w bytes each: the part of the row k that the text fills, as code takes it.
  pub parts_rule : (w : ℕ) (t : List ℕ) → all_below (λ k. same (take (length (rule k)) (drop (k * w) t)) (rule k)) n ≡ true
      → (k size : ℕ) → k < n → size ≡ length (rule k) → take (k * w + size - k * w) (drop (k * w) t) ≡ rule k
  parts_rule w t e k size h s =
      rw (add-sub_cancel_left (k * w) size, s) (table_rule (λ k. take (length (rule k)) (drop (k * w) t)) rule n e k h)

-- Lists of other lengths are not the same.
pub other_length : (s t : List ℕ) → (length s ≡ length t → ⊥) → false ≡ same s t
unfolding same
other_length [] [] n = absurd (n refl)
other_length [] (c ∷ t) n = refl
other_length (b ∷ s) [] n = refl
other_length (b ∷ s) (c ∷ t) n = shorter (eqb b c) (other_length s t (λ e. n (ap suc e)))
  where
    shorter : (x : Bool) → false ≡ same s t → false ≡ (x && same s t)
    shorter true e = e
    shorter false e = refl

-- The first i bytes are the same: whether the lists are is left to those after them.
pub record Alike (s t : List ℕ) (i : ℕ) : Type 0 where
  pub size : length s ≡ length t
  pub is : same s t ≡ same (drop i s) (drop i t)

module _ {s t : List ℕ} {i : ℕ} (a : Alike s t i) where
  next : i < length t → same s t ≡ (eqb (get_or s i 0) (get_or t i 0) && same (drop (i + 1) s) (drop (i + 1) t))
  unfolding same
  next h =
      let size = a.size in
      a.is
      ∙ rw (drop-cons s i 0 (omega arith), drop-cons t i 0 h, add-one i)

  pub one_alike : get_or s i 0 ≡ get_or t i 0 → i < length t → Alike s t (i + 1)
  one_alike e h = record { size = a.size; is = next h ∙ rw (eq-eqb (get_or s i 0) (get_or t i 0) e) }

  pub one_other : (get_or s i 0 ≡ get_or t i 0 → ⊥) → i < length t → false ≡ same s t
  one_other n h = sym (next h ∙ rw (ne_eqb (get_or s i 0) (get_or t i 0) n))

  pub all_alike : length t ≤ i → true ≡ same s t
  unfolding same
  all_alike h =
      let size = a.size in
      let short : length s ≤ i = omega arith in
      sym (a.is ∙ rw (drop_of_length-le s short, drop_of_length-le t h))

-- ---- the front of a list

module _ (t front : List ℕ) where
  pub too_short : length t < length front → false ≡ same (take (length front) t) front
  too_short h = rw (take_all (length front) t (omega arith)) (other_length t front (λ e. omega arith))

  module _ (room : length front ≤ length t) where
    pub front-begun : Alike (take (length front) t) front 0
    front-begun = record { size = length-take-le (length front) t room; is = refl }

    pub front_at : (i : ℕ) → i < length front → get_or (take (length front) t) i 0 ≡ get_or t i 0
    front_at i h = get_or-take (length front) t i 0 h

-- A list whole is its front.
pub whole-front : (t u : List ℕ) → length t ≡ length u → same (take (length u) t) u ≡ same t u
whole-front t u e = rw (take_all (length u) t (omega arith))

-- A list that begins so is as long.
pub front-room : (t front : List ℕ) (r : Bool) → r ≡ same (take (length front) t) front → r ≡ true → length front ≤ length t
front-room t front r is e = go (ltb (length t) (length front)) refl
  where
    go : (b : Bool) → ltb (length t) (length front) ≡ b → length front ≤ length t
    go true q = absurd (false≢true (too_short t front (ltb-true (length t) (length front) q) ∙ sym is ∙ e))
    go false q = ltb-false (length t) (length front) q
