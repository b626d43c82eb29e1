-- Names that are the same, and their places among others. Assumes nothing.
use Prim.Native.Nat.{ℕ, zero, suc, ◌≤◌, ◌<◌}
use mathlib.Core.Path.{◌≡◌, refl, sym, ◌∙◌, ap}
use mathlib.Core.Bool.{Bool, true, false, cond, ◌||◌}
use mathlib.Core.List.{List, [], ◌∷◌, ◌++◌}
use native.Mathlib.Omega.{arith}
use native.Mathlib.Nat.{not-suc-le-zero}
use lib.Dec.{ltb, leb-suc-suc}
use lib.ListN.{length, get_or, take}
use borrow.Author.Tests.{eq-eqb, lt-ltb, le-ltb, ltb-true, ltb-false}
use Rattle.text.specs.Same.{same}
use Rattle.text.proofs.SameLaws.{same_equal}
use Rattle.source.specs.Lookup.{is_among, place_of}

-- ---- names that are the same

-- A name is the same as itself.
pub same_self : (t : List ℕ) → same t t ≡ true
unfolding same
same_self [] = refl
same_self (b ∷ t) = rw (eq-eqb b b refl) (same_self t)

-- Names that are equal are the same.
pub equal_same : (t u : List ℕ) → t ≡ u → same t u ≡ true
equal_same t u e = rw e (same_self u)

-- Names that are not equal are not the same.
pub other_same : (t u : List ℕ) → (t ≡ u → ⊥) → same t u ≡ false
other_same t u n = go (same t u) refl
  where
    go : (r : Bool) → same t u ≡ r → same t u ≡ false
    go true e = absurd (n (same_equal t u e))
    go false e = e

-- ---- the place of a name

-- It is one of theirs, or as many as there are.
pub place_le : (ns : List (List ℕ)) (t : List ℕ) → place_of ns t ≤ length ns
unfolding place_of
place_le [] t = omega arith
place_le (n ∷ ns) t = go (same t n) (place_le ns t)
  where
    go : (r : Bool) → place_of ns t ≤ length ns → cond r 0 (suc (place_of ns t)) ≤ suc (length ns)
    go true h = omega arith
    go false h = omega arith

-- A name is one of these if its place is among them.
pub among-place : (ns : List (List ℕ)) (t : List ℕ) → is_among ns t ≡ ltb (place_of ns t) (length ns)
unfolding is_among place_of
among-place [] t = refl
among-place (n ∷ ns) t = go (same t n) (among-place ns t)
  where
    go : (r : Bool) → is_among ns t ≡ ltb (place_of ns t) (length ns) → (r || is_among ns t) ≡ ltb (cond r 0 (suc (place_of ns t))) (suc (length ns))
    go true e = sym (lt-ltb 0 (suc (length ns)) (omega arith))
    go false e = e ∙ sym (leb-suc-suc (suc (place_of ns t)) (length ns))

-- It is one of the first m of them if its place is below m.
pub among_first : (m : ℕ) (ns : List (List ℕ)) (t : List ℕ) → m ≤ length ns → is_among (take m ns) t ≡ ltb (place_of ns t) m
unfolding is_among place_of
among_first zero ns t h = sym (le-ltb (place_of ns t) 0 (omega arith))
among_first (suc m) [] t h = absurd (not-suc-le-zero h)
among_first (suc m) (n ∷ ns) t h = go (same t n) (among_first m ns t (omega arith))
  where
    go : (r : Bool) → is_among (take m ns) t ≡ ltb (place_of ns t) m → (r || is_among (take m ns) t) ≡ ltb (cond r 0 (suc (place_of ns t))) (suc m)
    go true e = sym (lt-ltb 0 (suc m) (omega arith))
    go false e = e ∙ sym (leb-suc-suc (suc (place_of ns t)) m)

-- The name at its place.
pub name-at-place : (ns : List (List ℕ)) (t : List ℕ) → place_of ns t < length ns → get_or ns (place_of ns t) [] ≡ t
unfolding place_of
name-at-place [] t h = absurd (not-suc-le-zero h)
name-at-place (n ∷ ns) t h = go (same t n) refl h (name-at-place ns t)
  where
    go : (r : Bool) → same t n ≡ r → cond r 0 (suc (place_of ns t)) < suc (length ns) → (place_of ns t < length ns → get_or ns (place_of ns t) [] ≡ t)
        → get_or (n ∷ ns) (cond r 0 (suc (place_of ns t))) [] ≡ t
    go true e k more = sym (same_equal t n e)
    go false e k more = more (omega arith)

-- A name that is none of these has the place after them.
pub place_none : (ns : List (List ℕ)) (t : List ℕ) → is_among ns t ≡ false → place_of ns t ≡ length ns
place_none ns t e =
    let most = place_le ns t in
    let past = ltb-false (place_of ns t) (length ns) (sym (among-place ns t) ∙ e) in
    omega arith

-- The place of a name is at most that of any name like it.
pub place-at_most : (ns : List (List ℕ)) (t : List ℕ) (k : ℕ) → k < length ns → get_or ns k [] ≡ t → place_of ns t ≤ k
unfolding place_of
place-at_most [] t k h e = absurd (not-suc-le-zero h)
place-at_most (n ∷ ns) t zero h e = rw (equal_same t n (sym e)) (omega arith)
place-at_most (n ∷ ns) t (suc k) h e = go (same t n) (place-at_most ns t k (omega arith) e)
  where
    go : (r : Bool) → place_of ns t ≤ k → cond r 0 (suc (place_of ns t)) ≤ suc k
    go true l = omega arith
    go false l = omega arith

-- A name that stands among these is one of them, ..
pub is_among_lem : (ns : List (List ℕ)) (t : List ℕ) (k : ℕ) → k < length ns → get_or ns k [] ≡ t → is_among ns t ≡ true
is_among_lem ns t k h e =
    let most = place-at_most ns t k h e in
    among-place ns t ∙ lt-ltb (place_of ns t) (length ns) (omega arith)

-- .. and one that stands nowhere among them is not.
pub none-among : (ns : List (List ℕ)) (t : List ℕ) → ((k : ℕ) → k < length ns → get_or ns k [] ≡ t → ⊥) → is_among ns t ≡ false
none-among ns t n = go (is_among ns t) refl
  where
    go : (r : Bool) → is_among ns t ≡ r → is_among ns t ≡ false
    go false e = e
    go true e =
        let below = ltb-true (place_of ns t) (length ns) (sym (among-place ns t) ∙ e) in
        absurd (n (place_of ns t) below (name-at-place ns t below))

-- More names after these leave the place of one of these.
pub place_kept : (ns ms : List (List ℕ)) (t : List ℕ) → place_of ns t < length ns → place_of (ns ++ ms) t ≡ place_of ns t
unfolding place_of
place_kept [] ms t h = absurd (not-suc-le-zero h)
place_kept (n ∷ ns) ms t h = go (same t n) h (place_kept ns ms t)
  where
    go : (r : Bool) → cond r 0 (suc (place_of ns t)) < suc (length ns) → (place_of ns t < length ns → place_of (ns ++ ms) t ≡ place_of ns t)
        → cond r 0 (suc (place_of (ns ++ ms) t)) ≡ cond r 0 (suc (place_of ns t))
    go true k more = refl
    go false k more = ap suc (more (omega arith))

-- A name that is none of these has the place after them, once it is added.
pub place-new : (ns : List (List ℕ)) (t : List ℕ) → length ns ≤ place_of ns t → place_of (ns ++ (t ∷ [])) t ≡ length ns
unfolding place_of
place-new [] t h = rw (same_self t)
place-new (n ∷ ns) t h = go (same t n) h (place-new ns t)
  where
    go : (r : Bool) → suc (length ns) ≤ cond r 0 (suc (place_of ns t)) → (length ns ≤ place_of ns t → place_of (ns ++ (t ∷ [])) t ≡ length ns)
        → cond r 0 (suc (place_of (ns ++ (t ∷ [])) t)) ≡ suc (length ns)
    go true k more = absurd (not-suc-le-zero k)
    go false k more = ap suc (more (omega arith))
