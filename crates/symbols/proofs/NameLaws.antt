-- The names of a table's entries. Assumes nothing.
use Prim.Native.Nat.{ℕ, zero, suc, ◌≤◌, ◌<◌}
use mathlib.Core.Path.{◌≡◌, refl, ◌∙◌, ap}
use mathlib.Core.Bool.{Bool, true, false}
use mathlib.Core.List.{List, [], ◌∷◌, ◌++◌}
use native.Mathlib.Nat.{not-suc-le-zero}
use native.Mathlib.Numerals.{add-one}
use native.Mathlib.Omega.{arith}
use lib.Dec.{eqb, ltb}
use lib.ListN.{length, get_or, take, length-append, get_or-append}
use lib.Seq.{get_or_at, take_all, take-append-le}
use borrow.Author.Tests.{eqb-true, eqb-false, ltb-true, ltb-false}
use Rattle.source.specs.Lookup.{place_of}
use Rattle.symbols.specs.Table.{name_at, names_of}
use Rattle.symbols.proofs.LookupLaws.{place_le}

-- There are as many as entries, ..
pub length-names : (source table : List ℕ) (n : ℕ) → length (names_of source table n) ≡ n
unfolding names_of
length-names source table zero = refl
length-names source table (suc n) = length-append (names_of source table n) (name_at source table n ∷ []) ∙ add-one (length (names_of source table n)) ∙ ap suc (length-names source table n)

-- .. the name of each at its number.
pub names_at : (source table : List ℕ) (n k : ℕ) → k < n → get_or (names_of source table n) k [] ≡ name_at source table k
unfolding names_of
names_at source table zero k h = absurd (not-suc-le-zero h)
names_at source table (suc n) k h = go (eqb k n) refl (names_at source table n k)
  where
    go : (r : Bool) → eqb k n ≡ r → (k < n → get_or (names_of source table n) k [] ≡ name_at source table k)
        → get_or (names_of source table n ++ (name_at source table n ∷ [])) k [] ≡ name_at source table k
    go true e before = rw (eqb-true k n e) (get_or_at (names_of source table n) (name_at source table n) [] [] n (length-names source table n))
    go false e before =
        let size = length-names source table n in
        let other = eqb-false k n e in
        get_or-append (names_of source table n) (name_at source table n ∷ []) [] k (omega arith) ∙ before (omega arith)

-- The place that is looked up is that of an entry, or is the number of entries.
pub place-within : (source table : List ℕ) (n : ℕ) (t : List ℕ) → place_of (names_of source table n) t ≤ n
place-within source table n t =
    let size = length-names source table n in
    let most = place_le (names_of source table n) t in
    omega arith

-- The first of these names are the names of the first entries.
pub first-names : (source table : List ℕ) (count below : ℕ) → below ≤ count → take below (names_of source table count) ≡ names_of source table below
unfolding names_of
first-names source table zero below h = let none : below ≡ 0 = omega arith in rw none
first-names source table (suc count) below h = go (ltb count below) refl (first-names source table count below)
  where
    go : (r : Bool) → ltb count below ≡ r → (below ≤ count → take below (names_of source table count) ≡ names_of source table below)
        → take below (names_of source table count ++ (name_at source table count ∷ [])) ≡ names_of source table below
    go true e before =
        let past = ltb-true count below e in
        let all : below ≡ suc count = omega arith in
        rw all (take_all (suc count) (names_of source table (suc count)) (rw (length-names source table (suc count)) (omega arith)))
    go false e before =
        let few = ltb-false count below e in
        let size = length-names source table count in
        take-append-le below (names_of source table count) (name_at source table count ∷ []) (omega arith) ∙ before few
