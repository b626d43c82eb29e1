-- Names of which none stands twice. Assumes nothing.
use Rattle.std.specs.Prelude.{None}
use Prim.Native.Nat.{ℕ, ◌<◌}
use mathlib.Core.Path.{◌≡◌, refl, sym, ◌∙◌, ap}
use mathlib.Core.Bool.{Bool, true, false}
use mathlib.Core.List.{List, [], ◌∷◌, ◌++◌}
use native.Mathlib.Nat.{not-suc-le-zero}
use native.Mathlib.Omega.{arith}
use lib.Dec.{ltb}
use lib.ListN.{length, get_or, length-append, get_or-append}
use lib.Seq.{get_or_at}
use borrow.Author.Tests.{ltb-true, ltb-false}
use Rattle.source.specs.Lookup.{is_among, place_of}
use Rattle.symbols.specs.Table.{names_of}
use Rattle.symbols.specs.Sound.{FoundAt, Found}
use Rattle.symbols.proofs.LookupLaws.{place_kept, place-new, place_none}
use Rattle.symbols.proofs.NameLaws.{length-names}

-- No name stands twice: each has its own place.
abbrev pub Distinct : List (List ℕ) → Type 0
Distinct ns = (k : ℕ) → k < length ns → place_of ns (get_or ns k []) ≡ k

-- None does among no names, ..
pub distinct_none : Distinct []
distinct_none k h = absurd (not-suc-le-zero h)

module _ (ns : List (List ℕ)) (t : List ℕ) (d : Distinct ns) where
  -- .. nor with one more that is none of them.
  pub distinct_more : is_among ns t ≡ false → Distinct (ns ++ (t ∷ []))
  distinct_more n k h = go (ltb k (length ns)) refl
    where
      go : (r : Bool) → ltb k (length ns) ≡ r → place_of (ns ++ (t ∷ [])) (get_or (ns ++ (t ∷ [])) k []) ≡ k
      go true e =
          let below = ltb-true k (length ns) e in
          let own = d k below in
          rw (get_or-append ns (t ∷ []) [] k below) (place_kept ns (t ∷ []) (get_or ns k []) (omega arith) ∙ own)
      go false e =
          let past = ltb-false k (length ns) e in
          let size = length-append ns (t ∷ []) in
          let last : k ≡ length ns = omega arith in
          let none = place_none ns t n in
          rw (last, get_or_at ns t [] [] (length ns) refl) (place-new ns t (omega arith))

  -- Where a name stands is its place.
  pub distinct-place : (r : ℕ) → r < length ns → get_or ns r [] ≡ t → place_of ns t ≡ r
  distinct-place r h e = ap (place_of ns) (sym e) ∙ d r h

-- So where a name is found is its place, ..
pub found_place : {source table : List ℕ} {below : ℕ} {t : List ℕ} {r : ℕ} → Distinct (names_of source table below) → FoundAt source table below t r
    → r ≡ place_of (names_of source table below) t
found_place {source} {table} {below} {t} {r} d f =
    let size = length-names source table below in
    let within = f.within in
    sym (distinct-place (names_of source table below) t d r (omega arith) f.name)

-- .. and where none has it, its place is after the last.
pub no_place : (source table : List ℕ) (below : ℕ) (t : List ℕ) → Found source table below t None → below ≡ place_of (names_of source table below) t
no_place source table below t f = sym (place_none (names_of source table below) t f ∙ length-names source table below)
