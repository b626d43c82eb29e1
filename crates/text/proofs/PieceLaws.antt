-- Pieces of a line laid side by side, and one over another. Assumes nothing.
use Prim.Native.Nat.{ℕ, suc, ◌+◌, ◌≤◌}
use mathlib.Core.Path.{◌≡◌, refl, sym, ◌∙◌, ap}
use mathlib.Core.List.{List, [], ◌∷◌, ◌++◌}
use native.Mathlib.Numerals.{add-one}
use native.Mathlib.Omega.{arith}
use lib.ListN.{length, take, drop, set, take-append-drop, length-drop}
use lib.Seq.{length-take-le, set-set}
use Rattle.text.specs.Place.{put}
use Rattle.text.proofs.PutLaws.{put_one, put-append, put-before}

-- A piece laid after another is one with it.
pub more : (d e f : List ℕ) (at to : ℕ) (xs ys : List ℕ) → to ≡ at + length xs → e ≡ put d at xs → f ≡ put e to ys → f ≡ put d at (xs ++ ys)
more d e f at to xs ys p q r = rw (r, q, p, put-append)

-- So is a piece laid after a byte that was stored, ..
pub after_store : (d f : List ℕ) (at to x : ℕ) (ys : List ℕ) → to ≡ at + 1 → f ≡ put (set d at x) to ys → f ≡ put d at (x ∷ ys)
after_store d f at to x ys p r = more d (set d at x) f at to (x ∷ []) ys p (sym (put_one d at x)) r

-- .. and a byte stored after a piece.
pub store_after : (d e : List ℕ) (at to x : ℕ) (xs : List ℕ) → to ≡ at + length xs → e ≡ put d at xs → set e to x ≡ put d at (xs ++ (x ∷ []))
store_after d e at to x xs p q = more d e (set e to x) at to xs (x ∷ []) p q (sym (put_one e to x))

-- What is laid over a piece that is no longer takes its place.
pub put-over : (d : List ℕ) (at : ℕ) (xs ys : List ℕ) → length xs ≤ length ys → put (put d at xs) at ys ≡ put d at ys
unfolding put
put-over d at [] ys h = refl
put-over d at (x ∷ xs) [] h = absurd (omega arith)
put-over d at (x ∷ xs) (y ∷ ys) h =
    let first : set (put (set d at x) (suc at) xs) at y ≡ put (set (set d at x) at y) (suc at) xs = rw (add-one at) at (put-before (set d at x) at 1 (y ∷ []) xs refl) in
    rw (first, set-set d at x y) (put-over (set d at y) (suc at) xs ys (omega arith))

-- So does what is laid over the end of a piece and reaches as far.
pub put-cut : (d : List ℕ) (at n : ℕ) (xs ys : List ℕ) → n ≤ length xs → length xs ≤ n + length ys → put (put d at xs) (at + n) ys ≡ put d at (take n xs ++ ys)
put-cut d at n xs ys h k =
    let front : length (take n xs) ≡ n = length-take-le n xs h in
    let whole : put d at xs ≡ put (put d at (take n xs)) (at + n) (drop n xs) =
    ap (put d at) (sym (take-append-drop n xs)) ∙ put-append d at (take n xs) (drop n xs) ∙ ap (λ (m : ℕ). put (put d at (take n xs)) (at + m) (drop n xs)) front in
    rw (whole, put-over (put d at (take n xs)) (at + n) (drop n xs) ys (simp length-drop (omega arith)))
    (sym (put-append d at (take n xs) ys ∙ ap (λ (m : ℕ). put (put d at (take n xs)) (at + m) ys) front))
