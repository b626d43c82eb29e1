-- Pieces of a text put one after another, by the place after each, and lines. Assumes nothing.
use Prim.Native.Nat.{ℕ, ◌+◌, ◌≤◌, ◌<◌}
use mathlib.Core.Path.{◌≡◌, refl, sym, ◌∙◌}
use mathlib.Core.List.{List, [], ◌∷◌, ◌++◌, map, map-append, append_assoc}
use native.Mathlib.Nat.{zero-add}
use native.Mathlib.Numerals.{add-one}
use native.Mathlib.Omega.{arith}
use lib.ListN.{length, get_or, take, set, length-append}
use lib.Seq.{take-suc, take_all, length-take-le}
use Rattle.text.specs.Lines.{LF, unlines}
use Rattle.text.specs.Numerals.{digit_count, digits, decimal}
use Rattle.text.specs.Place.{put}
use Rattle.text.proofs.DecimalLaws.{length-decimal}
use Rattle.text.proofs.DigitLaws.{length_digits}
use Rattle.text.proofs.PieceLaws.{more, store_after}
use Rattle.text.proofs.PutLaws.{length-put}
use Rattle.console.specs.Counts.{IsPrefixLen}

-- The list d has become e, with xs put at a place, and the place after them is `to`.
abbrev pub Piece : List ℕ → ℕ → List ℕ → List ℕ → ℕ → Type 0
Piece d at xs e to = (e ≡ put d at xs) × (to ≡ at + length xs)

-- A piece after another is one with it, ..
pub joined : (d e f : List ℕ) (at p q : ℕ) (xs ys : List ℕ) → Piece d at xs e p → Piece e p ys f q → Piece d at (xs ++ ys) f q
joined d e f at p q xs ys first second = (more d e f at p xs ys first.1 first.0 second.0, rw length-append (omega arith))

-- .. and an LF that ends a line.
pub ended : (d e : List ℕ) (at p : ℕ) (xs : List ℕ) → Piece d at xs e p → Piece d at (xs ++ (LF ∷ [])) (set e p LF) (p + 1)
ended d e at p xs piece = (store_after d e at p LF xs piece.1 piece.0, rw length-append (omega arith))

-- At the front the place after a piece is its length.
pub from_front : (d e : List ℕ) (p : ℕ) (xs : List ℕ) → e ≡ put d 0 xs → p ≡ length xs → Piece d 0 xs e p
from_front d e p xs is-put size = (is-put, size ∙ sym (zero-add (length xs)))

pub at_front : (d e : List ℕ) (p : ℕ) (xs : List ℕ) → Piece d 0 xs e p → p ≡ length xs
at_front d e p xs piece = piece.1 ∙ zero-add (length xs)

-- The place after a piece counts bytes within the list.
pub counted : (d e : List ℕ) (at to : ℕ) (xs : List ℕ) → e ≡ put d at xs → to ≤ length d → IsPrefixLen to e
counted d e at to xs is-put room =
    let fits : to ≤ length e = rw (is-put, length-put) room in
    (fits, sym (length-take-le to e fits))

-- A number in decimal after a piece.
pub numbered : (front : List ℕ) (v at p q : ℕ) (d e f : List ℕ) → Piece d at front e p → f ≡ put e p (decimal v) → q ≡ p + digit_count 10 v
    → Piece d at (front ++ decimal v) f q
numbered front v at p q d e f first second t = joined d e f at p q front (decimal v) first (second, rw length-decimal t)

-- PC in hexadecimal after a piece.
pub placed : (front : List ℕ) (pc at p q : ℕ) (d e f : List ℕ) → Piece d at front e p → f ≡ put e p (digits 16 3 pc) → q ≡ p + 3
    → Piece d at (front ++ digits 16 3 pc) f q
placed front pc at p q d e f first second t = joined d e f at p q front (digits 16 3 pc) first (second, rw length_digits t)

-- ---- lines

unlines-append : (ks ls : List (List ℕ)) → unlines (ks ++ ls) ≡ unlines ks ++ unlines ls
unfolding unlines
unlines-append [] ls = refl
unlines-append (k ∷ ks) ls = rw (append_assoc, ← unlines-append ks ls)

-- A line, ..
pub one_line : (d e : List ℕ) (at to : ℕ) (l : List ℕ) → Piece d at (l ++ (LF ∷ [])) e to → Piece d at (unlines (l ∷ [])) e to
unfolding unlines
one_line d e at to l piece = piece

-- .. and lines after lines.
pub more_lines : (d e f : List ℕ) (at p q : ℕ) (ks ls : List (List ℕ)) → Piece d at (unlines ks) e p → Piece e p (unlines ls) f q
    → Piece d at (unlines (ks ++ ls)) f q
more_lines d e f at p q ks ls first second = rw unlines-append (joined d e f at p q (unlines ks) (unlines ls) first second)

-- ---- a line for each number of a list, in turn

module _ (line : ℕ → List ℕ) (ns : List ℕ) (d : List ℕ) (at : ℕ) where
  pub none_yet : Piece d at (unlines (map line (take 0 ns))) d at
  unfolding unlines put
  none_yet = (refl, omega arith)

  pub next-line : (i n : ℕ) (e f : List ℕ) (p q : ℕ) → i < length ns → n ≡ get_or ns i 0 → Piece d at (unlines (map line (take i ns))) e p
      → Piece e p (line n ++ (LF ∷ [])) f q
      → Piece d at (unlines (map line (take (i + 1) ns))) f q
  next-line i n e f p q h m before now =
      rw (add-one i, take-suc ns i 0 h, map-append, ← m)
      (more_lines d e f at p q (map line (take i ns)) (line n ∷ []) before (one_line e f p q (line n) now))

  pub all_lines_lem : (i : ℕ) (e : List ℕ) (p : ℕ) → length ns ≤ i → Piece d at (unlines (map line (take i ns))) e p → Piece d at (unlines (map line ns)) e p
  all_lines_lem i e p h piece = rw (take_all i ns h) at piece
