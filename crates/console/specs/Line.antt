-- A line that is put together from pieces.
use Rattle.std.specs.Prelude.{ℕ, ◌+◌, ◌-◌, ◌≡◌, cond, List, [], ◌∷◌, leb, length}
use Rattle.text.specs.Place.{put}
use Rattle.console.specs.Counts.{IsPrefixLen}

-- The line's bytes, and the place where the next piece goes.
pub record Line : Type 0 where
  pub bytes : List ℕ
  pub end : ℕ

-- The line with a piece more; where there is no room for the piece, as it was.
unfoldable pub appended : Line → List ℕ → Line
appended l xs =
    cond (leb (length xs) (length l.bytes - l.end)) (record { bytes = put l.bytes l.end xs; end = l.end + length xs }) l

-- The line with more pieces, one after the other.
abbrev pub with_pieces : Line → List (List ℕ) → Line
with_pieces l [] = l
with_pieces l (xs ∷ pieces) = with_pieces (appended l xs) pieces

-- These pieces are put at a place of a line, up to r.
pub record PiecesPut (pieces : List (List ℕ)) (before : List ℕ) (at : ℕ) (after : List ℕ) (r : ℕ) : Type 0 where
  pub line : ◌≡◌ {A = Line} (record { bytes = after; end = r }) (with_pieces (record { bytes = before; end = at }) pieces)
  pub counts : IsPrefixLen r after
