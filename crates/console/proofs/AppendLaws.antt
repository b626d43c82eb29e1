-- Pieces put on a line, and the path of a new file. Assumes nothing.
use Prim.Native.Nat.{ℕ, ◌+◌, ◌-◌, ◌≤◌, ◌<◌}
use mathlib.Core.Path.{◌≡◌, refl, sym, ◌∙◌, ap}
use mathlib.Core.List.{List, [], ◌∷◌, ◌++◌}
use native.Mathlib.Omega.{arith}
use lib.ListN.{length, length-append}
use borrow.Author.Tests.{le-leb, lt-leb}
use Rattle.text.specs.Bytes.{bytes}
use Rattle.text.specs.Place.{put}
use Rattle.text.proofs.PieceLaws.{more}
use Rattle.text.proofs.PutLaws.{put_nil, length-put}
use Rattle.console.specs.Counts.{IsPrefixLen}
use Rattle.console.specs.Line.{Line, appended, with_pieces, PiecesPut}
use Rattle.console.specs.Paths.{new_path}
use Rattle.console.proofs.ReadLaws.{within}

-- ---- a line

-- A piece for which there is room, ..
module _ (before xs : List ℕ) (at : ℕ) (inside : at ≤ length before) where
  pub pieces_one : (after : List ℕ) (r : ℕ) → length xs ≤ length before - at → after ≡ put before at xs → r ≡ at + length xs → PiecesPut (xs ∷ []) before at after r
  unfolding appended
  pieces_one after r room is end =
      record {
        line = rw (le-leb (length xs) (length before - at) room, is, end);
        counts = within r after (rw is (rw length-put (omega arith)));
      }

  -- .. and one for which there is none.
  pub pieces_none : length before - at < length xs → PiecesPut (xs ∷ []) before at before at
  unfolding appended
  pieces_none room = record { line = rw (lt-leb (length xs) (length before - at) room); counts = within at before inside }

-- Pieces after pieces.
pieces_append : (l : Line) (ps qs : List (List ℕ)) → with_pieces (with_pieces l ps) qs ≡ with_pieces l (ps ++ qs)
pieces_append l [] qs = refl
pieces_append l (xs ∷ ps) qs = pieces_append (appended l xs) ps qs

pub pieces_more : {ps qs : List (List ℕ)} {before middle after : List ℕ} {at q r : ℕ} → PiecesPut ps before at middle q → PiecesPut qs middle q after r
    → PiecesPut (ps ++ qs) before at after r
pieces_more {ps} {qs} {before} {at = at} first second =
    record { line = second.line ∙ ap (λ (l : Line). with_pieces l qs) first.line ∙ pieces_append (record { bytes = before; end = at }) ps qs; counts = second.counts }

-- ---- the path of a new file

pub no_path : (path out : List ℕ) → length out < length path + 4
    → (out ≡ put out 0 (new_path (length out) path)) × (0 ≡ length (new_path (length out) path)) × IsPrefixLen 0 out
unfolding new_path
no_path path out h = rw (lt-leb (length path + 4) (length out) h) (sym (put_nil out 0), refl, within 0 out (omega arith))

pub path_put : (path out middle after : List ℕ) (p r : ℕ) → length path + 4 ≤ length out
    → middle ≡ put out 0 path → p ≡ 0 + length path → after ≡ put middle p (bytes ".new") → r ≡ p + 4
    → (after ≡ put out 0 (new_path (length out) path)) × (r ≡ length (new_path (length out) path)) × IsPrefixLen r after
unfolding new_path
path_put path out middle after p r h first at second end =
    let is-put = more out middle after 0 p path (bytes ".new") at first second in
    let size : r ≡ length (path ++ bytes ".new") = rw length-append (omega arith) in
    rw (le-leb (length path + 4) (length out) h) (is-put, size, within r after (rw is-put (rw length-put (omega arith))))
