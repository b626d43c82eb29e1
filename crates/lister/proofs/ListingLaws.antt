-- The passes over the words, word after word. Assumes nothing.
use Prim.Native.Nat.{ℕ, ◌+◌, ◌*◌, ◌≤◌, ◌<◌}
use mathlib.Core.Path.{◌≡◌, refl, sym, ◌∙◌, ap}
use mathlib.Core.Bool.{Bool, true, false, cond, not}
use mathlib.Core.List.{List, [], ◌∷◌, ◌++◌, map, append_assoc}
use native.Mathlib.Omega.{arith}
use native.Mathlib.Numerals.{add-one}
use lib.Dec.{leb}
use lib.ListN.{length, drop, get_or, length-append, drop_of_length-le}
use lib.Seq.{drop-cons}
use Rattle.text.specs.Lines.{LF, unlines}
use Rattle.text.specs.Place.{put}
use Rattle.text.specs.declared.Outcome.{Outcome}
use Rattle.text.specs.Questions.{refused}
use Rattle.text.proofs.PutLaws.{put_nil, put-append}
use Rattle.isa.specs.Word.{fields_of}
use Rattle.lister.specs.Listing.{listed_line, listing}
use Rattle.std.specs.Prelude.{Some, position}
use Rattle.std.specs.List.{position_from}
use Rattle.std.proofs.lemmas.Iterator.Adapters.{position_from-zero}
use Rattle.lister.specs.Calls.{last_opcode, unknown_told, first_unknown}
use Rattle.lister.proofs.LineLaws.{line_most}

-- ---- the text

pub listing_cons : (w : ℕ) (ws : List ℕ) → listing (w ∷ ws) ≡ (listed_line w ++ (LF ∷ [])) ++ listing ws
unfolding listing unlines
listing_cons w ws = sym (append_assoc (listed_line w) (LF ∷ []) (unlines (map listed_line ws)))

pub length-listing_cons : (w : ℕ) (ws : List ℕ) → length (listing (w ∷ ws)) ≡ length (listed_line w) + 1 + length (listing ws)
length-listing_cons w ws = rw listing_cons (simp length-append (omega arith))

-- 46 bytes a word at most.
pub listing_most : (ws : List ℕ) → length (listing ws) ≤ 46 * length ws
unfolding listing unlines
listing_most [] = omega arith
listing_most (w ∷ ws) = omega (arith, length-listing_cons w ws, line_most w, listing_most ws)

-- ---- word i

module _ (ws : List ℕ) (i : ℕ) where
  drop-word : i < length ws → drop i ws ≡ get_or ws i 0 ∷ drop (i + 1) ws
  drop-word h = rw (add-one i) (drop-cons ws i 0 h)

  -- Its line is measured, ..
  pub length_turn : i < length ws → length (listing (drop i ws)) ≡ length (listed_line (get_or ws i 0)) + 1 + length (listing (drop (i + 1) ws))
  length_turn h = rw (drop-word h) (length-listing_cons (get_or ws i 0) (drop (i + 1) ws))

  pub length-end : length ws ≤ i → length (listing (drop i ws)) ≡ 0
  unfolding listing unlines
  length-end h = rw (drop_of_length-le ws h)

  -- .. put, ..
  pub put_turn : (out e : List ℕ) (at to : ℕ) → i < length ws → e ≡ put out at (listed_line (get_or ws i 0) ++ (LF ∷ [])) → to ≡ at + length (listed_line (get_or ws i 0)) + 1
      → put e to (listing (drop (i + 1) ws)) ≡ put out at (listing (drop i ws))
  put_turn out e at to h q r =
      let line = listed_line (get_or ws i 0) ++ (LF ∷ []) in
      let rest = listing (drop (i + 1) ws) in
      let whole : listing (drop i ws) ≡ line ++ rest = rw (drop-word h) (listing_cons (get_or ws i 0) (drop (i + 1) ws)) in
      let place : to ≡ at + length line = simp length-append (omega arith) in
      rw (q, whole, put-append out at line rest, place)

  pub put-end : (out : List ℕ) (at : ℕ) → length ws ≤ i → out ≡ put out at (listing (drop i ws))
  unfolding listing unlines
  put-end out at h = rw (drop_of_length-le ws h, put_nil)

-- ---- the search for an unknown opcode

abbrev is_unknown : ℕ → Bool
is_unknown w = not (leb (fields_of w).op last_opcode)

told_from : (i : ℕ) (ws : List ℕ) (next : Outcome) → first_unknown i ws next ≡ unknown_told (position_from is_unknown i ws) next
unfolding first_unknown
told_from i [] next = refl
told_from i (w ∷ ws) next = go (leb (fields_of w).op last_opcode) (told_from (i + 1) ws next)
  where
    go : (known : Bool) → first_unknown (i + 1) ws next ≡ unknown_told (position_from is_unknown (i + 1) ws) next
        → cond known (first_unknown (i + 1) ws next) (refused 16 i) ≡ unknown_told (cond (not known) (Some i) (position_from is_unknown (i + 1) ws)) next
    go true e = e
    go false e = refl

-- What it returns tells what is refused.
pub told : (ws : List ℕ) (next : Outcome) → first_unknown 0 ws next ≡ unknown_told (position is_unknown ws) next
told ws next = told_from 0 ws next ∙ ap (λ o. unknown_told o next) (sym (position_from-zero is_unknown ws))
