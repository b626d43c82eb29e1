-- What the assembler finds in a listed text. Assumes nothing.
use Prim.Native.Nat.{ℕ, zero, suc, ◌+◌, ◌%◌, ◌^◌, ◌≤◌, suc-le-suc}
use mathlib.Core.Path.{◌≡◌, refl}
use mathlib.Core.Bool.{Bool, true, false, cond}
use mathlib.Core.List.{List, [], ◌∷◌, map}
use native.Mathlib.Omega.{arith}
use lib.ListN.{length, take}
use borrow.Author.Tests.{le-leb}
use Rattle.text.specs.declared.Outcome.{Outcome}
use Rattle.text.specs.Questions.{first_bad}
use Rattle.text.specs.Lines.{lines}
use Rattle.text.proofs.LineLaws.{NoneLF, lines-unlines}
use Rattle.files.specs.MemoryFile.{low48}
use Rattle.lines.specs.Line.{form_of, has_code}
use Rattle.labels.specs.Text.{code_count}
use Rattle.statements.specs.Questions.{line_questions}
use Rattle.assembler.specs.Memories.{code_of, stored}
use Rattle.lister.specs.Calls.{KnownOpcodes}
use Rattle.lister.specs.Listing.{listed_line, listing}
use Rattle.roundtrip.proofs.WrittenTokens.{allowed_no_lf}
use Rattle.roundtrip.proofs.ListedLine.{Good, listed-good}

module _ (w : ℕ) (ws : List ℕ) (known : KnownOpcodes (w ∷ ws)) where
  first_good : Good (listed_line w) (w % 2 ^ 48)
  first_good = listed-good w (known 0 (omega arith))

  rest-known : KnownOpcodes ws
  rest-known k h = known (suc k) (suc-le-suc h)

-- ---- its lines

none_lf : (ws : List ℕ) → KnownOpcodes ws → NoneLF (map listed_line ws)
unfolding NoneLF
none_lf [] known = tt
none_lf (w ∷ ws) known = (allowed_no_lf (listed_line w) (first_good w ws known).allowed, none_lf ws (rest-known w ws known))

pub listed-lines : (ws : List ℕ) → KnownOpcodes ws → lines (listing ws) ≡ map listed_line ws
unfolding listing
listed-lines ws known = lines-unlines (map listed_line ws) (none_lf ws known)

-- ---- its questions

-- At most i instructions stand on i lines.
count_le : (i : ℕ) (ls : List (List ℕ)) → code_count (take i ls) ≤ i
unfolding code_count
count_le zero ls = omega arith
count_le (suc i) [] = omega arith
count_le (suc i) (l ∷ ls) = go (has_code (form_of l)) (count_le i ls)
  where
    go : (t : Bool) → code_count (take i ls) ≤ i → cond t (suc (code_count (take i ls))) (code_count (take i ls)) ≤ suc i
    go true h = omega arith
    go false h = omega arith

-- No line is bad, whatever the text is that they are lines of.
pub no_line_bad : (all : List (List ℕ)) (i : ℕ) (ws : List ℕ) (t : Outcome) → KnownOpcodes ws → i + length ws ≤ 4096
    → first_bad (λ i line. line_questions all (take i all) line) i (map listed_line ws) t ≡ t
unfolding first_bad line_questions
no_line_bad all i [] t known h = refl
no_line_bad all i (w ∷ ws) t known h =
    let good = first_good w ws known in
    let count = count_le i all in
    rw (good.right-bytes, good.form, good.known, good.in_range, good.numeric1, good.numeric2, le-leb (code_count (take i all)) 4095 (omega arith))
    (no_line_bad all (i + 1) ws t (rest-known w ws known) (omega arith))

-- ---- its image and its data

pub listed-code : (all : List (List ℕ)) (ws : List ℕ) → KnownOpcodes ws → code_of all (map listed_line ws) ≡ low48 ws
unfolding code_of
listed-code all [] known = refl
listed-code all (w ∷ ws) known = let good = first_good w ws known in rw (good.form, good.word all, listed-code all ws (rest-known w ws known))

pub nothing_stored : (memory ws : List ℕ) → KnownOpcodes ws → stored memory (map listed_line ws) ≡ memory
unfolding stored
nothing_stored memory [] known = refl
nothing_stored memory (w ∷ ws) known = rw (stored, (first_good w ws known).form) (nothing_stored memory ws (rest-known w ws known))
