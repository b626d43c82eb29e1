-- trace.txt, hwregtrace.txt, leds.txt and display7seg.txt of document 003 are the lines T, H, L and D of the log, without the letter.
use Rattle.std.specs.Prelude.{ℕ, ◌≡◌, Bool, true, false, cond, eqb, length, drop}
use Prim.Native.Char.{code}
use Rattle.std.proofs.Math.Bool.{Bool-discrete}
use mathlib.Core.List.{List, [], ◌∷◌, ◌++◌, map, filter}
use Rattle.console.specs.Counts.{IsPrefixLen}
use Rattle.text.specs.Lines.{LF, lines, unlines}
use Rattle.text.specs.Place.{put}

-- The letters of the lines: T for each instruction, H for each in and out, L and D for each change of leds and display7seg.
abbrev pub letter_t : ℕ
letter_t = code "T"

abbrev pub letter_h : ℕ
letter_h = code "H"

abbrev pub letter_l : ℕ
letter_l = code "L"

abbrev pub letter_d : ℕ
letter_d = code "D"

-- The line begins with this letter.
abbrev pub begins_with : ℕ → List ℕ → Bool
begins_with letter [] = false
begins_with letter (c ∷ l) = eqb c letter

-- Of some lines, those that begin with a letter.
abbrev pub lines_of : ℕ → List (List ℕ) → List (List ℕ)
lines_of letter ls = filter {p = λ (l : List ℕ). begins_with letter l ≡ true} (λ l. Bool-discrete (begins_with letter l) true) ls

-- "The letter stands first", with "one space between fields": the lines of a log that begin with a letter, without these two bytes.
unfoldable pub lines_with : ℕ → List ℕ → List ℕ
lines_with letter log = unlines (map (drop 2) (lines_of letter (lines log)))

-- The same of one line (for the code, which goes line by line: `with_first` ties it to `lines_with`).
abbrev pub line_with : ℕ → List ℕ → List ℕ
line_with letter l = cond (begins_with letter l) (drop 2 l ++ (LF ∷ [])) []

-- A text that was `before` has the lines of a log that begin with a letter at its front now, and they have n bytes.
pub record Taken (letter : ℕ) (log before : List ℕ) (n : ℕ) (now : List ℕ) : Type 0 where
  pub text : now ≡ put before 0 (lines_with letter log)
  pub bytes_are : n ≡ length (lines_with letter log)
  pub within : IsPrefixLen n now
