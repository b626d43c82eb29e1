-- The bytes of a line.
use Rattle.std.specs.Prelude.{ℕ, Bool, ◌&&◌, ◌||◌, List, eqb, leb, length}
use Rattle.std.specs.List.{list_all}
use Prim.Native.Char.{code}
use Rattle.text.specs.Numerals.{is_between}

-- "Blanks (space, tab, CR)"
abbrev pub is_blank : ℕ → Bool
is_blank b = eqb b (code " ") || eqb b (code "\t") || eqb b (code "\r")

abbrev pub is_letter : ℕ → Bool
is_letter b = is_between "A" "Z" b || is_between "a" "z" b

abbrev pub is_letter_or_digit : ℕ → Bool
is_letter_or_digit b = is_letter b || is_between "0" "9" b

-- Each byte passes a test.
abbrev pub are_all : (ℕ → Bool) → List ℕ → Bool
are_all test s = list_all test s

-- "at most 500 bytes before the LF or the end, all blanks or 33 to 126? 2"
abbrev pub is_allowed : ℕ → Bool
is_allowed b = is_blank b || (leb 33 b && leb b 126)

abbrev pub most_bytes : ℕ
most_bytes = 500

unfoldable pub are_right_bytes : List ℕ → Bool
are_right_bytes line = leb (length line) most_bytes && are_all is_allowed line
