-- The forms of names.
use Rattle.std.specs.Prelude.{ℕ, ◌-◌, Bool, ◌&&◌, List, eqb, leb, length, get_or, take, drop}
use Prim.Native.Char.{code}
use Rattle.source.specs.Bytes.{is_letter, is_letter_or_digit, are_all}

-- "a label is a letter, then letters or digits, 50 at most"; "An op has a label's form"
abbrev pub most_letters : ℕ
most_letters = 50

unfoldable pub is_name : List ℕ → Bool
is_name t = is_letter (get_or t 0 0) && leb (length t) most_letters && are_all is_letter_or_digit t

-- "a register is `$` and one or more letters or digits"
unfoldable pub is_register : List ℕ → Bool
is_register t = leb 2 (length t) && eqb (get_or t 0 0) (code "$") && are_all is_letter_or_digit (drop 1 t)

-- "`label:` .. one token": the name before the colon.
abbrev pub defined : List ℕ → List ℕ
defined t = take (length t - 1) t

unfoldable pub is_definition : List ℕ → Bool
is_definition t = eqb (get_or t (length t - 1) 0) (code ":") && is_name (defined t)
