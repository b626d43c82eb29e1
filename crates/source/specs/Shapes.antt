-- The shape of a line: a sign for each of its tokens. A dialect is a list of shapes.
use Rattle.std.specs.Prelude.{ℕ, ◌+◌, Bool, true, false, cond, ◌&&◌, ◌||◌, List, [], ◌∷◌, eqb}
use Prim.Native.Char.{code}
use Rattle.text.specs.Bytes.{bytes}
use Rattle.source.specs.Tokens.{Token, tokens, texts}
use Rattle.source.specs.Numbers.{number, is_number}
use Rattle.text.specs.Same.{same}
use Rattle.source.specs.Names.{is_name, is_register, is_definition}

-- What a sign asks of a token: `:` a label's definition, `o` an op, `$` a register, `,` a comma, `0` a number, `i` an immediate (a number or a label),
-- `.` the directive.
unfoldable pub fits : (directive : List ℕ) (sign : ℕ) → List ℕ → Bool
fits directive sign t =
    cond (eqb sign (code ":")) (is_definition t)
    (cond (eqb sign (code "o")) (is_name t)
    (cond (eqb sign (code "$")) (is_register t)
    (cond (eqb sign (code ",")) (same t (bytes ","))
    (cond (eqb sign (code "0")) (is_number (number t))
    (cond (eqb sign (code "i")) (is_number (number t) || is_name t)
    (cond (eqb sign (code ".")) (same t directive)
    false))))))

-- Tokens have a shape: each fits its sign, and there are as many.
unfoldable pub matches : (directive shape : List ℕ) → List (List ℕ) → Bool
matches directive [] [] = true
matches directive [] (t ∷ ts) = false
matches directive (sign ∷ shape) [] = false
matches directive (sign ∷ shape) (t ∷ ts) = fits directive sign t && matches directive shape ts

-- The number of the first shape of a list that tokens have; as many as there are shapes where they have none: "The line's form? 3."
unfoldable pub first_shape : (directive : List ℕ) (shapes ts : List (List ℕ)) → ℕ
first_shape directive [] ts = 0
first_shape directive (shape ∷ shapes) ts = let more = 1 + first_shape directive shapes ts in cond (matches directive shape ts) 0 more

-- A line parsed: which shape its tokens have, and the tokens, with their places.
pub record Parsed : Type 0 where
  pub shape : ℕ
  pub parts : List Token

abbrev pub parsed : (directive : List ℕ) (shapes : List (List ℕ)) → List ℕ → Parsed
parsed directive shapes line = record { shape = first_shape directive shapes (texts (tokens line)); parts = tokens line }
