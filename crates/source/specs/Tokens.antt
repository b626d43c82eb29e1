-- The tokens of a line, each with its place: "Blanks .. may stand around tokens .. `label:`, a register and a number are one token each."
use Rattle.std.specs.Prelude.{ℕ, ◌+◌, Bool, false, cond, not, ◌&&◌, ◌||◌, List, [], ◌∷◌, map, eqb}
use Prim.Native.Char.{code}
use Rattle.source.specs.Bytes.{is_blank}

-- A token: its bytes, and how many bytes of the line stand before it.
pub record Token : Type 0 where
  pub place : ℕ
  pub bytes : List ℕ

abbrev pub token : ℕ → List ℕ → Token
token place bytes = record { place = place; bytes = bytes }

-- A comma is a token, and a colon is the last byte of one.
abbrev pub closes : ℕ → Bool
closes b = eqb b (code ",") || eqb b (code ":")

-- A byte that can follow another in a token: no blank, comma or "optional `#` comment".
abbrev pub follows : ℕ → Bool
follows b = not (is_blank b || eqb b (code ",") || eqb b (code "#"))

-- b and the byte after it are of one token.
abbrev pub is_joined : ℕ → List ℕ → Bool
is_joined b [] = false
is_joined b (c ∷ s) = not (closes b) && follows c

-- The byte b at a place in front of the first token.
abbrev pub joined : ℕ → ℕ → List Token → List Token
joined place b [] = token place (b ∷ []) ∷ []
joined place b (t ∷ ts) = token place (b ∷ t.bytes) ∷ ts

-- The tokens of a line from a place on.
unfoldable pub tokens_from : ℕ → List ℕ → List Token
tokens_from place [] = []
tokens_from place (b ∷ s) =
    let rest = tokens_from (place + 1) s in
    cond (is_blank b) rest
    (cond (eqb b (code "#")) []
    (cond (is_joined b s) (joined place b rest)
    (token place (b ∷ []) ∷ rest)))

abbrev pub tokens : List ℕ → List Token
tokens line = tokens_from 0 line

-- The tokens' bytes.
abbrev pub texts : List Token → List (List ℕ)
texts ts = map (λ (t : Token). t.bytes) ts
