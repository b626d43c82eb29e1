-- Where a token stands in a line (for the code).
use Rattle.std.specs.Prelude.{ℕ, ◌-◌, ◌≤◌, ◌<◌, ◌≡◌, false, Option, None, Some, List, [], ◌∷◌, eqb, length, get_or, take, drop}
use Prim.Native.Char.{code}
use Rattle.source.specs.declared.Span.{Span}
use Rattle.source.specs.Bytes.{is_blank}
use Rattle.source.specs.Tokens.{token, tokens_from, tokens, texts}

-- A byte that a token can begin with: no blank, and no `#`.
pub record Begins (b : ℕ) : Type 0 where
  pub blank : is_blank b ≡ false
  pub comment : eqb b (code "#") ≡ false

-- From p on no token begins before r, and one begins there.
pub record FirstStart (line : List ℕ) (p r : ℕ) : Type 0 where
  pub from : p ≤ r
  pub within : r < length line
  pub same : tokens_from p (drop p line) ≡ tokens_from r (drop r line)
  pub begins : Begins (get_or line r 0)

-- Where the first token from p on begins, if there is one.
abbrev pub StartsAt : (line : List ℕ) (p : ℕ) → Option ℕ → Type 0
StartsAt line p None = tokens_from p (drop p line) ≡ []
StartsAt line p (Some r) = FirstStart line p r

-- The token that begins at a ends before r.
pub record EndsAt (line : List ℕ) (a r : ℕ) : Type 0 where
  pub after : a < r
  pub within : r ≤ length line
  pub is : tokens_from a (drop a line) ≡ token a (take (r - a) (drop a line)) ∷ tokens_from r (drop r line)

-- From p on the first token stands at s.
pub record FirstToken (line : List ℕ) (p : ℕ) (s : Span) : Type 0 where
  pub from : p ≤ s.start
  pub order : s.start < s.end
  pub within : s.end ≤ length line
  pub is : tokens_from p (drop p line) ≡ token s.start (take (s.end - s.start) (drop s.start line)) ∷ tokens_from s.end (drop s.end line)

-- The first token from p on, if there is one.
abbrev pub TokenAt : (line : List ℕ) (p : ℕ) → Option Span → Type 0
TokenAt line p None = tokens_from p (drop p line) ≡ []
TokenAt line p (Some s) = FirstToken line p s

-- The bytes of a line at a place are t.
pub record PartOf (line : List ℕ) (s : Span) (t : List ℕ) : Type 0 where
  pub order : s.start ≤ s.end
  pub within : s.end ≤ length line
  pub is : take (s.end - s.start) (drop s.start line) ≡ t

-- The first byte of a line, where no token stands.
abbrev pub nowhere : Span
nowhere = record { start = 0; end = 0 }

-- The first n tokens of a line stand at these places.
abbrev pub Placed : (line : List ℕ) (spans : List Span) (n : ℕ) → Type 0
Placed line spans n = (k : ℕ) → k < n → PartOf line (get_or spans k nowhere) (get_or (texts (tokens line)) k [])

-- A line is split into its n tokens; where there is no room for more places, it has n at least.
pub record Split (line : List ℕ) (spans : List Span) (n : ℕ) : Type 0 where
  pub placed : Placed line spans n
  pub within : n ≤ length spans
  pub few : n < length spans → length (texts (tokens line)) ≡ n
  pub many : n ≤ length (texts (tokens line))
