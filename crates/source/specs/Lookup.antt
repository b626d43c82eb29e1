-- A name looked up among others. "Names are case-sensitive".
use Rattle.std.specs.Prelude.{ℕ, suc, Bool, false, cond, ◌||◌, List, [], ◌∷◌}
use Rattle.text.specs.Same.{same}

-- A name is one of these.
unfoldable pub is_among : List (List ℕ) → List ℕ → Bool
is_among [] t = false
is_among (n ∷ ns) t = same t n || is_among ns t

-- Its place among them, the first if it has several; as many as there are where it is none of them.
unfoldable pub place_of : List (List ℕ) → List ℕ → ℕ
place_of [] t = 0
place_of (n ∷ ns) t = let more = suc (place_of ns t) in cond (same t n) 0 more
