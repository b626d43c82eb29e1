-- Numbers put at a place of a list.
use Rattle.std.specs.Prelude.{ℕ, ◌+◌, ◌≤◌, ◌≡◌, List, length}
use Rattle.std.proofs.lemmas.List.Edits.{sets}

-- The list d with xs in it from the place `at` on: the first of xs at `at`, the next at the place after it, and so on; what would lie past
-- the end is dropped. All other places keep what they hold.
unfoldable pub put : List ℕ → ℕ → List ℕ → List ℕ
put d at xs = sets d at xs

-- What a function that puts xs at a place promises: its memory has them there, and its answer r is the place after them.
abbrev pub Puts : List ℕ → ℕ → List ℕ → ℕ → List ℕ → Type 0
Puts before at xs r after = (after ≡ put before at xs) × (r ≡ at + length xs)

-- The same where a caller needs a bound as well: no more than `most` numbers are put.
abbrev pub PutsWithin : ℕ → List ℕ → ℕ → List ℕ → ℕ → List ℕ → Type 0
PutsWithin most before at xs r after = (after ≡ put before at xs) × (r ≡ at + length xs) × (r ≤ at + most)
