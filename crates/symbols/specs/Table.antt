-- The table: first the heads of 4,096 chains, then links to 4,096 entries that were put on a chain recently, then
-- the entries, of four words each. A link is 0 where a chain ends, else one more than the number of an entry. A name is
-- a part of a text. A name that an entry on a chain has need not be on that chain again.
use Rattle.std.specs.Prelude.{ℕ, zero, suc, ◌+◌, ◌-◌, ◌*◌, ◌≡◌, List, [], ◌∷◌, ◌++◌, get_or, take, drop}
use Rattle.symbols.specs.Keys.{buckets, slots}

-- The link that a chain begins with.
abbrev pub head_of : List ℕ → ℕ → ℕ
head_of table bucket = get_or table bucket 0

-- The link to the entry that was the last to be put on a chain of those whose keys have this slot.
abbrev pub recent_of : List ℕ → ℕ → ℕ
recent_of table slot = get_or table (buckets + slot) 0

-- Where entry k stands: ..
abbrev pub entry_at : ℕ → ℕ
entry_at k = buckets + slots + 4 * k

-- .. the link to the next entry of its chain, ..
abbrev pub next_of : List ℕ → ℕ → ℕ
next_of table k = get_or table (entry_at k) 0

-- .. the key of its name, ..
abbrev pub key_at : List ℕ → ℕ → ℕ
key_at table k = get_or table (entry_at k + 1) 0

-- .. where the name starts in the text, ..
abbrev pub start_of : List ℕ → ℕ → ℕ
start_of table k = get_or table (entry_at k + 2) 0

-- .. and where it ends.
abbrev pub end_of : List ℕ → ℕ → ℕ
end_of table k = get_or table (entry_at k + 3) 0

-- The part of a text from a place up to another.
abbrev pub part : List ℕ → ℕ → ℕ → List ℕ
part source start end = take (end - start) (drop start source)

-- The name of entry k.
unfoldable pub name_at : (source table : List ℕ) → ℕ → List ℕ
name_at source table k = part source (start_of table k) (end_of table k)

-- The names of the first entries, in their order.
unfoldable pub names_of : (source table : List ℕ) → ℕ → List (List ℕ)
names_of source table zero = []
names_of source table (suc k) = names_of source table k ++ (name_at source table k ∷ [])

-- The chain that begins with a link has entry k: it is the first one, or it is on the chain after that.
pub data OnChain (table : List ℕ) : ℕ → ℕ → Type 0 where
  here : {link k : ℕ} → link ≡ k + 1 → OnChain table link k
  there : {link k : ℕ} (j : ℕ) → link ≡ j + 1 → OnChain table (next_of table j) k → OnChain table link k
