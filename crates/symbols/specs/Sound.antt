-- A table that is well made: what looking a name up leans on.
use Rattle.std.specs.Prelude.{ℕ, ◌+◌, ◌≤◌, ◌<◌, ◌≡◌, true, false, Option, None, Some, List, [], length, get_or}
use Rattle.source.specs.Lookup.{is_among}
use Rattle.symbols.specs.Keys.{key_of, buckets, bucket_of, slots}
use Rattle.symbols.specs.Table.{head_of, recent_of, entry_at, next_of, key_at, start_of, end_of, name_at, names_of, OnChain}

-- Entry k is a part of the text with its key, and the next of its chain has a lower number.
pub record Entry (source table : List ℕ) (k : ℕ) : Type 0 where
  pub next : next_of table k ≤ k
  pub key : key_at table k ≡ key_of (name_at source table k)
  pub order : start_of table k ≤ end_of table k
  pub within : end_of table k ≤ length source

-- The chain that begins with a link has one of the first `below` entries, and that one has the name t.
pub record Reached (source table : List ℕ) (below : ℕ) (t : List ℕ) (link : ℕ) : Type 0 where
  pub entry : ℕ
  pub first : entry < below
  pub name : name_at source table entry ≡ t
  pub on_chain : OnChain table link entry

-- The name of entry k is on the chain of its key, by this entry or by one before it.
abbrev pub Linked : (source table : List ℕ) → ℕ → Type 0
Linked source table k = ∥ Reached source table (k + 1) (name_at source table k) (head_of table (bucket_of (key_of (name_at source table k)))) ∥₁

-- There is room for the entries, the links lead to them, and the name of each is on its chain.
pub record Sound (source table : List ℕ) (count : ℕ) : Type 0 where
  pub room : entry_at count ≤ length table
  pub entries : (k : ℕ) → k < count → Entry source table k
  pub heads : (bucket : ℕ) → bucket < buckets → head_of table bucket ≤ count
  pub recents : (slot : ℕ) → slot < slots → recent_of table slot ≤ count
  pub linked : (k : ℕ) → k < count → Linked source table k

-- A table with no entry: every chain is empty, and no name is recent.
pub record Empty (table : List ℕ) : Type 0 where
  pub room : entry_at 0 ≤ length table
  pub heads : (bucket : ℕ) → bucket < buckets → head_of table bucket ≡ 0
  pub recents : (slot : ℕ) → slot < slots → recent_of table slot ≡ 0

-- Entry r, one of the first `below`, has the name t.
pub record FoundAt (source table : List ℕ) (below : ℕ) (t : List ℕ) (r : ℕ) : Type 0 where
  pub within : r < below
  pub among : is_among (names_of source table below) t ≡ true
  pub name : get_or (names_of source table below) r [] ≡ t

-- A name was looked up among the first `below` entries, and this is the answer: the number of an entry that has it, or that none has it.
abbrev pub Found : (source table : List ℕ) (below : ℕ) (t : List ℕ) → Option ℕ → Type 0
Found source table below t None = is_among (names_of source table below) t ≡ false
Found source table below t (Some r) = FoundAt source table below t r
