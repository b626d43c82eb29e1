-- One more entry in a table. Assumes nothing.
use Prim.Native.Nat.{ℕ, zero, suc, ◌+◌, ◌≤◌, ◌<◌}
use mathlib.Core.Path.{◌≡◌, refl, sym, ◌∙◌, ap, subst}
use mathlib.Core.Logic.{◌⊎◌, inl, inr, ⊎_elim, ∥∥₁_map}
use mathlib.Core.Bool.{Bool, true, false}
use mathlib.Core.List.{List, [], ◌∷◌, ◌++◌}
use native.Mathlib.Numerals.{add-one}
use native.Mathlib.Omega.{arith}
use lib.Dec.{ltb, eqb}
use lib.ListN.{length, get_or, set, length-set}
use lib.Seq.{get_or-set_same, get_or-set_other}
use borrow.Author.Tests.{ltb-true, ltb-false, eqb-true, eqb-false}
use Rattle.source.specs.Lookup.{is_among, place_of}
use Rattle.symbols.specs.Keys.{key_of, buckets, bucket_of, slots}
use Rattle.symbols.specs.Table.{head_of, recent_of, entry_at, next_of, key_at, start_of, end_of, part, name_at, names_of, OnChain}
use Rattle.symbols.specs.Table.OnChain.{here, there}
use Rattle.symbols.specs.Sound.{Entry, Reached, Linked, Sound}
use Rattle.symbols.proofs.LookupLaws.{among-place, name-at-place}
use Rattle.symbols.proofs.NameLaws.{length-names, names_at}

-- ---- the words that are stored

-- The words of entry `count` are stored, and those of the entries before it have not changed.
-- A head or a recent link has not changed either, or is the link to this entry; of the heads, only that of its chain is.
record Stored (table after : List ℕ) (count bucket key start end : ℕ) : Type 0 where
  pub size : length after ≡ length table
  pub has_next : next_of after count ≡ head_of table bucket
  pub has_key : key_at after count ≡ key
  pub has_start : start_of after count ≡ start
  pub has_end : end_of after count ≡ end
  pub others : (i : ℕ) → entry_at 0 ≤ i → i < entry_at count → get_or after i 0 ≡ get_or table i 0
  pub heads : (b : ℕ) → b < buckets → (head_of after b ≡ head_of table b) ⊎ ((head_of after b ≡ count + 1) × (b ≡ bucket))
  pub recents : (i : ℕ) → i < slots → (recent_of after i ≡ recent_of table i) ⊎ (recent_of after i ≡ count + 1)

module _ (table : List ℕ) (count next key start end : ℕ) where
  -- The table after each word of the entry.
  abbrev one : List ℕ
  one = set table (entry_at count) next

  abbrev two : List ℕ
  two = set one (entry_at count + 1) key

  abbrev three : List ℕ
  three = set two (entry_at count + 2) start

  abbrev four : List ℕ
  four = set three (entry_at count + 3) end

  -- No word before the entry has changed.
  before-kept : (i : ℕ) → i < entry_at count → get_or four i 0 ≡ get_or table i 0
  before-kept i h =
      let at = entry_at count in
      get_or-set_other three (at + 3) i end 0 (λ e. omega arith)
      ∙ get_or-set_other two (at + 2) i start 0 (λ e. omega arith)
      ∙ get_or-set_other one (at + 1) i key 0 (λ e. omega arith)
      ∙ get_or-set_other table at i next 0 (λ e. omega arith)

  -- These words are what is to be stored.
  entry-stored : (bucket : ℕ) → next ≡ head_of table bucket → entry_at (count + 1) ≤ length table → Stored table four count bucket key start end
  entry-stored bucket is room =
      let at = entry_at count in
      record {
        size = simp length-set;
        has_next =
            get_or-set_other three (at + 3) at end 0 (λ e. omega arith)
            ∙ get_or-set_other two (at + 2) at start 0 (λ e. omega arith)
            ∙ get_or-set_other one (at + 1) at key 0 (λ e. omega arith)
            ∙ get_or-set_same table at next 0 (omega arith)
            ∙ is;
        has_key =
            get_or-set_other three (at + 3) (at + 1) end 0 (λ e. omega arith)
            ∙ get_or-set_other two (at + 2) (at + 1) start 0 (λ e. omega arith)
            ∙ get_or-set_same one (at + 1) key 0 (simp length-set (omega arith));
        has_start = get_or-set_other three (at + 3) (at + 2) end 0 (λ e. omega arith) ∙ get_or-set_same two (at + 2) start 0 (simp length-set (omega arith));
        has_end = get_or-set_same three (at + 3) end 0 (simp length-set (omega arith));
        others = λ i low high. before-kept i high;
        heads = λ b h. inl (before-kept b (omega arith));
        recents = λ i h. inl (before-kept (buckets + i) (omega arith));
      }

module _ {table mid : List ℕ} {count bucket key start end : ℕ} (s : Stored table mid count bucket key start end)
    (slot : ℕ) (b_lt : bucket < buckets) (s-lt : slot < slots) (room : entry_at count ≤ length table) where
  -- The table with the entry at the head of its chain, ..
  abbrev headed : List ℕ
  headed = set mid bucket (count + 1)

  -- .. and as the recent one of its slot.
  abbrev linked : List ℕ
  linked = set headed (buckets + slot) (count + 1)

  -- Its chain begins with it.
  has_head : head_of linked bucket ≡ count + 1
  has_head =
      let size = s.size in
      get_or-set_other headed (buckets + slot) bucket (count + 1) 0 (λ e. omega arith) ∙ get_or-set_same mid bucket (count + 1) 0 (omega arith)

  -- No word of an entry has changed, ..
  entry_kept : (i : ℕ) → entry_at 0 ≤ i → get_or linked i 0 ≡ get_or mid i 0
  entry_kept i low = get_or-set_other headed (buckets + slot) i (count + 1) 0 (λ e. omega arith) ∙ get_or-set_other mid bucket i (count + 1) 0 (λ e. omega arith)

  -- .. no other head, ..
  head_cases : (b : ℕ) → b < buckets → (head_of linked b ≡ head_of table b) ⊎ ((head_of linked b ≡ count + 1) × (b ≡ bucket))
  head_cases b h = go (eqb b bucket) refl
    where
      go : (q : Bool) → eqb b bucket ≡ q → (head_of linked b ≡ head_of table b) ⊎ ((head_of linked b ≡ count + 1) × (b ≡ bucket))
      go true e = let same = eqb-true b bucket e in inr (ap (head_of linked) same ∙ has_head, same)
      go false e =
          rw
          (get_or-set_other headed (buckets + slot) b (count + 1) 0 (λ q. omega arith), get_or-set_other mid bucket b (count + 1) 0 (eqb-false b bucket e))
          (s.heads b h)

  -- .. and no other recent link.
  recent_cases : (i : ℕ) → i < slots → (recent_of linked i ≡ recent_of table i) ⊎ (recent_of linked i ≡ count + 1)
  recent_cases i h = go (eqb i slot) refl
    where
      go : (q : Bool) → eqb i slot ≡ q → (recent_of linked i ≡ recent_of table i) ⊎ (recent_of linked i ≡ count + 1)
      go true e =
          let same = eqb-true i slot e in
          let size = s.size in
          inr (ap (recent_of linked) same ∙ get_or-set_same headed (buckets + slot) (count + 1) 0 (simp length-set (omega arith)))
      go false e =
          let other = eqb-false i slot e in
          rw
          (get_or-set_other headed (buckets + slot) (buckets + i) (count + 1) 0 (λ q. other (omega arith)), get_or-set_other mid bucket (buckets + i) (count + 1) 0 (λ q. omega arith))
          (s.recents i h)

  -- The entry stays stored.
  link-stored : Stored table linked count bucket key start end
  link-stored =
      let at = entry_at count in
      record {
        size = simp length-set s.size;
        has_next = entry_kept at (omega arith) ∙ s.has_next;
        has_key = entry_kept (at + 1) (omega arith) ∙ s.has_key;
        has_start = entry_kept (at + 2) (omega arith) ∙ s.has_start;
        has_end = entry_kept (at + 3) (omega arith) ∙ s.has_end;
        others = λ i low high. entry_kept i low ∙ s.others i low high;
        heads = head_cases;
        recents = recent_cases;
      }

-- ---- the table after them

-- A name is stored as entry `count` of a table that is well made, and its chain begins with it, or it is one of the names before it.
record Added (source table after : List ℕ) (count start end key bucket : ℕ) : Type 0 where
  pub sound : Sound source table count
  pub stored : Stored table after count bucket key start end
  pub room : entry_at (count + 1) ≤ length table
  pub order : start ≤ end
  pub within : end ≤ length source
  pub is_key : key ≡ key_of (part source start end)
  pub is_bucket : bucket ≡ bucket_of key
  pub known : (head_of after bucket ≡ count + 1) ⊎ (is_among (names_of source table count) (part source start end) ≡ true)

-- A number below the next is below this one, or is this one.
before-or-last : (k count : ℕ) → k < count + 1 → (k < count) ⊎ (k ≡ count)
before-or-last k count h = go (ltb k count) refl
  where
    go : (r : Bool) → ltb k count ≡ r → (k < count) ⊎ (k ≡ count)
    go true e = inl (ltb-true k count e)
    go false e = let past = ltb-false k count e in inr (omega arith)

module _ {source table after : List ℕ} {count start end key bucket : ℕ} (a : Added source table after count start end key bucket) where
  -- The words of the entries before are kept, ..
  word_kept : (k i : ℕ) → k < count → i < 4 → get_or after (entry_at k + i) 0 ≡ get_or table (entry_at k + i) 0
  word_kept k i h l = a.stored.others (entry_at k + i) (omega arith) (omega arith)

  next-kept : (k : ℕ) → k < count → next_of after k ≡ next_of table k
  next-kept k h = a.stored.others (entry_at k) (omega arith) (omega arith)

  -- .. and so are their names, ..
  name-kept : (k : ℕ) → k < count → name_at source after k ≡ name_at source table k
  unfolding name_at
  name-kept k h = rw (word_kept k 2 h (omega arith), word_kept k 3 h (omega arith))

  names-kept : (n : ℕ) → n ≤ count → names_of source after n ≡ names_of source table n
  unfolding names_of
  names-kept zero h = refl
  names-kept (suc n) h = rw (names-kept n (omega arith), name-kept n h)

  -- .. after which the new one stands.
  name_new : name_at source after count ≡ part source start end
  unfolding name_at
  name_new = rw (a.stored.has_start, a.stored.has_end)

  names_added : names_of source after (count + 1) ≡ names_of source table count ++ (part source start end ∷ [])
  unfolding names_of
  names_added = rw (add-one count, names-kept count (omega arith), name_new)

  -- ---- chains

  -- The entries before have the chains that they had.
  chain_kept : {link k : ℕ} → OnChain table link k → link ≤ count → OnChain after link k
  chain_kept (here e) h = here e
  chain_kept (there {k = k} j e rest) h =
      let below : j < count = omega arith in
      let next = (a.sound.entries j below).next in
      there j e (subst (λ (x : ℕ). OnChain after x k) (sym (next-kept j below)) (chain_kept rest (omega arith)))

  -- ---- the parts of a table that is well made

  -- The entries, ..
  entries_added : (k : ℕ) → k < count + 1 → Entry source after k
  entries_added k h = ⊎_elim before last (before-or-last k count h)
    where
      before : k < count → Entry source after k
      before l =
          let e = a.sound.entries k l in
          let name = name-kept k l in
          record {
            next = rw (next-kept k l) e.next;
            key = word_kept k 1 l (omega arith) ∙ e.key ∙ ap key_of (sym name);
            order = rw (word_kept k 2 l (omega arith), word_kept k 3 l (omega arith)) e.order;
            within = rw (word_kept k 3 l (omega arith)) e.within;
          }

      last : k ≡ count → Entry source after k
      last q =
          rw q
          record {
            next = rw a.stored.has_next (let is = a.is_bucket in a.sound.heads bucket (omega arith));
            key = a.stored.has_key ∙ a.is_key ∙ ap key_of (sym name_new);
            order = rw (a.stored.has_start, a.stored.has_end) a.order;
            within = rw a.stored.has_end a.within;
          }

  -- .. the links, ..
  heads_added : (b : ℕ) → b < buckets → head_of after b ≤ count + 1
  heads_added b h =
      let most = a.sound.heads b h in
      ⊎_elim (λ e. omega arith) (λ e. let first = e.0 in omega arith) (a.stored.heads b h)

  recents_added : (i : ℕ) → i < slots → recent_of after i ≤ count + 1
  recents_added i h =
      let most = a.sound.recents i h in
      ⊎_elim (λ e. omega arith) (λ e. omega arith) (a.stored.recents i h)

  -- A name that was on a chain still is.
  still_on : (b k below : ℕ) (t : List ℕ) → b < buckets → k < count → k < below → Reached source table (k + 1) t (head_of table b) → Reached source after below t (head_of after b)
  still_on b k below t h l few on =
      let i = on.entry in
      let first = on.first in
      let kept = chain_kept on.on_chain (a.sound.heads b h) in
      record {
        entry = i;
        first = omega arith;
        name = name-kept i (omega arith) ∙ on.name;
        on_chain =
            ⊎_elim
            (λ e. subst (λ (x : ℕ). OnChain after x i) (sym e) kept)
            (λ e. there count e.0 (subst (λ (x : ℕ). OnChain after x i) (ap (head_of table) e.1 ∙ sym a.stored.has_next) kept))
            (a.stored.heads b h);
      }

  -- So is the name of an entry before, for any entry after it that has it.
  name_on : (j k : ℕ) → j < count → j ≤ k → name_at source table j ≡ name_at source after k → Linked source after k
  name_on j k l le e =
      ∥∥₁_map (a.sound.linked j l)
      (λ on.
      subst
      (λ (u : List ℕ). Reached source after (k + 1) u (head_of after (bucket_of (key_of u))))
      e
      (still_on (bucket_of (key_of (name_at source table j))) j (k + 1) (name_at source table j) (omega arith) l (omega arith) on))

  -- .. and the name of each entry on its chain.
  linked_added : (k : ℕ) → k < count + 1 → Linked source after k
  linked_added k h = ⊎_elim (λ l. name_on k k l (omega arith) (sym (name-kept k l))) last (before-or-last k count h)
    where
      seen : is_among (names_of source table count) (part source start end) ≡ true → Linked source after count
      seen e =
          let ns = names_of source table count in
          let t = part source start end in
          let j = place_of ns t in
          let size = length-names source table count in
          let below = ltb-true j (length ns) (sym (among-place ns t) ∙ e) in
          let l : j < count = omega arith in
          name_on j count l (omega arith) (sym (names_at source table count j l) ∙ name-at-place ns t below ∙ sym name_new)

      top : head_of after bucket ≡ count + 1 → Linked source after count
      top e =
          let own : bucket_of (key_of (name_at source after count)) ≡ bucket = ap (λ (u : List ℕ). bucket_of (key_of u)) name_new ∙ ap bucket_of (sym a.is_key) ∙ sym a.is_bucket in
          ∣ record { entry = count; first = omega arith; name = refl; on_chain = here (ap (head_of after) own ∙ e) } ∣₁

      last : k ≡ count → Linked source after k
      last q = rw q (⊎_elim top seen a.known)

  -- The table is well made with the new entry.
  sound_added : Sound source after (count + 1)
  sound_added =
      let room = a.room in
      let size = a.stored.size in
      record { room = omega arith; entries = entries_added; heads = heads_added; recents = recents_added; linked = linked_added }

-- ---- both ways to add

-- The table has one entry more, for the name from start to end.
abbrev OneMore : (source table after : List ℕ) (count start end : ℕ) → Type 0
OneMore source table after count start end =
    Sound source after (count + 1) × (names_of source after (count + 1) ≡ names_of source table count ++ (part source start end ∷ [])) × (length after ≡ length table)

module _ {source table : List ℕ} {count start end : ℕ}
    (sound : Sound source table count) (order : start ≤ end) (within : end ≤ length source) (room : entry_at (count + 1) ≤ length table)
    (key : ℕ) (is_key : key ≡ key_of (part source start end)) where
  -- Its words are stored, and its chain begins with it or its name is one of those before.
  one_more : {after : List ℕ} → Stored table after count (bucket_of key) key start end
      → (head_of after (bucket_of key) ≡ count + 1) ⊎ (is_among (names_of source table count) (part source start end) ≡ true)
      → OneMore source table after count start end
  one_more {after} stored known =
      let a : Added source table after count start end key (bucket_of key)
      = record { sound = sound; stored = stored; room = room; order = order; within = within; is_key = is_key; is_bucket = refl; known = known } in
      (sound_added a, names_added a, stored.size)

  -- The words that every entry has.
  stored-entry : Stored table (four table count (head_of table (bucket_of key)) key start end) count (bucket_of key) key start end
  stored-entry = entry-stored table count (head_of table (bucket_of key)) key start end (bucket_of key) refl room

  -- The name is one of those before: the words of the entry are stored, and no link to it.
  pub known_added : is_among (names_of source table count) (part source start end) ≡ true
      → OneMore source table (four table count (head_of table (bucket_of key)) key start end) count start end
  known_added known = one_more stored-entry (inr known)

  -- It need not be: the entry becomes the first of its chain and the recent one of its slot.
  pub first_added : (slot : ℕ) → slot < slots
      → OneMore source table
      (set (set (four table count (head_of table (bucket_of key)) key start end) (bucket_of key) (count + 1)) (buckets + slot) (count + 1))
      count start end
  first_added slot few =
      let b : bucket_of key < buckets = omega arith in
      let most : entry_at count ≤ length table = omega arith in
      one_more (link-stored stored-entry slot b few most) (inl (has_head stored-entry slot b few most))
