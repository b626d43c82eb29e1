-- A name looked for along its chain. Assumes nothing.
use Rattle.std.specs.Prelude.{None}
use Prim.Native.Nat.{ℕ, ◌+◌, ◌≤◌, ◌<◌}
use mathlib.Core.Path.{◌≡◌, sym, ◌∙◌, ap, subst}
use mathlib.Core.Logic.{◌⊎◌, inl, inr, ⊎_elim, ∥∥₁_map, ∥∥₁_elim}
use mathlib.Core.Bool.{Bool, true, false, ◌&&◌, and-false, false≢true}
use mathlib.Core.List.{List, []}
use native.Mathlib.Omega.{arith}
use lib.Dec.{ltb}
use lib.ListN.{get_or}
use borrow.Author.Tests.{ltb-true, lt-ltb, le-ltb}
use Rattle.text.proofs.Truth.{and_left, and_right}
use Rattle.text.specs.Same.{same}
use Rattle.source.specs.Lookup.{is_among}
use Rattle.symbols.specs.Keys.{key_of, buckets, bucket_of}
use Rattle.symbols.specs.Table.{head_of, next_of, key_at, part, start_of, end_of, name_at, names_of, OnChain}
use Rattle.symbols.specs.Table.OnChain.{here, there}
use Rattle.symbols.specs.Sound.{Entry, Reached, Sound, FoundAt, Found}
use Rattle.text.proofs.SameLaws.{same_equal}
use Rattle.symbols.proofs.LookupLaws.{same_self, other_same, is_among_lem, none-among}
use Rattle.symbols.proofs.NameLaws.{length-names, names_at}

-- ---- chains

-- What is on a chain is its first entry, or on the chain after it; ..
chain_cases : (table : List ℕ) (j : ℕ) {link k : ℕ} → OnChain table link k → link ≡ j + 1 → (k ≡ j) ⊎ OnChain table (next_of table j) k
chain_cases table j (here e) q = inl (omega arith)
chain_cases table j (there {k = k} i e rest) q =
    let same : i ≡ j = omega arith in
    inr (subst (λ (x : ℕ). OnChain table (next_of table x) k) same rest)

-- .. an empty chain has none.
chain_ends : (table : List ℕ) {link k : ℕ} → OnChain table link k → link ≡ 0 → ⊥
chain_ends table (here e) q = omega arith
chain_ends table (there j e rest) q = omega arith

-- ---- whether an entry is one of the first and has a name

module _ (source table : List ℕ) (below k : ℕ) (t : List ℕ) where
  -- It has another key, and so another name.
  pub other_key : (key : ℕ) → key ≡ key_of t → Entry source table k → (key_at table k ≡ key → ⊥) → false ≡ (ltb k below && same t (name_at source table k))
  other_key key is e n = rw (other_same t (name_at source table k) (λ q. n (e.key ∙ sym (ap key_of q) ∙ sym is))) (sym (and-false (ltb k below)))

  -- Its name is the part from its start to its end.
  pub same-part : k < below → (r : Bool) → r ≡ same t (part source (start_of table k) (end_of table k)) → r ≡ (ltb k below && same t (name_at source table k))
  unfolding name_at
  same-part h r e = rw (lt-ltb k below h) e

  -- It is none of the first.
  pub past_first : below ≤ k → false ≡ (ltb k below && same t (name_at source table k))
  past_first h = rw (le-ltb k below h)

  -- It was asked whether it is one of the first and has the name, and it is and has: ..
  module _ (r : Bool) (asked : r ≡ (ltb k below && same t (name_at source table k))) (e : r ≡ true) where
    is-first : ltb k below ≡ true
    is-first = and_left (ltb k below) (same t (name_at source table k)) (sym asked ∙ e)

    has_name : get_or (names_of source table below) k [] ≡ t
    has_name =
        names_at source table below k (ltb-true k below is-first)
        ∙ sym (same_equal t (name_at source table k) (and_right (ltb k below) (same t (name_at source table k)) (sym asked ∙ e)))

    -- .. the name is one of theirs, ..
    pub name-among : is_among (names_of source table below) t ≡ true
    name-among =
        let size = length-names source table below in
        let known = ltb-true k below is-first in
        is_among_lem (names_of source table below) t k (omega arith) has_name

    -- .. and this is the answer.
    pub found : FoundAt source table below t k
    found = record { within = ltb-true k below is-first; among = name-among; name = has_name }

-- ---- the search

-- What is left of it: a chain on which the name is, where one of the first entries has it.
pub record Left (source table : List ℕ) (count below : ℕ) (t : List ℕ) (link : ℕ) : Type 0 where
  pub within : link ≤ count
  pub has : (k : ℕ) → k < below → name_at source table k ≡ t → ∥ Reached source table below t link ∥₁

module _ {source table : List ℕ} {count : ℕ} (s : Sound source table count) (below : ℕ) (t : List ℕ) where
  -- The whole chain is left.
  pub whole-left : below ≤ count → (bucket : ℕ) → bucket ≡ bucket_of (key_of t) → bucket < buckets → Left source table count below t (head_of table bucket)
  whole-left few bucket e b =
      record {
        within = s.heads bucket b;
        has = λ k h name.
            ∥∥₁_map (s.linked k (omega arith))
            (λ on.
            let early = on.first in
            record {
              entry = on.entry;
              first = omega arith;
              name = on.name ∙ name;
              on_chain = subst (λ (x : ℕ). OnChain table (head_of table x) on.entry) (ap (λ (u : List ℕ). bucket_of (key_of u)) name ∙ sym e) on.on_chain;
            });
      }

  module _ {link : ℕ} (l : Left source table count below t link) where
    module _ (k : ℕ) (is : link ≡ k + 1) (r : Bool) (asked : r ≡ (ltb k below && same t (name_at source table k))) where
      -- This entry is none of the first with the name, and the next one is asked.
      pub one_less : r ≡ false → Left source table count below t (next_of table k)
      one_less e =
          let most = l.within in
          let next = (s.entries k (omega arith)).next in
          record {
            within = omega arith;
            has = λ i h name.
                ∥∥₁_map (l.has i h name)
                (λ on.
                let early = on.first in
                ⊎_elim
                (λ (q : on.entry ≡ k).
                absurd
                (false≢true
                (sym e
                ∙ asked
                ∙ rw (lt-ltb k below (omega arith)) (ap (same t) (ap (name_at source table) (sym q) ∙ on.name) ∙ same_self t))))
                (λ rest. record { entry = on.entry; first = early; name = on.name; on_chain = rest })
                (chain_cases table k on.on_chain is));
          }

    -- None has it.
    pub none_left : link ≡ 0 → Found source table below t None
    none_left e =
        let size = length-names source table below in
        none-among (names_of source table below) t
        (λ k h name.
        let known : k < below = omega arith in
        ∥∥₁_elim (l.has k known (sym (names_at source table below k known) ∙ name)) (λ x y. absurd x) (λ on. chain_ends table on.on_chain e))
