-- The tokens of a text added to a table one after the other. Assumes nothing.
use Prim.Native.Nat.{ℕ, ◌+◌, ◌≤◌}
use mathlib.Core.Path.{◌≡◌, refl, sym, ◌∙◌, ap}
use mathlib.Core.List.{List, [], ◌∷◌, ◌++◌, append-nil, append_assoc}
use native.Mathlib.Omega.{arith}
use lib.ListN.{length, drop}
use Rattle.source.specs.declared.Span.{Span}
use Rattle.source.specs.Tokens.{tokens, tokens_from, texts}
use Rattle.source.specs.Spans.{FirstToken}
use Rattle.symbols.specs.Table.{part, names_of}
use Rattle.symbols.specs.Sound.{Sound, Empty}
use Rattle.symbols.proofs.EmptyLaws.{empty_sound}

-- The tokens before p are in the table, and those from p on are left.
pub record Adding (names table before : List ℕ) (p count : ℕ) : Type 0 where
  pub sound : Sound names table count
  pub within : p ≤ length names
  pub few : count ≤ p
  pub size : length table ≡ length before
  pub done : names_of names table count ++ texts (tokens_from p (drop p names)) ≡ texts (tokens names)

-- None yet.
pub none_added : (names table : List ℕ) → Empty table → Adding names table table 0 0
unfolding names_of
none_added names table e = record { sound = empty_sound names table e; within = omega arith; few = omega arith; size = refl; done = refl }

module _ {names table before : List ℕ} {p count : ℕ} (a : Adding names table before p count) where
  -- None is left, ..
  pub all_added : tokens_from p (drop p names) ≡ [] → names_of names table count ≡ texts (tokens names)
  all_added none = sym (append-nil (names_of names table count)) ∙ ap (λ ts. names_of names table count ++ texts ts) (sym none) ∙ a.done

  -- .. or one more is added.
  pub one_added : (s : Span) → FirstToken names p s → (after : List ℕ) → Sound names after (count + 1)
      → names_of names after (count + 1) ≡ names_of names table count ++ (part names s.start s.end ∷ [])
      → length after ≡ length table → Adding names after before s.end (count + 1)
  one_added s t after sound added size =
      let few = a.few in
      let from = t.from in
      let order = t.order in
      record {
        sound = sound;
        within = t.within;
        few = omega arith;
        size = size ∙ a.size;
        done = rw (added, append_assoc) (ap (λ ts. names_of names table count ++ texts ts) (sym t.is) ∙ a.done);
      }
