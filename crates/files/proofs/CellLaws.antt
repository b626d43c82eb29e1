-- The numbers of a memory's words, over what its words are. Assumes nothing.
use Prim.Native.Nat.{ℕ, zero, suc, ◌-◌, ◌<◌}
use mathlib.Core.Path.{◌≡◌, refl, sym, ◌∙◌, ap}
use mathlib.Core.List.{List, ◌∷◌, ◌++◌, map, map-append, append-nil}
use lib.ListN.{length, take, set, get_or, replicate, length-map}
use Rattle.std.specs.List.{take-map}
use Rattle.std.proofs.lemmas.List.{map-set, get_or-map, nil_from_length}

module _ {X : Type 0} (number : X → ℕ) (numbers : List X → List ℕ) (each : (words : List X) → numbers words ≡ map number words) where
  pub length-numbers : (words : List X) → length (numbers words) ≡ length words
  length-numbers words = rw each (length-map words number)

  pub number_at : (words : List X) (i : ℕ) (x : X) {v : ℕ} → i < length words → x ≡ get_or words i x → v ≡ number x → v ≡ get_or (numbers words) i 0
  number_at words i x h e q = q ∙ ap number e ∙ rw each (sym (get_or-map number words i x 0 h))

  pub numbers-set : (words : List X) (i : ℕ) (x : X) → numbers (set words i x) ≡ set (numbers words) i (number x)
  numbers-set words i x = rw (each, each) (map-set number words i x)

  map_replicate : (n : ℕ) (x : X) → map number (replicate n x) ≡ replicate n (number x)
  map_replicate zero x = refl
  map_replicate (suc n) x = ap (λ (l : List ℕ). number x ∷ l) (map_replicate n x)

  -- From a place on the m words are set to one whose number is 0; `after` is empty.
  pub numbers-filled : (words part after : List X) (n m : ℕ) (x : X) → number x ≡ 0 → part ≡ replicate (m - n) x → length after ≡ 0
      → numbers (take n words ++ (part ++ after)) ≡ take n (numbers words) ++ replicate (m - n) 0
  numbers-filled words part after n m x none filled end =
      rw (each, each, filled, nil_from_length after end, append-nil, map-append, map_replicate, none, take-map)
