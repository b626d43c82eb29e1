-- How each answer on the form of a name meets its definition. Assumes nothing.
use Prim.Native.Nat.{ℕ, ◌-◌, ◌≤◌, ◌<◌}
use mathlib.Core.Path.{◌≡◌, refl, ◌∙◌, ap}
use mathlib.Core.Bool.{Bool, true, false}
use mathlib.Core.List.{List, [], ◌∷◌}
use native.Mathlib.Omega.{arith}
use lib.ListN.{length, get_or, take, drop, length-drop}
use lib.Seq.{take_all}
use borrow.Author.Tests.{le-leb, lt-leb, eq-eqb, ne_eqb}
use Rattle.source.specs.Bytes.{is_letter, is_letter_or_digit, are_all}
use Rattle.source.specs.Names.{is_name, is_register, defined, is_definition}

-- ---- a name

pub name_empty : (t : List ℕ) → length t ≡ 0 → false ≡ is_name t
unfolding is_name
name_empty [] e = refl
name_empty (b ∷ t) e = absurd (omega arith)

module _ (t : List ℕ) (r : Bool) (is : r ≡ is_letter (get_or t 0 0)) where
  pub name-first : r ≡ false → false ≡ is_name t
  unfolding is_name
  name-first e = rw (← is, e)

  pub name_long : r ≡ true → 50 < length t → false ≡ is_name t
  unfolding is_name
  name_long e h = rw (← is, e, lt-leb (length t) 50 h)

  pub name-rest : r ≡ true → length t ≤ 50 → (u : Bool) → u ≡ are_all is_letter_or_digit t → u ≡ is_name t
  unfolding is_name
  name-rest e h u q = rw (← is, e, le-leb (length t) 50 h) q

-- ---- a register

module _ (t : List ℕ) where
  pub register_short : length t < 2 → false ≡ is_register t
  unfolding is_register
  register_short h = rw (lt-leb 2 (length t) h)

  pub register-first : 2 ≤ length t → (get_or t 0 0 ≡ 36 → ⊥) → false ≡ is_register t
  unfolding is_register
  register-first h n = rw (le-leb 2 (length t) h, ne_eqb (get_or t 0 0) 36 n)

  pub register-rest : 2 ≤ length t → get_or t 0 0 ≡ 36 → (u : Bool) → u ≡ are_all is_letter_or_digit (take (length t - 1) (drop 1 t)) → u ≡ is_register t
  unfolding is_register
  register-rest h e u q =
      let whole = take_all (length t - 1) (drop 1 t) (rw length-drop (omega arith)) in
      rw (le-leb 2 (length t) h, eq-eqb (get_or t 0 0) 36 e) (q ∙ ap (are_all is_letter_or_digit) whole)

-- ---- a definition

pub definition_empty : (t : List ℕ) → length t ≡ 0 → false ≡ is_definition t
unfolding is_definition
definition_empty [] e = refl
definition_empty (b ∷ t) e = absurd (omega arith)

module _ (t : List ℕ) where
  pub definition_last : (get_or t (length t - 1) 0 ≡ 58 → ⊥) → false ≡ is_definition t
  unfolding is_definition
  definition_last n = rw (ne_eqb (get_or t (length t - 1) 0) 58 n)

  pub definition_rest : get_or t (length t - 1) 0 ≡ 58 → (u : Bool) → u ≡ is_name (defined t) → u ≡ is_definition t
  unfolding is_definition
  definition_rest e u q = rw (eq-eqb (get_or t (length t - 1) 0) 58 e) q
