-- The form of a line by the first shape that it has. Assumes nothing.
use Prim.Native.Nat.{ℕ, ◌+◌, ◌≤◌, ◌<◌}
use mathlib.Core.Path.{◌≡◌, refl, sym, ◌∙◌}
use mathlib.Core.Bool.{Bool, true, false, false≢true}
use mathlib.Core.List.{List}
use native.Mathlib.Omega.{arith}
use lib.Dec.{eqb, ltb}
use lib.ListN.{length}
use borrow.Author.Tests.{eqb-true, eqb-false, ltb-true, ltb-false}
use Rattle.text.specs.Bytes.{bytes}
use Rattle.source.specs.declared.Span.{Span}
use Rattle.source.specs.Bytes.{are_right_bytes}
use Rattle.source.specs.Tokens.{tokens, texts}
use Rattle.source.specs.Spans.{Split}
use Rattle.source.specs.Shapes.{matches, first_shape, parsed}
use Rattle.source.proofs.ShapeLaws.{other_number}
use Rattle.lines.specs.declared.Form.{Form}
use Rattle.lines.specs.declared.Form.TheVariants.{Nothing, Label, Code, Labelled, Word, Wrong}
use Rattle.lines.specs.Line.{directive, shapes, form_at, form_of, has_code, has_word, op_at}
use Rattle.lines.specs.Parts.{part_count, most_places, Formed}

-- Tokens that have a shape are as many as its signs.
pub shape-number : (d shape : List ℕ) (ts : List (List ℕ)) → matches d shape ts ≡ true → length shape ≡ length ts
shape-number d shape ts e = go (eqb (length shape) (length ts)) refl
  where
    go : (b : Bool) → eqb (length shape) (length ts) ≡ b → length shape ≡ length ts
    go true q = eqb-true (length shape) (length ts) q
    go false q = absurd (false≢true (other_number d shape ts (eqb-false (length shape) (length ts) q) ∙ e))

-- A line that has a shape was split into as many tokens.
pub shape-parts : {line : List ℕ} {spans : List Span} {n : ℕ} → Split line spans n → length spans ≡ most_places → (d shape : List ℕ) → length shape < 14
    → {r : Bool} → r ≡ matches d shape (texts (tokens line)) → r ≡ true → length shape ≤ n
shape-parts {line} {spans} {n} s room d shape few is e = go (ltb n (length shape)) refl
  where
    go : (b : Bool) → ltb n (length shape) ≡ b → length shape ≤ n
    go true q =
        let less = ltb-true n (length shape) q in
        let whole = s.few (omega arith) in
        let same = shape-number d shape (texts (tokens line)) (sym is ∙ e) in
        omega arith
    go false q = ltb-false n (length shape) q

-- ---- the first shape

module _ (line : List ℕ) {a : Bool} (is : a ≡ matches directive (bytes "") (texts (tokens line))) where
  pub is_nothing : a ≡ true → Nothing ≡ form_at (parsed directive shapes line).shape
  unfolding shapes first_shape
  is_nothing e = rw (← is, e)

  module _ (an : a ≡ false) {b : Bool} (isb : b ≡ matches directive (bytes ":") (texts (tokens line))) where
    pub is-label : b ≡ true → Label ≡ form_at (parsed directive shapes line).shape
    unfolding shapes first_shape
    is-label e = rw (← is, an, ← isb, e)

    module _ (bn : b ≡ false) {d : Bool} (isd : d ≡ matches directive (bytes "o$,$,$,$,i,i") (texts (tokens line))) where
      pub is_code : d ≡ true → Code ≡ form_at (parsed directive shapes line).shape
      unfolding shapes first_shape
      is_code e = rw (← is, an, ← isb, bn, ← isd, e)

      module _ (dn : d ≡ false) {l : Bool} (isl : l ≡ matches directive (bytes ":o$,$,$,$,i,i") (texts (tokens line))) where
        pub is_labelled : l ≡ true → Labelled ≡ form_at (parsed directive shapes line).shape
        unfolding shapes first_shape
        is_labelled e = rw (← is, an, ← isb, bn, ← isd, dn, ← isl, e)

        module _ (ln : l ≡ false) {w : Bool} (isw : w ≡ matches directive (bytes ".00") (texts (tokens line))) where
          pub is_word_lem : w ≡ true → Word ≡ form_at (parsed directive shapes line).shape
          unfolding shapes first_shape
          is_word_lem e = rw (← is, an, ← isb, bn, ← isd, dn, ← isl, ln, ← isw, e)

          pub is_wrong : w ≡ false → Wrong ≡ form_at (parsed directive shapes line).shape
          unfolding shapes first_shape
          is_wrong e = rw (← is, an, ← isb, bn, ← isd, dn, ← isl, ln, ← isw, e)

-- ---- the form

-- A line that does not pass question 2 has none, ..
pub formed_wrong : (line : List ℕ) (n : ℕ) (r : Bool) → r ≡ are_right_bytes line → r ≡ false → Formed line n Wrong
unfolding form_of
formed_wrong line n r is e = record { is = rw (← is, e); parts = omega arith }

-- .. and one that does that of its shape.
pub formed-shape : (line : List ℕ) (n : ℕ) (r : Bool) → r ≡ are_right_bytes line → r ≡ true
    → (f : Form) → f ≡ form_at (parsed directive shapes line).shape → part_count f ≤ n → Formed line n f
unfolding form_of
formed-shape line n r is e f shape few = record { is = rw (← is, e) shape; parts = few }

-- The form of an instruction: twelve tokens from its op on, for which there is room, and no `.word`.
pub code-form : (f : Form) → has_code f ≡ true → (op_at f + 12 ≡ part_count f) × (part_count f < 14) × (has_word f ≡ false)
code-form Nothing e = absurd (false≢true e)
code-form Label e = absurd (false≢true e)
code-form Code e = (refl, omega arith, refl)
code-form Labelled e = (refl, omega arith, refl)
code-form Word e = absurd (false≢true e)
code-form Wrong e = absurd (false≢true e)

-- Its tokens are all there.
pub code-room : {line : List ℕ} {n : ℕ} {f : Form} → Formed line n f → has_code f ≡ true → op_at f + 12 ≤ n
code-room {line} {n} {f} formed e = let all = (code-form f e).0 in let parts = formed.parts in omega arith
