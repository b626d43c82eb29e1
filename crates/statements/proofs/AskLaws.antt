-- The questions of a line, asked and answered. Assumes nothing.
use Rattle.std.specs.Prelude.{Option, None, Some, is_some}
use Prim.Native.Nat.{ℕ, ◌≤◌, ◌<◌}
use mathlib.Core.Path.{◌≡◌, refl, sym, ◌∙◌, ap}
use mathlib.Core.Bool.{Bool, true, false, cond, not, ◌&&◌, ◌||◌, or-true, and-true, false≢true}
use mathlib.Core.List.{List, [], ◌∷◌}
use lib.Dec.{leb, ltb}
use lib.ListN.{take}
use borrow.Author.Tests.{le-leb, lt-leb}
use Rattle.text.specs.Questions.{accepted, first_no}
use Rattle.text.specs.Lines.{lines}
use Rattle.source.specs.Bytes.{are_right_bytes}
use Rattle.source.specs.Lookup.{is_among}
use Rattle.symbols.specs.Table.{names_of}
use Rattle.symbols.specs.Sound.{Found}
use Rattle.symbols.proofs.NameLaws.{first-names}
use Rattle.source.specs.Shapes.{parsed}
use Rattle.lines.specs.declared.Form.{Form}
use Rattle.lines.specs.declared.Form.TheVariants.{Wrong}
use Rattle.lines.specs.Line.{directive, shapes, form_at, form_of, is_right, has_label, has_code, label_of}
use Rattle.statements.specs.declared.Statement.{Statement}
use Rattle.labels.specs.Text.{labels}
use Rattle.statements.specs.Questions.{asked_if, last_address, line_questions}
use Rattle.labels.specs.Limits.{most_labels}
use Rattle.labels.specs.Tables.{LabelTable}
use Rattle.statements.specs.Reading.{StatementRead, After}

-- A line that has a form passes question 2.
pub right-form : (line : List ℕ) (f : Form) → f ≡ form_of line → is_right f ≡ true → are_right_bytes line ≡ true
unfolding form_of
right-form line f is e = go (are_right_bytes line) is
  where
    go : (b : Bool) → f ≡ cond b (form_at (parsed directive shapes line).shape) Wrong → b ≡ true
    go true q = refl
    go false q = absurd (false≢true (sym (ap is_right q) ∙ e))

-- ---- question 8

module _ (f : Form) (n m : ℕ) where
  abbrev is_placed : Bool
  is_placed = asked_if (has_code f || has_label f) (leb n last_address) && asked_if (has_label f) (ltb m most_labels)

  -- A label past the last address, and one before it; ..
  pub placed_late : has_label f ≡ true → last_address < n → false ≡ is_placed
  placed_late e h = rw (e, lt-leb n last_address h, or-true (has_code f))

  pub placed-label : has_label f ≡ true → n ≤ last_address → ltb m most_labels ≡ is_placed
  placed-label e h = rw (e, le-leb n last_address h, or-true (has_code f))

  -- .. an instruction without a label, and neither.
  pub placed-code : has_label f ≡ false → has_code f ≡ true → leb n last_address ≡ is_placed
  placed-code e g = rw (e, g) (sym (and-true (leb n last_address)))

  pub placed_else : has_label f ≡ false → has_code f ≡ false → true ≡ is_placed
  placed_else e g = rw (e, g)

-- ---- question 6

other_side : (some none : Bool) → some ≡ not none → none ≡ not some
other_side true true e = absurd (false≢true (sym e))
other_side true false e = refl
other_side false true e = refl
other_side false false e = absurd (false≢true e)

-- A label is new where it is not found among those of earlier lines.
pub fresh-is : (line : List ℕ) {source table values : List ℕ} {count m : ℕ} {x : List ℕ} → LabelTable source (lines source) table values count → m ≤ count → (r : Option ℕ) → Found source table m x r
    → (none : Bool) → is_some r ≡ not none → x ≡ label_of line → none ≡ not (is_among (take m (labels (lines source))) (label_of line))
fresh-is line {source} {table} {values} {count} {m} {x} t h r found none is e =
    other_side (is_some r) none is
    ∙ ap not
    (found_among r found
    ∙ ap (λ (ns : List (List ℕ)). is_among ns x) (sym (first-names source table count m h) ∙ ap (take m) t.names)
    ∙ ap (is_among (take m (labels (lines source)))) e)
  where
    found_among : (r : Option ℕ) → Found source table m x r → is_some r ≡ is_among (names_of source table m) x
    found_among None f = sym f
    found_among (Some k) f = sym f.among

-- ---- all

-- The answers to all questions of a line.
pub asked : (all before : List (List ℕ)) (line : List ℕ) (f : Form) (s : Statement) (fresh placed : Bool) (n m r : ℕ) → f ≡ form_of line → StatementRead all line f s → After all before n m
    → fresh ≡ asked_if (has_label f) (not (is_among (take m (labels all)) (label_of line)))
    → placed ≡ (asked_if (has_code f || has_label f) (leb n last_address) && asked_if (has_label f) (ltb m most_labels))
    → r ≡ (first_no ((2, are_right_bytes line) ∷ (3, is_right f) ∷ (4, s.known) ∷ (5, s.inside) ∷ (6, fresh) ∷ (7, s.defined) ∷ (8, placed) ∷ []) 0 (accepted 0)).number
    → r ≡ (first_no (line_questions all before line) 0 (accepted 0)).number
unfolding line_questions
asked all before line f s fresh placed n m r form says after is_fresh is_placed e =
    rw (← form, after.number, after.first, after.code, ← says.known, ← says.inside, ← is_fresh, ← says.defined, ← is_placed) e
