-- The lines of a text: its instructions and its labels.
use Rattle.std.specs.Prelude.{ℕ, suc, ◌+◌, Bool, true, cond, ◌&&◌, List, [], ◌∷◌}
use Rattle.text.specs.Same.{same}
use Rattle.lines.specs.Line.{form_of, is_right, has_label, has_code, label_of}

-- How many instructions lines have.
unfoldable pub code_count : List (List ℕ) → ℕ
code_count [] = 0
code_count (l ∷ ls) = cond (has_code (form_of l)) (suc (code_count ls)) (code_count ls)

-- The labels that they define, on lines that pass 2 and 3, in order.
unfoldable pub labels : List (List ℕ) → List (List ℕ)
labels [] = []
labels (l ∷ ls) = cond (has_label (form_of l)) (label_of l ∷ labels ls) (labels ls)

-- Each line passes questions 2 and 3.
unfoldable pub are_right : List (List ℕ) → Bool
are_right [] = true
are_right (l ∷ ls) = is_right (form_of l) && are_right ls

-- The lines before the first one that defines a label; all of them where none does.
unfoldable pub lines_before : List (List ℕ) → List ℕ → List (List ℕ)
lines_before [] t = []
lines_before (l ∷ ls) t = cond (has_label (form_of l) && same t (label_of l)) [] (l ∷ lines_before ls t)

-- "its value is the count of instructions before it"
unfoldable pub value_of : List (List ℕ) → List ℕ → ℕ
value_of all t = code_count (lines_before all t)

-- The values of the labels, in their order, where `before` instructions stand before these lines (for the code: `value-at` ties them to `value_of`).
unfoldable pub label_values : (before : ℕ) → List (List ℕ) → List ℕ
label_values before [] = []
label_values before (l ∷ ls) =
    let more = label_values (cond (has_code (form_of l)) (before + 1) before) ls in
    cond (has_label (form_of l)) (before ∷ more) more
