-- What the first pass knows of a text's labels (for the code).
use Rattle.std.specs.Prelude.{ℕ, ◌+◌, ◌-◌, ◌/◌, ◌≤◌, ◌<◌, ◌≡◌, Bool, true, false, cond, List, [], ◌∷◌, ◌++◌, ltb, length, get_or, set, take, drop}
use Rattle.lines.specs.Line.{label_of}
use Rattle.symbols.specs.Table.{names_of}
use Rattle.symbols.specs.Sound.{Sound}
use Rattle.labels.specs.Text.{labels, are_right, label_values}
use Rattle.labels.specs.Limits.{most_labels}

-- A table has the labels of lines, which stand in the text `source`, and `values` has the values of the first 1,024 if the lines have right forms.
pub record LabelTable (source : List ℕ) (ls : List (List ℕ)) (table values : List ℕ) (count : ℕ) : Type 0 where
  pub sound : Sound source table count
  pub names : names_of source table count ≡ labels ls
  pub room : length values ≡ most_labels
  pub valued : are_right ls ≡ true → (k : ℕ) → k < count → k < most_labels → get_or values k 0 ≡ get_or (label_values 0 ls) k 0

-- How many labels a text of n bytes has at most: a line that defines one has three bytes with its LF, but for the last.
abbrev pub labels_within : ℕ → ℕ
labels_within n = n / 3 + 1

-- A line from p to e of a text, and n instructions and m labels before it, is noted in a table of labels and their values, if it defines a label.
pub record LabelNoted (source : List ℕ) (p e : ℕ) (label : Bool) (table values : List ℕ) (n m r : ℕ) (table_after values_after : List ℕ) : Type 0 where
  pub none : label ≡ false → (r ≡ m) × (table_after ≡ table) × (values_after ≡ values)
  pub some : label ≡ true
      → (r ≡ m + 1)
      × (names_of source table_after (m + 1) ≡ names_of source table m ++ (label_of (take (e - p) (drop p source)) ∷ []))
      × (values_after ≡ cond (ltb m most_labels) (set values m n) values)
      × (p + 2 ≤ e)
  pub room : length table_after ≡ length table
