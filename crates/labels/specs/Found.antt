-- What the first pass answers (for the code).
use Rattle.std.specs.Prelude.{ℕ, ◌<◌, ◌≡◌, Option, Some, None, List, length}
use Rattle.symbols.specs.Table.{entry_at}
use Rattle.labels.specs.declared.Labels.{Labels}
use Rattle.labels.specs.Tables.{labels_within}

-- The labels of a text; none where the table, of so many words, has no room for as many as a text of that length can have.
abbrev pub LabelsFound : (source : List ℕ) (words : ℕ) → Option Labels → Type 0
LabelsFound source words None = words < entry_at (labels_within (length source))
LabelsFound source words (Some l) = l.names.source.now ≡ source
