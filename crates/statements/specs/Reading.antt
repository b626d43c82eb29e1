-- What is read of a line (for the code).
use Rattle.std.specs.Prelude.{ℕ, ◌≤◌, ◌<◌, ◌^◌, ◌≡◌, true, ◌&&◌, List, [], length, get_or, take}
use Rattle.source.specs.Numbers.{number}
use Rattle.source.specs.Lookup.{place_of}
use Rattle.lines.specs.declared.Form.{Form}
use Rattle.lines.specs.Line.{has_code, has_word, part, operand}
use Rattle.lines.specs.Ranges.{is_immediate, modulo}
use Rattle.lines.specs.Asked.{is_known, are_in_range, is_word_in_range}
use Rattle.labels.specs.Text.{code_count, labels, are_right}
use Rattle.labels.specs.Limits.{most_labels}
use Rattle.statements.specs.declared.Statement.{Statement}
use Rattle.statements.specs.declared.Immediate.{Immediate}
use Rattle.statements.specs.Questions.{asked_if, is_usable}
use Rattle.statements.specs.Encoding.{immediate, encoded}

-- Lines of right forms, no more labels than 1,024, and none twice, as in a good text.
pub record Usual (all : List (List ℕ)) : Type 0 where
  pub right : are_right all ≡ true
  pub few : length (labels all) ≤ most_labels
  pub distinct : (k : ℕ) → k < length (labels all) → place_of (labels all) (get_or (labels all) k []) ≡ k

-- An immediate of a text with these lines.
pub record ImmediateRead (all : List (List ℕ)) (t : List ℕ) (i : Immediate) : Type 0 where
  pub inside : i.inside ≡ is_immediate (number t)
  pub defined : i.defined ≡ is_usable (labels all) t
  pub value : i.defined ≡ true → Usual all → i.value ≡ immediate all t
  pub fits : i.value < 2 ^ 12

-- What a line of this form, of a text with these lines, says. Its word is right where its names are known and its labels defined.
pub record StatementRead (all : List (List ℕ)) (line : List ℕ) (f : Form) (s : Statement) : Type 0 where
  pub known : s.known ≡ asked_if (has_code f) (is_known f line)
  pub inside : s.inside ≡ (asked_if (has_code f) (are_in_range f line) && asked_if (has_word f) (is_word_in_range line))
  pub defined : s.defined ≡ asked_if (has_code f) (is_usable (labels all) (operand 4 f line) && is_usable (labels all) (operand 5 f line))
  pub word : has_code f ≡ true → s.known ≡ true → s.defined ≡ true → Usual all → s.word ≡ encoded all line
  pub word_fits : s.word < 2 ^ 48
  pub address : has_word f ≡ true → s.address ≡ modulo 4096 (number (part 1 line))
  pub address-fits : s.address < 2 ^ 12
  pub value : has_word f ≡ true → s.value ≡ modulo (2 ^ 32) (number (part 2 line))

-- These are the first lines of a text, with n instructions and m labels.
pub record After (all before : List (List ℕ)) (n m : ℕ) : Type 0 where
  pub code : code_count before ≡ n
  pub number : length (labels before) ≡ m
  pub first : labels before ≡ take m (labels all)
  pub within : m ≤ length (labels all)
