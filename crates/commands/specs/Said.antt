-- What the command `asm` says of a program.
use Rattle.std.specs.Prelude.{ℕ, cond, List, [], ◌∷◌, eqb}
use Rattle.text.specs.Bytes.{bytes}
use Rattle.text.specs.Numerals.{decimal}
use Rattle.console.specs.Line.{PiecesPut}
use Rattle.commands.specs.declared.assembling.WrittenFiles.{WrittenFiles}
use Rattle.commands.specs.declared.assembling.WrittenFiles.TheVariants.{Neither, First, Both}

-- How many instructions it has.
abbrev pub count_pieces : ℕ → List (List ℕ)
count_pieces count = decimal count ∷ cond (eqb count 1) (bytes " instruction; ") (bytes " instructions; ") ∷ []

-- Which of its two files are written.
abbrev pub written_pieces : WrittenFiles → List ℕ → List ℕ → List (List ℕ)
written_pieces Neither first second = bytes "nothing is written\n" ∷ []
written_pieces First first second = first ∷ bytes " is written, " ∷ second ∷ bytes " is not\n" ∷ []
written_pieces Both first second = first ∷ bytes " and " ∷ second ∷ bytes " are written\n" ∷ []

-- A name that an argument gives, which can't be named here, is put on a line.
pub record NamePut (before : List ℕ) (at : ℕ) (after : List ℕ) (r : ℕ) : Type 0 where
  pub name : List ℕ
  pub is-put : PiecesPut (name ∷ []) before at after r

-- Which files are written is put on a line, their names being two such.
pub record WrittenPut (written : WrittenFiles) (before : List ℕ) (at : ℕ) (after : List ℕ) (r : ℕ) : Type 0 where
  pub first : List ℕ
  pub second : List ℕ
  pub is-put : PiecesPut (written_pieces written first second) before at after r
