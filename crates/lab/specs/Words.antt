-- Which command a word names.
use Rattle.std.specs.Prelude.{ℕ, cond, List, Option, Some, None}
use Rattle.text.specs.Bytes.{bytes}
use Rattle.text.specs.Same.{same}
use Rattle.lab.specs.declared.Command.{Command}
use Rattle.lab.specs.declared.Command.TheVariants.{List as list, Show, Picture, Resume, Hex}

abbrev pub command_of : List ℕ → Option Command
command_of word =
    cond (same word (bytes "list")) (Some list)
    (cond (same word (bytes "show")) (Some Show)
    (cond (same word (bytes "picture")) (Some Picture)
    (cond (same word (bytes "resume")) (Some Resume)
    (cond (same word (bytes "hex")) (Some Hex)
    None))))
