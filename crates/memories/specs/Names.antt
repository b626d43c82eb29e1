-- Names of files that arguments give.
use Rattle.std.specs.Prelude.{ℕ, Bool, not, ◌&&◌, ◌||◌, List, ◌++◌, take}
use Rattle.text.specs.Bytes.{bytes}
use Rattle.text.specs.Same.{same}

-- A device's name begins with `/dev/`.
abbrev pub is_device : List ℕ → Bool
is_device name = same (take 5 name) (bytes "/dev/")

-- A new file stands beside the old one under its name and `.new`.
abbrev pub is_new_of : List ℕ → List ℕ → Bool
is_new_of new name = same new (name ++ bytes ".new")

-- Two files, one of which at least is written, stand at one place: the names are the same, or one is the other's new file. A device may be named again.
unfoldable pub clash : List ℕ → List ℕ → Bool
clash a b = not (is_device a) && (is_new_of a b || is_new_of b a || same a b)
