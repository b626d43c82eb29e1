-- Paths.
use Rattle.std.specs.Prelude.{ℕ, ◌+◌, cond, List, [], ◌++◌, leb, length}
use Rattle.text.specs.Bytes.{bytes}

-- The path of the new file that stands beside the old one, where there is room for it; else the empty path, which names no file.
unfoldable pub new_path : ℕ → List ℕ → List ℕ
new_path room path = cond (leb (length path + 4) room) (path ++ bytes ".new") []
