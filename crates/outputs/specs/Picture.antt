-- The picture of a frame: a binary graymap (PGM, P5), "256x256 .. lines of 256 bytes each .. from the top to the bottom", 0 black, 255 white.
use Rattle.std.specs.Prelude.{ℕ, List, ◌++◌}
use Rattle.text.specs.Bytes.{bytes}

unfoldable pub picture_of : List ℕ → List ℕ
picture_of frame = bytes "P5\n256 256\n255\n" ++ frame
