use native.Mathlib.Numerals.{add-one}
use Rattle.text.specs.Numerals.{low_bytes}
use Rattle.text.specs.Place.{put}
use Rattle.text.proofs.hex_words.put_two.Goals as goal

pub returns : goal.returns
unfolding put low_bytes
returns c = rw add-one
