-- What reading a HEX file promises.
use Rattle.std.specs.Prelude.{ℕ, ◌≡◌, Bool, true, false, cond, ◌&&◌, List, eqb, leb, length}
use Rattle.files.specs.Front.{IsFront}
use Rattle.intel_hex.specs.Reading.{hex_outcome, hex_words}

-- The most bytes of a file that is read.
abbrev pub most_bytes : ℕ
most_bytes = 1048576

-- Whether this text is accepted for a memory of n words: it has no more bytes, and the definition of `intel_hex` refuses nothing.
abbrev pub is_accepted : ℕ → List ℕ → Bool
is_accepted n text = leb (length text) most_bytes && eqb (hex_outcome n n text).number 0

-- This text was read into a memory: r is whether it is accepted. The memory is what the text gives then; else it is as before.
pub record HexTextRead (text : List ℕ) (r : Bool) (before after : List ℕ) : Type 0 where
  pub is : r ≡ is_accepted (length before) text
  pub words : after ≡ cond r (hex_words (length before) text) before

-- So was every whole text whose front the buffer holds in its first n bytes.
abbrev pub HexFront : (buffer : List ℕ) (n : ℕ) (r : Bool) (before after : List ℕ) → Type 0
HexFront buffer n r before after = (whole : List ℕ) → IsFront buffer n whole → HexTextRead whole r before after

-- A memory was read from a file, whose text can't be named: it is what some text gives that is accepted.
pub record HexFileLoaded (before after : List ℕ) : Type 0 where
  pub text : List ℕ
  pub good : is_accepted (length before) text ≡ true
  pub words : after ≡ hex_words (length before) text

-- Whether the file is accepted; where not, or where it can't be read, the memory is as before.
abbrev pub Loaded : Bool → List ℕ → List ℕ → Type 0
Loaded true before after = HexFileLoaded before after
Loaded false before after = after ≡ before
