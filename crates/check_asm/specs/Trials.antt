-- What is asked of memories after a trial.
use Rattle.std.specs.Prelude.{ℕ, ◌≡◌, Bool, ◌&&◌, List, eqb, length, replicate}
use Rattle.console.specs.Counts.{IsPrefixLen}
use Rattle.text.specs.Questions.{unless_refused}
use Rattle.text.specs.Place.{put}
use Rattle.text.specs.Same.{same}
use Rattle.assembler.specs.Questions.{assemble_outcome}
use Rattle.assembler.specs.Memories.{assembled_image, assembled_data}
use Rattle.lister.specs.Listing.{listing}
use Rattle.lister.specs.Calls.{list_outcome}

-- Every word is this one.
abbrev pub are_all : List ℕ → ℕ → Bool
are_all words word = same words (replicate (length words) word)

-- What each word of the image and of the data memory holds before, ..
abbrev pub image_pattern : ℕ
image_pattern = 0xA5A5A5A5A5A5A5A5

abbrev pub data_pattern : ℕ
data_pattern = 0xA5A5A5A5

-- .. and still does.
abbrev pub is_kept : (image memory : List ℕ) → Bool
is_kept image memory = are_all image image_pattern && are_all memory data_pattern

-- A text is assembled into this image and a data memory of zeros.
abbrev pub is_image_of : (source image : List ℕ) → Bool
is_image_of source image =
    eqb (assemble_outcome source 4096 4096).number 0 && are_all (assembled_data source) 0 && same (assembled_image source) image

-- Words are listed into a text, of which n bytes are the listing then; none, and the text is as before, where they are refused.
pub record ListedInto (words before : List ℕ) (n : ℕ) (after : List ℕ) : Type 0 where
  pub count : n ≡ (list_outcome words (length before)).count
  pub bytes : after ≡ unless_refused (list_outcome words (length before)) (put before 0 (listing words)) before
  pub within : IsPrefixLen n after
