-- What the C face promises of assembly text: the number returned, the place and the count written, and each lent memory after the call.
use Rattle.std.specs.Prelude.{ℕ, ◌^◌, ◌≡◌, List, length}
use Rattle.text.specs.Questions.{unless_refused}
use Rattle.text.specs.Ranges.{Below}
use Rattle.text.specs.Place.{put}
use Rattle.assembler.specs.Questions.{assemble_outcome}
use Rattle.assembler.specs.Memories.{assembled_image, assembled_data}
use Rattle.lister.specs.Listing.{listing}
use Rattle.lister.specs.Calls.{list_outcome}

-- `simp_assemble` returns r.
pub record Assembles (source image memory : List ℕ) (r : ℕ) (image_after memory_after : List ℕ) (place : ℕ) : Type 0 where
  pub number : r ≡ (assemble_outcome source (length image) (length memory)).number
  pub line : place ≡ (assemble_outcome source (length image) (length memory)).place
  pub words : image_after ≡ unless_refused (assemble_outcome source (length image) (length memory)) (assembled_image source) image
  pub memory_words : memory_after ≡ unless_refused (assemble_outcome source (length image) (length memory)) (assembled_data source) memory
  pub high_bits : r ≡ 0 → Below (2 ^ 48) image_after

-- `simp_list` returns r.
pub record Lists (words text : List ℕ) (r : ℕ) (text_after : List ℕ) (count place : ℕ) : Type 0 where
  pub number : r ≡ (list_outcome words (length text)).number
  pub byte_count : count ≡ (list_outcome words (length text)).count
  pub word : place ≡ (list_outcome words (length text)).place
  pub bytes : text_after ≡ unless_refused (list_outcome words (length text)) (put text 0 (listing words)) text
