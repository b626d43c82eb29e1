-- The instruction file, the file of data and the file of the disk of a folder, read up to the first that is refused.
use Rattle.std.specs.Prelude.{ℕ, ◌≡◌, List}
use Rattle.text.specs.declared.Outcome.{Outcome}
use Rattle.files.specs.Sizes.{is_image_length, is_data_length, is_part_length, image_digits, word_digits}
use Rattle.files.specs.Loaded.{FileLoaded}

-- The memories of a folder, before and after.
pub record Memories : Type 0 where
  pub image : List ℕ
  pub memory : List ℕ
  pub disk : List ℕ

-- What is told of a file, and its memory before and after.
abbrev pub ImageLoaded : Outcome → Memories → Memories → Type 0
ImageLoaded t m n = FileLoaded image_digits is_image_length t m.image n.image

abbrev pub DataLoaded : Outcome → Memories → Memories → Type 0
DataLoaded t m n = FileLoaded word_digits is_data_length t m.memory n.memory

abbrev pub DiskLoaded : Outcome → Memories → Memories → Type 0
DiskLoaded t m n = FileLoaded word_digits is_part_length t m.disk n.disk

-- A file is accepted: number 0 is told of it.
abbrev pub Accepted : (Outcome → Type 0) → Type 0
Accepted Loaded = (t : Outcome) × (t.number ≡ 0) × Loaded t

-- t is told of the first file that is refused, or of the last; those before it are accepted, and the memories after it are as they were.
pub data MemoriesLoaded (t : Outcome) (m n : Memories) : Type 0 where
  image-refused : (t.number ≡ 0 → ⊥) → ImageLoaded t m n → n.memory ≡ m.memory → n.disk ≡ m.disk → MemoriesLoaded t m n
  data_refused : (t.number ≡ 0 → ⊥) → Accepted (λ s. ImageLoaded s m n) → DataLoaded t m n → n.disk ≡ m.disk → MemoriesLoaded t m n
  disk-read : Accepted (λ s. ImageLoaded s m n) → Accepted (λ s. DataLoaded s m n) → DiskLoaded t m n → MemoriesLoaded t m n
