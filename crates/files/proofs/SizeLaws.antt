-- What the length of a part of the disk tells. Assumes nothing.
use Prim.Native.Nat.{ℕ, ◌+◌, ◌*◌, ◌%◌, ◌≤◌, ◌<◌}
use mathlib.Core.Path.{◌≡◌}
use mathlib.Core.Bool.{true, ◌&&◌}
use mathlib.Core.List.{List}
use native.Mathlib.Omega.{arith}
use lib.ListN.{length}
use lib.Dec.{eqb, ltb, leb}
use borrow.Author.Tests.{eqb-true, ltb-true, leb-true, eq-eqb, le-leb}
use Rattle.text.proofs.Truth.{and_left, and_right}
use Rattle.files.specs.Sizes.{is_part_length, is_disk_part}
use Rattle.files.specs.MemoryFile.{sectors_of, file_text}
use Rattle.files.proofs.PutLaws.{length-text, length-words}

module _ (n first sectors : ℕ) (h : is_disk_part n first sectors ≡ true) where
  size : (eqb n 16384 && ltb 0 sectors) ≡ true
  size = and_left (eqb n 16384 && ltb 0 sectors) (leb (first + sectors) 128) h

  pub part-words : n ≡ 16384
  part-words = eqb-true n 16384 (and_left (eqb n 16384) (ltb 0 sectors) size)

  pub part-within : first + sectors ≤ 128
  part-within = leb-true (first + sectors) 128 (and_right (eqb n 16384 && ltb 0 sectors) (leb (first + sectors) 128) h)

  pub part-some : 0 < sectors
  part-some = ltb-true 0 sectors (and_right (eqb n 16384) (ltb 0 sectors) size)

module _ (disk : List ℕ) (first sectors : ℕ) (h : is_disk_part (length disk) first sectors ≡ true) where
  -- A part of the disk has 128 words a sector.
  pub length_sectors : length (sectors_of disk first sectors) ≡ 128 * sectors
  length_sectors =
      let words = part-words (length disk) first sectors h in
      let within = part-within (length disk) first sectors h in
      length-words disk first sectors (omega arith)

  -- Its text has 128 lines of 9 bytes a sector.
  pub length_part : length (file_text 8 (sectors_of disk first sectors)) ≡ 1152 * sectors
  length_part = rw (length-text, length_sectors) (omega arith)

  -- As many words are a part that can be read into.
  pub is-part : (n : ℕ) → n ≡ 128 * sectors → is_part_length n ≡ true
  is-part n e =
      let within = part-within (length disk) first sectors h in
      let some = part-some (length disk) first sectors h in
      rw (eq-eqb (n % 128) 0 (omega arith), le-leb 128 n (omega arith), le-leb n 16384 (omega arith))
