-- A format of saved records, as data, over any type of record.
use Rattle.std.specs.Prelude.{ℕ, ◌-◌, ◌*◌, ◌≡◌, Bool, true, List, length, get_or}
use Rattle.bitpack.specs.Packed.{total, packed, unpacked, fit, bytes_of, number_of}
use Rattle.bitpack.specs.Needs.{most_bits, narrow}

-- The first field is the edition; the last are the zero bits that fill the last byte, none where the others fill it.
pub record Format (R : Type 0) : Type 0 where
  pub edition : ℕ
  pub bytes : ℕ
  pub widths : List ℕ
  pub fields_of : R → List ℕ
  pub record_of : List ℕ → R

-- The last of so many fields.
abbrev pub last_of : List ℕ → List ℕ → ℕ
last_of widths f = get_or f (length widths - 1) 0

module _ {R : Type 0} (F : Format R) where
  -- The bytes of a record.
  unfoldable pub bytes_of_record : R → List ℕ
  bytes_of_record r = bytes_of F.bytes (packed F.widths (F.fields_of r))

  -- The fields of bytes, the edition that they name, the bits at their end, and their record.
  unfoldable pub fields_in : List ℕ → List ℕ
  fields_in bytes = unpacked F.widths (number_of bytes)

  abbrev pub edition_in : List ℕ → ℕ
  edition_in bytes = get_or (fields_in bytes) 0 0

  abbrev pub last_in : List ℕ → ℕ
  last_in bytes = last_of F.widths (fields_in bytes)

  abbrev pub record_in : List ℕ → R
  record_in bytes = F.record_of (fields_in bytes)

-- What makes it a format of the records that pass a test: a record and its fields are two forms of one thing; the fields fit, with the edition first and
-- zero last; and the widths, none above 40 bits, fill the bytes.
pub record Inverse {R : Type 0} (F : Format R) (holds : R → Bool) : Type 0 where
  pub record_again : (r : R) → holds r ≡ true → F.record_of (F.fields_of r) ≡ r
  pub fields_again : (f : List ℕ) → length f ≡ length F.widths → get_or f 0 0 ≡ F.edition → last_of F.widths f ≡ 0 → F.fields_of (F.record_of f) ≡ f
  pub fits : (r : R) → holds r ≡ true → fit F.widths (F.fields_of r) ≡ true
  pub begins : (r : R) → get_or (F.fields_of r) 0 0 ≡ F.edition
  pub ends : (r : R) → holds r ≡ true → last_of F.widths (F.fields_of r) ≡ 0
  pub whole : total F.widths ≡ 8 * F.bytes
  pub small : narrow most_bits F.widths ≡ true
