-- Return trips of saved records, once over formats. Assumes nothing.
use Prim.Native.Nat.{ℕ, ◌*◌}
use mathlib.Core.Path.{◌≡◌, sym, ◌∙◌, ap}
use mathlib.Core.Bool.{Bool, true}
use mathlib.Core.List.{List}
use lib.ListN.{length, get_or}
use lib.Pow.{are_bytes}
use Rattle.bitpack.specs.Packed.{packed, fit, bytes_of, number_of}
use Rattle.bitpack.specs.Needs.{Packs}
use Rattle.bitpack.specs.Format.{Format, Inverse, last_of, bytes_of_record, fields_in, edition_in, last_in, record_in}
use Rattle.bitpack.proofs.PackLaws.{length-unpacked, fit-unpacked}
use Rattle.bitpack.proofs.ByteLaws.{length-bytes, recoded, repacked}

module _ {R : Type 0} (F : Format R) where
  -- A saved record has the bytes of its format.
  pub length-saved : (r : R) → length (bytes_of_record F r) ≡ F.bytes
  unfolding bytes_of_record
  length-saved r = length-bytes F.bytes (packed F.widths (F.fields_of r))

  -- The fields of bytes are as many as the widths, and fit them.
  pub length_fields : (b : List ℕ) → length (fields_in F b) ≡ length F.widths
  unfolding fields_in
  length_fields b = length-unpacked F.widths (number_of b)

  pub fields_fit : (b : List ℕ) → fit F.widths (fields_in F b) ≡ true
  unfolding fields_in
  fields_fit b = fit-unpacked F.widths (number_of b)

  module _ (holds : R → Bool) (inverse : Inverse F holds) where
    pub packs : (r : R) → holds r ≡ true → Packs F.widths (F.fields_of r) F.bytes
    packs r h = record { fitting = inverse.fits r h; whole = inverse.whole; small = inverse.small }

    -- ---- saved, then read

    module _ (r : R) (h : holds r ≡ true) where
      -- The bytes of a record have its fields, ..
      pub fields_back : fields_in F (bytes_of_record F r) ≡ F.fields_of r
      unfolding fields_in bytes_of_record
      fields_back = recoded (packs r h)

      -- .. its edition first and zero bits last, ..
      pub edition-back : edition_in F (bytes_of_record F r) ≡ F.edition
      edition-back = ap (λ (f : List ℕ). get_or f 0 0) fields_back ∙ inverse.begins r

      pub last-back : last_in F (bytes_of_record F r) ≡ 0
      last-back = ap (last_of F.widths) fields_back ∙ inverse.ends r h

      -- .. and are the record.
      pub record_back : record_in F (bytes_of_record F r) ≡ r
      record_back = ap F.record_of fields_back ∙ inverse.record_again r h

    -- Records with the same bytes are the same.
    pub same_bytes : (r s : R) → holds r ≡ true → holds s ≡ true → bytes_of_record F r ≡ bytes_of_record F s → r ≡ s
    same_bytes r s p q e = sym (record_back r p) ∙ ap (record_in F) e ∙ record_back s q

    -- ---- read, then saved

    module _ (b : List ℕ) (edition : edition_in F b ≡ F.edition) (last : last_in F b ≡ 0) where
      -- The record of bytes of this edition has their fields, ..
      pub fields_kept : F.fields_of (record_in F b) ≡ fields_in F b
      fields_kept = inverse.fields_again (fields_in F b) (length_fields b) edition last

      -- .. which fit, ..
      pub read-fit : fit F.widths (F.fields_of (record_in F b)) ≡ true
      read-fit = ap (fit F.widths) fields_kept ∙ fields_fit b

      -- .. and saves as these bytes.
      pub bytes_back : length b ≡ F.bytes → are_bytes b ≡ true → bytes_of_record F (record_in F b) ≡ b
      unfolding bytes_of_record fields_in
      bytes_back size bytes =
          ap (λ (f : List ℕ). bytes_of F.bytes (packed F.widths f)) fields_kept
          ∙ ap (λ (k : ℕ). bytes_of k (packed F.widths (fields_in F b))) (sym size)
          ∙ repacked F.widths b (inverse.whole ∙ ap (λ (k : ℕ). 8 * k) (sym size)) bytes
