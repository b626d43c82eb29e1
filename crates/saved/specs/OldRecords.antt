-- What is read of a record of edition 1, and what it is when it is saved again.
use Rattle.std.specs.Prelude.{ℕ, ◌≡◌, true, List, ◌∷◌, ◌++◌, take, drop}
use Rattle.bitpack.specs.Format.{fields_in}
use Rattle.devices.specs.Bus.{free_drive}
use Rattle.machine.specs.declared.Record.{Record}
use Rattle.saved.specs.Layout.{edition, fields_one, edition_one, saved_bytes, saved_fields}
use Rattle.saved.specs.Sound.{is_sound}

-- The fields of edition 2 where those of edition 1 are f: its own edition, and after left two zeros.
abbrev pub upgraded : List ℕ → List ℕ
upgraded f = edition ∷ (take 5 (drop 1 f) ++ (0 ∷ 0 ∷ drop 6 f))

-- r is the machine that bytes of edition 1 hold: a sound one with their fields and a free disk, which saves as edition 2 with the same fields.
pub record ReadAs (bytes : List ℕ) (r : Record) : Type 0 where
  pub same_fields : fields_one r ≡ fields_in edition_one bytes
  pub free : r.core.drive ≡ free_drive
  pub sound : is_sound r ≡ true
  pub saves : saved_fields (saved_bytes r) ≡ upgraded (fields_in edition_one bytes)
