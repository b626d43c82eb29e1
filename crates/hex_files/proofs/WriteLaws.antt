-- How each answer of the writers meets its promise. Assumes nothing.
use Rattle.std.specs.Prelude.{Ok, Err}
use Prim.Native.Nat.{ℕ, ◌+◌, ◌*◌, ◌%◌, ◌≤◌, ◌<◌}
use mathlib.Core.Path.{◌≡◌, ◌∙◌}
use mathlib.Core.List.{List}
use native.Mathlib.Nat.{zero-add}
use lib.ListN.{length}
use lib.Dec.{eqb}
use borrow.Author.Tests.{eq-eqb, ne_eqb}
use Rattle.text.specs.Place.{Puts}
use Rattle.files.specs.Promises.{TextWritten}
use Rattle.files.proofs.AnswerLaws.{wrong_length, no_room, wrote}
use Rattle.intel_hex.specs.Writing.{hex_text}
use Rattle.intel_hex.proofs.PutLaws.{length-text}
use Rattle.files.specs.declared.WriteError.{WriteError}

-- A memory that is to have so many words.
module _ (m : List ℕ) (words : ℕ) (out : List ℕ) where
  pub not_so_many : (length m ≡ words → ⊥) → TextWritten (eqb (length m) words) (hex_text m) out (Err WriteError.WrongLength) out
  not_so_many h = wrong_length (ne_eqb (length m) words h)

  module _ (size : length m ≡ words) (fours : words % 4 ≡ 0) where
    text_size : length (hex_text m) ≡ 11 * words + 12
    text_size = length-text m (rw size fours) ∙ rw size

    pub too_long : length out < 11 * words + 12 → TextWritten (eqb (length m) words) (hex_text m) out (Err WriteError.NoRoom) out
    too_long h = no_room (eq-eqb (length m) words size) (rw text_size h)

    pub all-written : 11 * words + 12 ≤ length out → (n : ℕ) (after : List ℕ) → Puts out 0 (hex_text m) n after
        → TextWritten (eqb (length m) words) (hex_text m) out (Ok n) after
    all-written h n after p = wrote (eq-eqb (length m) words size) (rw text_size h) (p.1 ∙ zero-add (length (hex_text m))) p.0
