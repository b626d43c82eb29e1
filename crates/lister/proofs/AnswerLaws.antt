-- How each answer meets its promise. Assumes nothing.
use Rattle.std.specs.Prelude.{Ok, Err}
use Prim.Native.Nat.{ℕ, ◌≤◌, ◌<◌}
use mathlib.Core.Path.{◌≡◌}
use mathlib.Core.Bool.{true, false}
use mathlib.Core.List.{List}
use lib.Dec.{leb}
use lib.ListN.{length}
use borrow.Author.Tests.{le-leb, lt-leb}
use Rattle.text.specs.Place.{put}
use Rattle.text.specs.declared.Outcome.{Outcome}
use Rattle.text.specs.Questions.{refused}
use Rattle.lister.specs.declared.ListError.TheVariants.{WrongLength, UnknownOpcode, NoRoom}
use Rattle.lister.specs.Listing.{listing}
use Rattle.lister.specs.Calls.{first_unknown, list_outcome, TextListed}

module _ (words out : List ℕ) where
  pub wrong_length : 4096 < length words → TextListed words out (Err WrongLength) out
  unfolding list_outcome
  wrong_length h = let long = lt-leb (length words) 4096 h in record { answer = rw long; bytes = rw long }

  -- As many words as can be listed; the search for an unknown opcode found one, ..
  module _ (right : length words ≤ 4096) where
    pub unknown_opcode : (bad : ℕ) → ((next : Outcome) → first_unknown 0 words next ≡ refused 16 bad) → TextListed words out (Err (UnknownOpcode bad)) out
    unfolding list_outcome
    unknown_opcode bad asked = let few = le-leb (length words) 4096 right in record { answer = rw (few, asked); bytes = rw (few, asked) }

    -- .. or none.
    module _ (asked : (next : Outcome) → first_unknown 0 words next ≡ next) where
      pub no_room : leb (length (listing words)) (length out) ≡ false → TextListed words out (Err NoRoom) out
      unfolding list_outcome
      no_room full = let few = le-leb (length words) 4096 right in record { answer = rw (few, asked, full); bytes = rw (few, asked, full) }

      pub wrote : (n : ℕ) (after : List ℕ) → leb (length (listing words)) (length out) ≡ true → after ≡ put out 0 (listing words) → n ≡ length (listing words)
          → TextListed words out (Ok n) after
      unfolding list_outcome
      wrote n after fits q e =
          let few = le-leb (length words) 4096 right in
          record { answer = rw (few, asked, fits, e); bytes = rw (few, asked, fits) q }
