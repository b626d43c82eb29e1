-- What the lister is asked, what it answers and what it promises.
use Rattle.std.specs.Prelude.{ℕ, ◌+◌, ◌≤◌, ◌<◌, ◌≡◌, Option, Some, None, Result, List, [], ◌∷◌, leb, length, get_or}
use Rattle.text.specs.declared.Outcome.{Outcome}
use Rattle.text.specs.Questions.{accepted, refused, counted, first_no, unless_refused}
use Rattle.text.specs.Place.{put}
use Rattle.files.specs.Sizes.{image_words}
use Rattle.isa.specs.Word.{fields_of}
use Rattle.lister.specs.declared.ListError.{ListError}
use Rattle.lister.specs.declared.ListError.TheVariants.{WrongLength, UnknownOpcode, NoRoom}
use Rattle.lister.specs.Listing.{listing}

-- The outcome of each answer: document 01's number, the place and the count.
abbrev pub refusal_of : ListError → Outcome
refusal_of WrongLength = refused 1 0
refusal_of (UnknownOpcode word) = refused 16 word
refusal_of NoRoom = refused 15 0

abbrev pub listed_outcome : Result ℕ ListError → Outcome
listed_outcome answer = counted refusal_of answer

-- "halt (21)" is the last opcode.
abbrev pub last_opcode : ℕ
last_opcode = 21

-- Every word has an opcode that names an operation.
abbrev pub KnownOpcodes : List ℕ → Type 0
KnownOpcodes words = (k : ℕ) → k < length words → (fields_of (get_or words k 0)).op ≤ last_opcode

-- "opcode at most 21? 16", of each word in turn, "listed word from 0"; i words stand before these. Where all are, the outcome is `next`.
unfoldable pub first_unknown : (i : ℕ) → List ℕ → Outcome → Outcome
first_unknown i [] next = next
first_unknown i (w ∷ ws) next = first_no ((16, leb (fields_of w).op last_opcode) ∷ []) i (first_unknown (i + 1) ws next)

-- What is told of the first word that has an unknown opcode, if there is one; else the outcome is `next` (for the code).
abbrev pub unknown_told : Option ℕ → Outcome → Outcome
unknown_told None next = next
unknown_told (Some word) next = refused 16 word

-- "are the lent lengths those above (.. listed part up to 4,096 words)? 1. .. Lister: opcode at most 21? 16. Then ..: does the whole text fit? 15."
unfoldable pub list_outcome : (words : List ℕ) (room : ℕ) → Outcome
list_outcome words room =
    first_no ((1, leb (length words) image_words) ∷ []) 0
    (first_unknown 0 words
    (first_no ((15, leb (length (listing words)) room) ∷ []) 0 (accepted (length (listing words)))))

-- Words are listed into the front of `out`; r is answered, and the slice is `after` then.
pub record TextListed (words out : List ℕ) (r : Result ℕ ListError) (after : List ℕ) : Type 0 where
  pub answer : listed_outcome r ≡ list_outcome words (length out)
  pub bytes : after ≡ unless_refused (list_outcome words (length out)) (put out 0 (listing words)) out
