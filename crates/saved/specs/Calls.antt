-- Saving a record, and reading one.
use Rattle.std.specs.Prelude.{ℕ, Bool, not, cond, ◌&&◌, ◌||◌, List, [], ◌∷◌, eqb, ltb, length, replicate}
use Rattle.text.specs.declared.Outcome.{Outcome}
use Rattle.text.specs.Questions.{Question, accepted, first_no, unless_refused}
use Rattle.bitpack.specs.Format.{Format, edition_in, last_in, record_in}
use Rattle.machine.specs.declared.Record.{Record}
use Rattle.machine.specs.State.{fresh_core}
use Rattle.saved.specs.Layout.{record_bytes, saved_bytes, edition_one, edition_two}
use Rattle.saved.specs.Sound.{is_sound}

-- The fresh record, all zero, as `State.fresh_machine` has it.
abbrev pub fresh_record : Record
fresh_record = record { core = fresh_core; regs = replicate 13 0; io = replicate 23 0 }

-- ---- saving, as edition 2

-- "are the lent lengths those above (..)? 1.": any but 94 gets a no, a longer one too. "Saving: sound? 13."
abbrev pub save_questions : Record → List ℕ → List Question
save_questions r out = (1, eqb (length out) record_bytes) ∷ (13, is_sound r) ∷ []

abbrev pub save_outcome : Record → List ℕ → Outcome
save_outcome r out = first_no (save_questions r out) 0 (accepted 0)

-- The lent bytes after saving.
abbrev pub save_bytes : Record → List ℕ → List ℕ
save_bytes r out = unless_refused (save_outcome r out) (saved_bytes r) out

-- ---- reading, of both editions

-- The format by the length: edition 1's where the bytes are as many as it has.
unfoldable pub format_of : List ℕ → Format Record
format_of bytes = cond (eqb (length bytes) edition_one.bytes) edition_one edition_two

-- "five zero bits at the end", "soundness covers all of this": another value there is 13, as an unsound record is.
abbrev pub is_sound_in : Format Record → List ℕ → Bool
is_sound_in F bytes = eqb (last_in F bytes) 0 && is_sound (record_in F bytes)

-- "a busy edition 1": it has no sector and no buffer taken.
abbrev pub is_busy_one : Format Record → List ℕ → Bool
is_busy_one F bytes = eqb F.edition 1 && ltb 0 (record_in F bytes).core.drive.left

-- "It refuses, on reading, a length other than 91 or 94 (1), then an edition that isn't that length's (14), an unsound record (13), a busy edition 1 (20)."
abbrev pub load_questions : List ℕ → List Question
load_questions bytes =
    let F = format_of bytes in
    (1, eqb (length bytes) 91 || eqb (length bytes) 94)
    ∷ (14, eqb (edition_in F bytes) F.edition)
    ∷ (13, is_sound_in F bytes)
    ∷ (20, not (is_busy_one F bytes))
    ∷ []

abbrev pub load_outcome : List ℕ → Outcome
load_outcome bytes = first_no (load_questions bytes) 0 (accepted 0)

-- The record handed back: the one read; where the call is refused, "a record reader the fresh one".
abbrev pub load_record : List ℕ → Record
load_record bytes = unless_refused (load_outcome bytes) (record_in (format_of bytes) bytes) fresh_record
